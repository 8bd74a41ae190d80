use Rattle.std.proofs.Common.{◌∙◌, None, ap}
use Rattle.workers.specs.Shared.{Desked, all_frames, values_of}
use Rattle.workers.proofs.Knowing.{knows-as}
use Rattle.workers.proofs.Sparing.{sink-over}
use Rattle.workers.proofs.locked.Locked+J+I+S+W.alone.Goals as goal

pub again-requires : goal.again-requires
again-requires g c =
    let s = c.self.inside in
    let none = ap (λ (d : Desked). d.run.over) c.self.view_is ∙ c.requires.goes in
    record {
      knows = knows-as g.J.Naming.entry s.heap (all_frames s.begins (values_of s.notes.items)) c.args.frames.items
          (g.W.Watcher.seen s.watcher) (g.S.Sink.taken s.sink) (g.S.Sink.takes s.sink) (g.S.Sink.faults s.sink) s.over None
          c.self.invariant.0 (ap (λ (d : Desked). d.run.frames) c.self.view_is ∙ c.requires.all)
          none;
      sink = sink-over g.S.Sink.taken g.J.Naming.entry g.J.Naming.sink s.over None s.sink s.heap none c.self.invariant.2;
    }
