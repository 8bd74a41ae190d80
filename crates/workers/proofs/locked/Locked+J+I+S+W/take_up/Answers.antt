use Rattle.std.proofs.Common.{◌≡◌, true, List, None, ap, refl, subst, sym, ◌∙◌}
use Rattle.shared_objects.specs.declared.threads.ThreadState.{ThreadState}
use Rattle.run_forms.specs.Views.{ThreadFrames}
use Rattle.durable_run.specs.Turning.{is_live}
use Rattle.turnstile.specs.Entries.{SameButOf}
use Rattle.workers.specs.Shared.{Desked, all_frames, values_of}
use Rattle.workers.proofs.Frames.{left-at}
use Rattle.workers.proofs.Knowing.{knows-as, none-of}
use Rattle.workers.proofs.Stepping.{program-at}
use Rattle.workers.proofs.locked.Locked+J+I+S+W.take_up.Goals as goal

pub begin_started-requires : goal.begin_started-requires
begin_started-requires g c = record {
  noted = rw (ap (λ (d : Desked). d.noted) c.self.view_is) c.requires.noted;
}

pub invariant_of-self : goal.invariant_of-self
invariant_of-self g c =
    let s = c.self.inside in
    let new = c.begin_started.new in (
      knows-as g.J.Naming.entry s.heap (all_frames s.begins (values_of s.notes.items))
          (all_frames new.begins (values_of new.notes.items)) (g.W.Watcher.seen s.watcher) (g.S.Sink.taken s.sink)
          (g.S.Sink.takes s.sink) (g.S.Sink.faults s.sink) s.over s.over c.self.invariant.0
          (sym c.begin_started.ensures.all) refl,
      c.self.invariant.1,
      c.self.invariant.2,
    )

pub returns-clause-others : goal.returns-clause-others
returns-clause-others g c = subst (λ (ps : List ThreadFrames). SameButOf c.args.t ps (values_of c.begin_started.new.notes.items))
    (ap (λ (d : Desked). d.noted) c.self.view_is) c.begin_started.ensures.others

pub returns-clause-program : goal.returns-clause-program
returns-clause-program g c =
    let s = c.self.inside in
    let new = c.begin_started.new in
    let none = none-of s.over (sym c.is_some.ensures ∙ c.if-is_some.false) in
    let knows = knows-as g.J.Naming.entry s.heap (all_frames s.begins (values_of s.notes.items))
    (all_frames new.begins (values_of new.notes.items)) (g.W.Watcher.seen s.watcher) (g.S.Sink.taken s.sink)
    (g.S.Sink.takes s.sink) (g.S.Sink.faults s.sink) s.over None c.self.invariant.0
    (sym c.begin_started.ensures.all) none in
    program-at g.J.Naming.entry s.heap (all_frames new.begins (values_of new.notes.items)) (g.W.Watcher.seen s.watcher)
    (g.S.Sink.taken s.sink) (g.S.Sink.takes s.sink) (g.S.Sink.faults s.sink) knows c.args.t new.frames
    (subst (λ (ts : List ThreadState). is_live ts c.args.t ≡ true) c.threads.ensures (sym c.is_live.ensures ∙ c.if-not-is_live.false)) (left-at new.begins (values_of new.notes.items) c.args.t new.frames c.begin_started.ensures.begun
    c.begin_started.ensures.noted)
