use Rattle.std.proofs.Common.{◌<◌, length, sym, ◌∙◌, ap, subst}
use Rattle.shared_heap.specs.Notes.{AreOf64, waiting}
use Rattle.shared_heap.specs.Shared.{Shared}
use Rattle.machine.specs.Remembering.{IsSomeRunning}
use Rattle.machine.proofs.remembering.note_wait.Goals as goal

pub all_wait-requires : goal.all_wait-requires
all_wait-requires g c =
    let is = c.waits_on.ensures.waits ∙ ap (λ (x : Shared). record x { notes = waiting x.notes c.args.t c.args.on })
    c.ask_for.ensures.asks in record {
      running = subst (IsSomeRunning (g.C.Types.facts c.args.set.now)) (sym is)
          (c.requires.notable (subst AreOf64 (ap (λ (x : Shared). x.notes) is) c.waits_on.ensures.threads));
      counted = subst (λ (x : Shared). length x.history.acts < 4294967296) (sym is) c.requires.counted;
    }

pub returns : goal.returns
returns g c = record {
  noted = c.waits_on.ensures.waits ∙ ap (λ (x : Shared). record x { notes = waiting x.notes c.args.t c.args.on })
      c.ask_for.ensures.asks;
  threads = c.waits_on.ensures.threads;
  all = c.all_wait.ensures;
}
