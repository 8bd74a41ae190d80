-- An act of the history is the act that is held at its place.
use Rattle.std.proofs.Common.{arith}
use Rattle.run_history.proofs.HeldLaws.{act_at, act_past}
use Rattle.run_history.proofs.acts.Acts.get.Goals as goal

pub returns-then-at-len : goal.returns-then-at-len
returns-then-at-len c = rw (← c.self.view_is) (record {
  act = act_at c.self.inside.objects.items c.self.inside.held.items c.args.i c.index.result.now (omega arith) c.index.ensures;
})

pub returns-else-at-len : goal.returns-else-at-len
returns-else-at-len c = rw (← c.self.view_is) (record { act = act_past c.self.inside.objects.items c.self.inside.held.items c.args.i (omega arith) })
