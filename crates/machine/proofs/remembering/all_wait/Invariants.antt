use Rattle.std.proofs.Common.{List}
use Rattle.graph_model.specs.declared.types.Root.{Root}
use Rattle.machine.proofs.StillWaiting.{WaitBelow}
use Rattle.machine.proofs.remembering.all_wait.Given as goal

abbrev pub invariant-loop-n : goal.invariant-loop-n
invariant-loop-n g l = record {
  below : (roots : List Root) → WaitBelow (g.C.Types.facts l.set) l.heap roots l.n;
}
