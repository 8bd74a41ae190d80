use Rattle.std.proofs.Common.{◌≡◌, drop}
use Rattle.listing.specs.Labels.{pc_of}
use Rattle.listing.proofs.labels.pc_of.Given as goal

abbrev pub invariant-loop-mark : goal.invariant-loop-mark
invariant-loop-mark l = pc_of l.name (drop l.mark-index l.marks) ≡ pc_of l.name l.marks
