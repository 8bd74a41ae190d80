use Rattle.std.proofs.Common.{◌≡◌, ◌++◌, drop}
use Rattle.class_code.specs.Declarations.{dispatch_in}
use Rattle.class_code.proofs.finding.dispatch_in.Given as goal

abbrev pub invariant-loop-number : goal.invariant-loop-number
invariant-loop-number l = l.rows.items ++ dispatch_in l.number (drop l.number l.found) ≡ dispatch_in 0 l.found
