use Rattle.std.proofs.Common.{◌≡◌, drop}
use Rattle.code_attribute.specs.Operands.{first_wrong_operand}
use Rattle.code_attribute.proofs.operands.first_wrong_operand.Given as goal

abbrev pub invariant-loop-placed : goal.invariant-loop-placed
invariant-loop-placed l =
    first_wrong_operand l.pool (drop l.placed-index l.code) ≡ first_wrong_operand l.pool l.code
