use Rattle.std.proofs.Common.{sym}
use Rattle.code_attribute.specs.Operands.{first_wrong_operand}
use Rattle.code_attribute.proofs.Firsts.{passes, finds, ends}
use Rattle.code_attribute.proofs.operands.first_wrong_operand.Goals as goal

pub returns-in-Some : goal.returns-in-Some
returns-in-Some c =
    let pool = c.args.pool.now in
    let code = c.args.code.now in
    sym (finds pool code c.loop-placed.placed-index (first_wrong_operand pool code) c.loop-placed.invariant
    c.placed-item.result c.in-Some.fault c.loop-placed-test.true c.placed-item.is (sym c.in-Some.ensures))

pub loop-placed-preserved : goal.loop-placed-preserved
loop-placed-preserved c =
    let pool = c.args.pool.now in
    let code = c.args.code.now in
    passes pool code c.loop-placed.placed-index (first_wrong_operand pool code) c.loop-placed.invariant
    c.placed-item.result c.loop-placed-test.true c.placed-item.is (sym c.in_default.ensures)

pub returns : goal.returns
returns c =
    let pool = c.args.pool.now in
    let code = c.args.code.now in
    sym (ends pool code c.loop-placed.placed-index (first_wrong_operand pool code) c.loop-placed.invariant
    c.loop-placed-test.false)
