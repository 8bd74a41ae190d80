use Rattle.std.proofs.Common.{arith}
use Rattle.command_words.proofs.Digits.{small}
use Rattle.command_words.proofs.numbers.digits_from.Goals as goal

pub overflow_mul-number : goal.overflow_mul-number
overflow_mul-number c =
    let n = small c.loop-digit.number c.loop-digit.digit-index c.loop-digit.invariant.0
    (omega (arith, c.loop-digit-test.true, c.requires.short)) in
    omega (arith, n)

pub overflow_add-number : goal.overflow_add-number
overflow_add-number c =
    let n = small c.loop-digit.number c.loop-digit.digit-index c.loop-digit.invariant.0
    (omega (arith, c.loop-digit-test.true, c.requires.short)) in
    omega (arith, n, c.from.type_inv)
