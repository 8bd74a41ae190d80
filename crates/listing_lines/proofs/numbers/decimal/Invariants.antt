use Rattle.std.proofs.Common.{◌≡◌, ◌≤◌, drop}
use Rattle.std.specs.Option.{option_and_then}
use Rattle.listing_lines.specs.Numbers.{decimal_from, decimal, at_most}
use Rattle.listing_lines.proofs.numbers.decimal.Given as goal

abbrev pub invariant-loop-b : goal.invariant-loop-b
invariant-loop-b l = (l.number ≤ 9223372036854775808)
    × (option_and_then (at_most 9223372036854775808) (decimal_from l.number (drop l.b-index l.digits))
    ≡ option_and_then (at_most 9223372036854775808) (decimal l.digits))
