use Rattle.std.proofs.Common.{◌≡◌, ◌<◌, ◌^◌, drop}
use Rattle.command_words.specs.Numbers.{digits_from}
use Rattle.command_words.proofs.numbers.digits_from.Given as goal

abbrev pub invariant-loop-digit : goal.invariant-loop-digit
invariant-loop-digit l =
    (l.number < 10 ^ l.digit-index) × (digits_from l.number (drop l.digit-index l.digits) ≡ digits_from 0 l.digits)
