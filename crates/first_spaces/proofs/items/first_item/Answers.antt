use Rattle.std.proofs.Common.{◌+◌, ◌<◌, length, rules}
use Rattle.one_space.proofs.Begun.{known_of_number}
use Rattle.first_spaces.proofs.items.first_item.Goals as goal

pub returns-in-None-clause-known : goal.returns-in-None-clause-known
returns-in-None-clause-known c number from none numbered = (c.default_item.ensures number none).1

pub returns-in-Some-Int-clause-known : goal.returns-in-Some-Int-clause-known
returns-in-Some-Int-clause-known c number from none numbered = c.narrow.ensures.known number tt

pub returns-in-Some-Long-clause-known : goal.returns-in-Some-Long-clause-known
returns-in-Some-Long-clause-known c number from none numbered = c.narrow-in-Some-Long.ensures.known number tt

pub returns-in-Some-Literal-clause-known : goal.returns-in-Some-Literal-clause-known
returns-in-Some-Literal-clause-known c number from none numbered =
    let below : c.in-Some-Literal.k < length c.args.literals.now = search rules in
    c.narrow-in-Some-Literal.ensures.known number
    (known_of_number number _ (from + c.in-Some-Literal.k) (numbered c.in-Some-Literal.k below))
