use Rattle.std.proofs.Common.{refl, ◌+◌}
use Rattle.one_space.specs.Layout.{number_in}
use Rattle.one_space.proofs.Begun.{known_of_number}
use Rattle.one_space.proofs.space.OneSpace.first_item.Goals as goal

pub returns-in-None-clause-known : goal.returns-in-None-clause-known
returns-in-None-clause-known c =
    let h = c.args.self.now in (c.default_item.ensures (number_in h.space.words h.starts.items) refl).1

pub returns-in-Some-Int-clause-known : goal.returns-in-Some-Int-clause-known
returns-in-Some-Int-clause-known c =
    let h = c.args.self.now in c.narrow.ensures.known (number_in h.space.words h.starts.items) tt

pub returns-in-Some-Long-clause-known : goal.returns-in-Some-Long-clause-known
returns-in-Some-Long-clause-known c =
    let h = c.args.self.now in c.narrow-in-Some-Long.ensures.known (number_in h.space.words h.starts.items) tt

pub returns-in-Some-Literal-clause-known : goal.returns-in-Some-Literal-clause-known
returns-in-Some-Literal-clause-known c =
    let h = c.args.self.now in
    c.narrow-in-Some-Literal.ensures.known (number_in h.space.words h.starts.items)
    (known_of_number (number_in h.space.words h.starts.items) c.object.result (2 + c.in-Some-Literal.k)
    c.object.ensures)
