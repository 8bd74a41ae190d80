use Rattle.std.proofs.Common.{◌≡◌, ◌∙◌, length, ap, arith}
use Rattle.turnstile.specs.Hands.{hands_from}
use Rattle.turnstile.proofs.Ends.{begins}
use Rattle.turnstile.proofs.Hands.{stock_length}
use Rattle.turnstile.proofs.turnstile.Turnstile.new.Goals as goal

pub new-requires : goal.new-requires
new-requires g c =
    let range = c.ranges.passes.fits in
    rw (c.of.ensures, c.in_default.ensures.items, c.new-slots.ensures.items)
    (begins g.T.Kept.worker g.T.Kept.entries g.T.Kept.parts c.args.passes c.args.value c.requires.none c.requires.parts (omega (arith, range)))

pub invariant_of-result-in-Ok-clause-counted : goal.invariant_of-result-in-Ok-clause-counted
invariant_of-result-in-Ok-clause-counted g c =
    let parts = g.T.Kept.parts in
    let hands : length c.in-Ok.seat.me.0.hands ≡ length (hands_from {E = g.row.T-Entry.Denot} 0 (parts c.args.value)) =
    ap (λ m. length m.0.hands) c.in-Ok.ensures.ok.4 ∙ ap (λ x. length (hands_from {E = g.row.T-Entry.Denot} 0 (parts x))) c.of.ensures in
    let all = stock_length g.row.T-Entry.Denot (parts c.args.value) 0 in
    let passes = c.requires.parts in
    let some = c.requires.some in
    omega arith
