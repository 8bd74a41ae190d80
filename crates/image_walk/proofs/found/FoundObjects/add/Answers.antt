use Rattle.std.proofs.Common.{◌≡◌, ◌<◌, false, not, length, arith, sym, ap, ◌∙◌}
use Rattle.std.specs.Prelude.{is_some}
use Rattle.graph_model.specs.Heaps.{has_number}
use Rattle.graph_model.proofs.Placed.{few_found, is_some-place_of, read_place}
use Rattle.image_walk.proofs.Placing.{placed_push}
use Rattle.image_walk.proofs.found.FoundObjects.add.Goals as goal

pub overflow_cast-place : goal.overflow_cast-place
overflow_cast-place c =
    let few = few_found c.self.inside.lines.items c.self.inside.places.items c.self.invariant.placed in
    omega (arith, few, c.self.invariant.placed.few)

pub invariant_of-self-then-is_none : goal.invariant_of-self-then-is_none
invariant_of-self-then-is_none c =
    let found = c.self.inside.lines.items in
    let places = c.self.inside.places.items in
    let there : c.args.line < length places = rw (← c.self.view_is) at c.requires.within in
    let place = read_place found places c.args.line c.index.result.now c.self.invariant.placed there c.index.ensures in
    let new : has_number found c.args.line ≡ false =
    sym (is_some-place_of found c.args.line) ∙ sym (ap (λ o. is_some o) place) ∙ c.is_none.ensures ∙ ap (λ b. not b) c.if-is_none.true in
    let size : c.len-place.result ≡ length found = omega (arith, c.len-place.ensures) in
    rw (c.in_ok-push.ensures.items, size) (placed_push found places c.args.line c.self.invariant there c.requires.low new)
