use Rattle.std.proofs.Common.{◌≡◌, ◌<◌, false, not, length, arith, sym, ap, ◌∙◌}
use Rattle.std.specs.Prelude.{is_some}
use Rattle.graph_model.specs.Heaps.{has_number}
use Rattle.graph_model.proofs.Placed.{few_found, is_some-place_of, read_place, IsPlaced-push}
use Rattle.graph_model.proofs.numbering.Numbering.add.Goals as goal

pub overflow_cast-place : goal.overflow_cast-place
overflow_cast-place c =
    let few = few_found c.self.inside.found.items c.self.inside.places.items c.self.invariant in
    omega (arith, few, c.self.invariant.few)

pub invariant_of-self-then-is_none : goal.invariant_of-self-then-is_none
invariant_of-self-then-is_none c =
    let found = c.self.inside.found.items in
    let places = c.self.inside.places.items in
    let there : c.args.object < length places = rw (← c.self.view_is) at c.requires in
    let place = read_place found places c.args.object c.index.result.now c.self.invariant there c.index.ensures in
    let new : has_number found c.args.object ≡ false =
    sym (is_some-place_of found c.args.object) ∙ sym (ap (λ o. is_some o) place) ∙ c.is_none.ensures ∙ ap (λ b. not b) c.if-is_none.true in
    let size : c.len-place.result ≡ length found = omega (arith, c.len-place.ensures) in
    rw (c.in_ok-push.ensures.items, size) (IsPlaced-push found places c.args.object c.self.invariant there new)
