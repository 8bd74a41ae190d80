use Rattle.std.proofs.Common.{rules, refl, ◌≡◌, None, Some, true, false}
use Rattle.std.proofs.Math.Facts.{to_z-of_z}
use Rattle.ap_base.specs.declared.place.Place.TheVariants.{Slot}
use Rattle.natives.specs.declared.requests.Request.TheVariants as ask
use Rattle.plain_model.specs.declared.throws.Throws.TheVariants as exception
use Rattle.plain_model.specs.Steps.{WrongOperand, throws, reads}
use Rattle.shared_objects.specs.Worlds.{world_of}
use Rattle.step_forms.proofs.Going.{heap_step, heap_wrong}
use Rattle.object_steps.specs.Elements.{has_elements_of, end_thrown, IsBelowIndex}
use Rattle.object_steps.proofs.Arrays.{get_none, get_wrong, get_past, get_read}
use Rattle.object_steps.proofs.reading.get_element.Goals as goal

pub returns-in_default-clause-step : goal.returns-in_default-clause-step
returns-in_default-clause-step g c =
    let facts = g.C.Types.facts c.args.set.now in
    let before = g.O.Objects.shown c.args.objects.now in
    heap_step (λ world. throws facts world exception.NullPointer) facts (λ from. ask.GetElement from
    c.args.array c.args.index c.args.kind)
    (λ roots rest t taken from. get_none facts (world_of roots before rest) t taken from _ c.args.index
    c.args.kind (search rules))
    c.throw.ensures.step

pub returns-then-not-has_elements-clause-step : goal.returns-then-not-has_elements-clause-step
returns-then-not-has_elements-clause-step g c =
    let facts = g.C.Types.facts c.args.set.now in
    let before = g.O.Objects.shown c.args.objects.now in
    let test : has_elements_of facts c.args.kind c.shape_of.result ≡ false = search rules in
    heap_step (λ world. WrongOperand) facts (λ from. ask.GetElement from c.args.array c.args.index
    c.args.kind)
    (λ roots rest t taken from. get_wrong facts (world_of roots before rest) t taken from _ c.in-Some.object
    c.shape_of.result
    c.in-Some.ensures.number c.in-Some.ensures.below (c.shape_of.ensures.shape c.in-Some.object
    c.in-Some.ensures.number)
    c.args.index c.args.kind test)
    (heap_wrong (λ world. WrongOperand) (λ roots rest. refl))

pub returns-in_default-index_below-clause-step : goal.returns-in_default-index_below-clause-step
returns-in_default-index_below-clause-step g c =
    let facts = g.C.Types.facts c.args.set.now in
    let before = g.O.Objects.shown c.args.objects.now in
    let test : has_elements_of facts c.args.kind c.shape_of.result ≡ true = search rules in
    let over : IsBelowIndex c.args.index c.length_of.result None = rw (← to_z-of_z c.ranges.index)
    c.in_default-index_below.ensures in
    heap_step (λ world. throws facts world (end_thrown c.args.kind)) facts (λ from. ask.GetElement from
    c.args.array c.args.index c.args.kind)
    (λ roots rest t taken from. get_past facts (world_of roots before rest) t taken from _ c.in-Some.object
    c.shape_of.result
    c.in-Some.ensures.number c.in-Some.ensures.below (c.shape_of.ensures.shape c.in-Some.object
    c.in-Some.ensures.number)
    c.length_of.result c.args.index c.args.kind test (c.length_of.ensures.length c.in-Some.object
    c.in-Some.ensures.number) over)
    (rw (← c.past_end.ensures) c.throw-in_default-index_below.ensures.step)

pub returns-clause-step : goal.returns-clause-step
returns-clause-step g c =
    let facts = g.C.Types.facts c.args.set.now in
    let before = g.O.Objects.shown c.args.objects.now in
    let test : has_elements_of facts c.args.kind c.shape_of.result ≡ true = search rules in
    let inside : IsBelowIndex c.args.index c.length_of.result (Some c.in-Some-index_below.at) =
    rw (← to_z-of_z c.ranges.index) c.in-Some-index_below.ensures in
    heap_step (λ world. reads facts world (Slot c.in-Some.object c.in-Some-index_below.at)) facts
    (λ from. ask.GetElement from c.args.array c.args.index c.args.kind)
    (λ roots rest t taken from. get_read facts (world_of roots before rest) t taken from _ c.in-Some.object
    c.shape_of.result
    c.in-Some.ensures.number c.in-Some.ensures.below (c.shape_of.ensures.shape c.in-Some.object
    c.in-Some.ensures.number)
    c.length_of.result c.in-Some-index_below.at c.args.index c.args.kind test
    (c.length_of.ensures.length c.in-Some.object c.in-Some.ensures.number) inside)
    (c.read_slot.ensures.step facts)
