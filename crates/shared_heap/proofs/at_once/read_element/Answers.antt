use Rattle.std.proofs.Common.{rules, ◌≡◌, ◌<◌, true, Some, subst}
use Rattle.std.proofs.Math.Facts.{to_z-of_z}
use Rattle.ap_base.specs.declared.place.Place.TheVariants.{Slot}
use Rattle.natives.specs.declared.requests.Request.TheVariants as ask
use Rattle.plain_model.specs.Steps.{reads}
use Rattle.shared_objects.specs.Worlds.{world_of}
use Rattle.step_forms.proofs.Going.{heap_step}
use Rattle.object_steps.specs.Elements.{has_elements_of, IsBelowIndex}
use Rattle.object_steps.proofs.Arrays.{get_read}
use Rattle.shared_heap.proofs.at_once.read_element.Goals as goal

pub got_slot-requires-clause-slot : goal.got_slot-requires-clause-slot
got_slot-requires-clause-slot g c =
    let inside : IsBelowIndex c.args.index c.length_of.result (Some c.in-Some-index_below.at) =
    rw (← to_z-of_z c.ranges.index) c.in-Some-index_below.ensures in
    subst (λ k. c.in-Some-index_below.at < k) (c.length_of.ensures.length c.in-Some.object c.in-Some.ensures.number)
    inside.1

pub got_slot-requires-clause-here : goal.got_slot-requires-clause-here
got_slot-requires-clause-here g c =
    let n = c.in-Some.object in
    let inside : IsBelowIndex c.args.index c.length_of.result (Some c.in-Some-index_below.at) =
    rw (← to_z-of_z c.ranges.index) c.in-Some-index_below.ensures in
    c.requires.slot c.in-Some-index_below.at inside.0 n c.in-Some.ensures.number (subst (λ k.
    c.in-Some-index_below.at < k) (c.length_of.ensures.length n c.in-Some.ensures.number) inside.1)

pub got_slot-requires-clause-referred : goal.got_slot-requires-clause-referred
got_slot-requires-clause-referred g c =
    let inside : IsBelowIndex c.args.index c.length_of.result (Some c.in-Some-index_below.at) =
    rw (← to_z-of_z c.ranges.index) c.in-Some-index_below.ensures in
    c.requires.referred c.in-Some-index_below.at inside.0 c.in-Some.object c.in-Some.ensures.number

pub returns : goal.returns
returns g c =
    let facts = g.C.Types.facts c.args.set.now in
    let before = g.O.Objects.shown c.args.objects.now in
    let n = c.in-Some.object in
    let at = c.in-Some-index_below.at in
    let test : has_elements_of facts c.args.kind c.shape_of.result ≡ true = search rules in
    let inside : IsBelowIndex c.args.index c.length_of.result (Some at) =
    rw (← to_z-of_z c.ranges.index) c.in-Some-index_below.ensures in
    record {
      step = heap_step (λ world. reads facts world (Slot n at)) facts (λ from.
          ask.GetElement from c.args.array c.args.index c.args.kind)
          (λ roots rest t taken from. get_read facts (world_of roots before rest) t taken from _ n c.shape_of.result
          c.in-Some.ensures.number c.in-Some.ensures.below (c.shape_of.ensures.shape n c.in-Some.ensures.number)
          c.length_of.result at c.args.index c.args.kind test (c.length_of.ensures.length n c.in-Some.ensures.number)
          inside)
          (c.got_slot.ensures.step facts);
    }
