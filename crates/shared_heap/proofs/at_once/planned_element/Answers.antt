use Rattle.std.proofs.Common.{rules, refl, ◌∙◌, ◌≡◌, ◌<◌, ap, sym, true, Some, subst, unwrap_or}
use Rattle.std.proofs.Math.Facts.{to_z-of_z}
use Rattle.ap_base.specs.declared.place.Place.TheVariants.{Slot}
use Rattle.plain_model.specs.Facts.{element_of}
use Rattle.plain_model.specs.Kinds.{HasKind}
use Rattle.shared_objects.specs.Shown.{item_value, slot_kind}
use Rattle.shared_objects.specs.Worlds.{world_of}
use Rattle.step_forms.specs.Follows.{stored_as}
use Rattle.object_steps.specs.Elements.{has_elements_of, IsBelowIndex}
use Rattle.object_steps.specs.Stores.{holds_by_class}
use Rattle.object_steps.proofs.Arrays.{put_right_value}
use Rattle.object_steps.proofs.Places.{kept_object, narrowed_form, element_slot, of_kind_in, served, IsServed}
use Rattle.shared_heap.proofs.at_once.planned_element.Goals as goal

pub returns-clause-plan : goal.returns-clause-plan
returns-clause-plan g c =
    let facts = g.C.Types.facts c.args.set.now in
    let before = g.O.Objects.shown c.args.objects.now in
    let n = c.in-Some.object in
    let class = c.shape_of-class.result in
    let its = c.shape_of-class.ensures.shape n c.in-Some.ensures.number in
    let value = item_value before.number c.args.value in
    let test : has_elements_of facts c.args.kind class ≡ true = search rules in
    let holds : holds_by_class facts before c.args.kind class value ≡ true = search rules in
    let inside : IsBelowIndex c.args.index c.length_of.result (Some c.in-Some-index_below.at) =
    rw (← to_z-of_z c.ranges.index) c.in-Some-index_below.ensures in
    let long = c.length_of.ensures.length n c.in-Some.ensures.number in
    let serves : IsServed facts c.args.kind class = served facts c.args.kind class test in
    let own : c.kind_of_elements.result ≡ serves.element =
    c.kind_of_elements.ensures ∙ ap (λ o. unwrap_or o c.args.kind) serves.is in
    let kept = c.narrow.ensures.value before.number in
    let form : HasKind serves.element (item_value before.number c.narrow.result) =
    rw (kept, own) (narrowed_form serves.element value (serves.takes value c.requires.kind)) in (
      λ t taken roots rest from.
          put_right_value facts (world_of roots before rest) t taken from _ n class
          c.in-Some.ensures.number c.in-Some.ensures.below its
          c.length_of.result c.in-Some-index_below.at c.args.index c.args.kind value test long inside before
          (λ m. refl) holds
          ∙ ap (stored_as (Slot n c.in-Some-index_below.at)) (sym (rw (← c.kind_of_elements.ensures) kept)),
      record {
        known = c.narrow.ensures.known before.number c.requires.known_value;
        place = (
          c.in-Some.ensures.number,
          subst (λ k. c.in-Some-index_below.at < k) long inside.1,
          of_kind_in (slot_kind before n c.in-Some-index_below.at) serves.element (item_value before.number
              c.narrow.result)
              (element_slot facts before c.requires.heap n c.in-Some-index_below.at serves.element (ap
              (element_of facts) (sym its) ∙ serves.is)) form,
        );
      },
      refl,
    )

pub returns-clause-here : goal.returns-clause-here
returns-clause-here g c =
    let before = g.O.Objects.shown c.args.objects.now in
    let n = c.in-Some.object in
    let inside : IsBelowIndex c.args.index c.length_of.result (Some c.in-Some-index_below.at) =
    rw (← to_z-of_z c.ranges.index) c.in-Some-index_below.ensures in
    let long = c.length_of.ensures.length n c.in-Some.ensures.number in
    let kept = c.narrow.ensures.value before.number in
    record {
      target = c.requires.slot c.in-Some-index_below.at inside.0 n c.in-Some.ensures.number (subst (λ k.
          c.in-Some-index_below.at < k) long inside.1);
      value = λ m e. c.requires.value m (kept_object c.kind_of_elements.result (item_value before.number
          c.args.value) m (sym kept ∙ e));
    }
