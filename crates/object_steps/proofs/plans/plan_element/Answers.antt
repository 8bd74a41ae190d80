use Rattle.std.proofs.Common.{rules, refl, ◌∙◌, ◌≡◌, ◌<◌, ap, sym, true, false, None, Some, subst, unwrap_or}
use Rattle.std.proofs.Math.Facts.{to_z-of_z}
use Rattle.ap_base.specs.declared.place.Place.TheVariants.{Slot}
use Rattle.natives.specs.declared.requests.Request.TheVariants as ask
use Rattle.plain_model.specs.declared.throws.Throws.TheVariants as exception
use Rattle.plain_model.specs.Facts.{element_of}
use Rattle.plain_model.specs.Kinds.{HasKind}
use Rattle.plain_model.specs.Steps.{WrongOperand, throws}
use Rattle.shared_objects.specs.Shown.{item_value, slot_kind}
use Rattle.shared_objects.specs.Worlds.{world_of}
use Rattle.step_forms.specs.Follows.{stored_as}
use Rattle.step_forms.proofs.Going.{heap_step, heap_wrong}
use Rattle.object_steps.specs.Elements.{has_elements_of, IsBelowIndex}
use Rattle.object_steps.specs.Stores.{holds_by_class}
use Rattle.object_steps.proofs.Arrays.{put_none, put_wrong, put_past, put_refused, put_right_value}
use Rattle.object_steps.proofs.Places.{kept_object, narrowed_form, element_slot, of_kind_in, served, IsServed}
use Rattle.object_steps.proofs.plans.plan_element.Goals as goal

pub returns-in_default-clause-plan : goal.returns-in_default-clause-plan
returns-in_default-clause-plan g c =
    let facts = g.C.Types.facts c.args.set.now in
    let before = g.O.Objects.shown c.args.objects.now in
    heap_step (λ world. throws facts world exception.NullPointer) facts
    (λ from. ask.PutElement from c.args.array c.args.index c.args.kind c.args.value)
    (λ roots rest t taken from. put_none facts (world_of roots before rest) t taken from _ c.args.index
    c.args.kind
    (item_value before.number c.args.value) (search rules))
    c.throw.ensures.step

pub returns-then-not-has_elements-clause-plan : goal.returns-then-not-has_elements-clause-plan
returns-then-not-has_elements-clause-plan g c =
    let facts = g.C.Types.facts c.args.set.now in
    let before = g.O.Objects.shown c.args.objects.now in
    let test : has_elements_of facts c.args.kind c.shape_of-class.result ≡ false = search rules in
    heap_step (λ world. WrongOperand) facts (λ from. ask.PutElement from c.args.array c.args.index
    c.args.kind c.args.value)
    (λ roots rest t taken from. put_wrong facts (world_of roots before rest) t taken from _ c.in-Some.object
    c.shape_of-class.result
    c.in-Some.ensures.number c.in-Some.ensures.below (c.shape_of-class.ensures.shape c.in-Some.object
    c.in-Some.ensures.number)
    c.args.index c.args.kind (item_value before.number c.args.value) test)
    (heap_wrong (λ world. WrongOperand) (λ roots rest. refl))

pub returns-in_default-index_below-clause-plan : goal.returns-in_default-index_below-clause-plan
returns-in_default-index_below-clause-plan g c =
    let facts = g.C.Types.facts c.args.set.now in
    let before = g.O.Objects.shown c.args.objects.now in
    let test : has_elements_of facts c.args.kind c.shape_of-class.result ≡ true = search rules in
    let over : IsBelowIndex c.args.index c.length_of.result None = rw (← to_z-of_z c.ranges.index)
    c.in_default-index_below.ensures in
    heap_step (λ world. throws facts world exception.ArrayIndexOutOfBounds) facts
    (λ from. ask.PutElement from c.args.array c.args.index c.args.kind c.args.value)
    (λ roots rest t taken from. put_past facts (world_of roots before rest) t taken from _ c.in-Some.object
    c.shape_of-class.result
    c.in-Some.ensures.number c.in-Some.ensures.below (c.shape_of-class.ensures.shape c.in-Some.object
    c.in-Some.ensures.number)
    c.length_of.result c.args.index c.args.kind (item_value before.number c.args.value) test
    (c.length_of.ensures.length c.in-Some.object c.in-Some.ensures.number) over)
    c.throw-in_default-index_below.ensures.step

pub returns-then-not-may_hold-clause-plan : goal.returns-then-not-may_hold-clause-plan
returns-then-not-may_hold-clause-plan g c =
    let facts = g.C.Types.facts c.args.set.now in
    let before = g.O.Objects.shown c.args.objects.now in
    let n = c.in-Some.object in
    let value = item_value before.number c.args.value in
    let test : has_elements_of facts c.args.kind c.shape_of-class.result ≡ true = search rules in
    let refused : holds_by_class facts before c.args.kind c.shape_of-class.result value ≡ false = search
    rules in
    let inside : IsBelowIndex c.args.index c.length_of.result (Some c.in-Some-index_below.at) =
    rw (← to_z-of_z c.ranges.index) c.in-Some-index_below.ensures in
    heap_step (λ world. throws facts world exception.ArrayStore) facts
    (λ from. ask.PutElement from c.args.array c.args.index c.args.kind c.args.value)
    (λ roots rest t taken from. put_refused facts (world_of roots before rest) t taken from _ n
    c.shape_of-class.result
    c.in-Some.ensures.number c.in-Some.ensures.below (c.shape_of-class.ensures.shape n
    c.in-Some.ensures.number)
    c.length_of.result c.in-Some-index_below.at c.args.index c.args.kind value test
    (c.length_of.ensures.length n c.in-Some.ensures.number) inside before (λ m. refl) refused)
    c.throw-then-not-may_hold.ensures.step

pub returns-clause-plan : goal.returns-clause-plan
returns-clause-plan g c =
    let facts = g.C.Types.facts c.args.set.now in
    let before = g.O.Objects.shown c.args.objects.now in
    let n = c.in-Some.object in
    let class = c.shape_of-class.result in
    let its = c.shape_of-class.ensures.shape n c.in-Some.ensures.number in
    let value = item_value before.number c.args.value in
    let test : has_elements_of facts c.args.kind class ≡ true = search rules in
    let holds : holds_by_class facts before c.args.kind class value ≡ true = search rules in
    let inside : IsBelowIndex c.args.index c.length_of.result (Some c.in-Some-index_below.at) =
    rw (← to_z-of_z c.ranges.index) c.in-Some-index_below.ensures in
    let long = c.length_of.ensures.length n c.in-Some.ensures.number in
    let serves : IsServed facts c.args.kind class = served facts c.args.kind class test in
    let own : c.kind_of_elements.result ≡ serves.element =
    c.kind_of_elements.ensures ∙ ap (λ o. unwrap_or o c.args.kind) serves.is in
    let kept = c.narrow.ensures.value before.number in
    let form : HasKind serves.element (item_value before.number c.narrow.result) =
    rw (kept, own) (narrowed_form serves.element value (serves.takes value c.requires.kind)) in (
      λ t taken roots rest from.
          put_right_value facts (world_of roots before rest) t taken from _ n class
          c.in-Some.ensures.number c.in-Some.ensures.below its
          c.length_of.result c.in-Some-index_below.at c.args.index c.args.kind value test long inside before
          (λ m. refl) holds
          ∙ ap (stored_as (Slot n c.in-Some-index_below.at)) (sym (rw (← c.kind_of_elements.ensures) kept)),
      record {
        known = c.narrow.ensures.known before.number c.requires.known_value;
        place = (
          c.in-Some.ensures.number,
          subst (λ k. c.in-Some-index_below.at < k) long inside.1,
          of_kind_in (slot_kind before n c.in-Some-index_below.at) serves.element (item_value before.number
              c.narrow.result)
              (element_slot facts before c.requires.heap n c.in-Some-index_below.at serves.element (ap
              (element_of facts) (sym its) ∙ serves.is)) form,
        );
      },
      refl,
    )

pub returns-clause-here : goal.returns-clause-here
returns-clause-here g c =
    let before = g.O.Objects.shown c.args.objects.now in
    let n = c.in-Some.object in
    let inside : IsBelowIndex c.args.index c.length_of.result (Some c.in-Some-index_below.at) =
    rw (← to_z-of_z c.ranges.index) c.in-Some-index_below.ensures in
    let long = c.length_of.ensures.length n c.in-Some.ensures.number in
    let kept = c.narrow.ensures.value before.number in
    record {
      target = c.requires.slot c.in-Some-index_below.at inside.0 n c.in-Some.ensures.number (subst (λ k.
          c.in-Some-index_below.at < k) long inside.1);
      value = λ m e. c.requires.value m (kept_object c.kind_of_elements.result (item_value before.number
          c.args.value) m (sym kept ∙ e));
    }

pub returns-clause-kept : goal.returns-clause-kept
returns-clause-kept g c = (c.kind_of_elements.result, c.narrow.ensures.value)
