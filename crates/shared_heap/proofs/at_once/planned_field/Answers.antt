use Rattle.std.proofs.Common.{rules, refl, ◌∙◌, ◌≡◌, ap, sym, true}
use Rattle.ap_base.specs.declared.place.Place.TheVariants.{Slot}
use Rattle.plain_model.specs.Facts.{is_sub}
use Rattle.plain_model.specs.Kinds.{HasKind}
use Rattle.shared_objects.specs.Shown.{item_value, slot_kind}
use Rattle.shared_objects.specs.Worlds.{world_of}
use Rattle.step_forms.specs.Follows.{stored_as}
use Rattle.object_steps.proofs.Fields.{put_field_right}
use Rattle.object_steps.proofs.Places.{kept_object, narrowed_form, field_slot, of_kind_in, HasItsSlot}
use Rattle.shared_heap.proofs.at_once.planned_field.Goals as goal

pub returns-clause-plan : goal.returns-clause-plan
returns-clause-plan g c =
    let facts = g.C.Types.facts c.args.set.now in
    let before = g.O.Objects.shown c.args.objects.now in
    let n = c.in-Some.object in
    let value = item_value before.number c.args.value in
    let kept = c.narrow.ensures.value before.number in
    let its = c.shape_of.ensures.shape n c.in-Some.ensures.number in
    let test : is_sub facts c.shape_of.result c.args.field.class ≡ true = search rules in
    let slot : HasItsSlot before n c.args.field.at c.args.field.kind =
    field_slot facts before c.requires.heap n c.args.field c.in-Some.ensures.below c.requires.field
    (ap (λ s. is_sub facts s c.args.field.class) (sym its) ∙ test) in
    let form : HasKind c.args.field.kind (item_value before.number c.narrow.result) =
    rw kept (narrowed_form c.args.field.kind value c.requires.kind) in (
      λ t taken roots rest from.
          put_field_right facts (world_of roots before rest) t taken from c.args.field _ n c.shape_of.result
          c.in-Some.ensures.number c.in-Some.ensures.below its value test
          ∙ ap (stored_as (Slot n c.args.field.at)) (sym kept),
      record {
        known = c.narrow.ensures.known before.number c.requires.known_value;
        place = (
          c.in-Some.ensures.number,
          slot.within,
          of_kind_in (slot_kind before n c.args.field.at) c.args.field.kind (item_value before.number
              c.narrow.result) slot.kind form,
        );
      },
      refl,
    )

pub returns-clause-here : goal.returns-clause-here
returns-clause-here g c =
    let facts = g.C.Types.facts c.args.set.now in
    let before = g.O.Objects.shown c.args.objects.now in
    let n = c.in-Some.object in
    let kept = c.narrow.ensures.value before.number in
    let its = c.shape_of.ensures.shape n c.in-Some.ensures.number in
    let test : is_sub facts c.shape_of.result c.args.field.class ≡ true = search rules in
    let slot : HasItsSlot before n c.args.field.at c.args.field.kind =
    field_slot facts before c.requires.heap n c.args.field c.in-Some.ensures.below c.requires.field
    (ap (λ s. is_sub facts s c.args.field.class) (sym its) ∙ test) in
    record {
      target = c.requires.slot n c.in-Some.ensures.number slot.within;
      value = λ m e. c.requires.value m (kept_object c.args.field.kind (item_value before.number
          c.args.value) m (sym kept ∙ e));
    }
