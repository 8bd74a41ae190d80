use Rattle.std.proofs.Common.{rules, ◌≡◌, true, ap, sym, ◌∙◌}
use Rattle.ap_base.specs.declared.place.Place.TheVariants.{Slot}
use Rattle.natives.specs.declared.requests.Request.TheVariants as ask
use Rattle.plain_model.specs.Facts.{is_sub}
use Rattle.plain_model.specs.Steps.{reads}
use Rattle.shared_objects.specs.Worlds.{world_of}
use Rattle.step_forms.proofs.Going.{heap_step}
use Rattle.object_steps.proofs.Fields.{get_field_right}
use Rattle.object_steps.proofs.Places.{field_slot, HasItsSlot}
use Rattle.shared_heap.proofs.at_once.read_field.Goals as goal

pub got_slot-requires-clause-slot : goal.got_slot-requires-clause-slot
got_slot-requires-clause-slot g c =
    let facts = g.C.Types.facts c.args.set.now in
    let before = g.O.Objects.shown c.args.objects.now in
    let n = c.in-Some.object in
    let its = c.shape_of.ensures.shape n c.in-Some.ensures.number in
    let test : is_sub facts c.shape_of.result c.args.field.class ≡ true = search rules in
    let slot : HasItsSlot before n c.args.field.at c.args.field.kind =
    field_slot facts before c.requires.heap n c.args.field c.in-Some.ensures.below c.requires.field
    (ap (λ s. is_sub facts s c.args.field.class) (sym its) ∙ test) in
    slot.within

pub got_slot-requires-clause-here : goal.got_slot-requires-clause-here
got_slot-requires-clause-here g c =
    let facts = g.C.Types.facts c.args.set.now in
    let before = g.O.Objects.shown c.args.objects.now in
    let n = c.in-Some.object in
    let its = c.shape_of.ensures.shape n c.in-Some.ensures.number in
    let test : is_sub facts c.shape_of.result c.args.field.class ≡ true = search rules in
    let slot : HasItsSlot before n c.args.field.at c.args.field.kind =
    field_slot facts before c.requires.heap n c.args.field c.in-Some.ensures.below c.requires.field
    (ap (λ s. is_sub facts s c.args.field.class) (sym its) ∙ test) in
    c.requires.slot n c.in-Some.ensures.number slot.within

pub returns : goal.returns
returns g c =
    let facts = g.C.Types.facts c.args.set.now in
    let before = g.O.Objects.shown c.args.objects.now in
    let test : is_sub facts c.shape_of.result c.args.field.class ≡ true = search rules in
    record {
      step = heap_step (λ world. reads facts world (Slot c.in-Some.object c.args.field.at)) facts (λ from.
          ask.GetField from c.args.holder c.args.field)
          (λ roots rest t taken from. get_field_right facts (world_of roots before rest) t taken from c.args.field
          _ c.in-Some.object c.shape_of.result
          c.in-Some.ensures.number c.in-Some.ensures.below (c.shape_of.ensures.shape c.in-Some.object
          c.in-Some.ensures.number) test)
          (c.got_slot.ensures.step facts);
    }
