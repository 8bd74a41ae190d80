-- What reads and stores come to.
use Rattle.std.proofs.Common.{◌≡◌, ℕ, List, [], Some, refl, ap, ◌∙◌, sym, subst, slice_set}
use Rattle.ap_base.specs.declared.reference.Ref.{Ref}
use Rattle.ap_base.specs.declared.reference.Item.{Item}
use Rattle.ap_base.specs.declared.place.Place.{Place}
use Rattle.ap_base.specs.declared.place.Place.TheVariants.{Static, Slot}
use Rattle.graph_model.specs.declared.types.Value.{Value}
use Rattle.graph_model.specs.declared.types.Root.{Root}
use Rattle.graph_model.specs.Heaps.{stored, with_slot, value_at}
use Rattle.natives.specs.declared.requests.Reply.TheVariants as reply
use Rattle.run_history.specs.declared.act.Op.TheVariants as op
use Rattle.plain_model.specs.Facts.{SetFacts}
use Rattle.plain_model.specs.Steps.{Does, reads}
use Rattle.shared_objects.specs.Shown.{Shown, IsKnownItem, item_value, object_in}
use Rattle.shared_objects.specs.Changes.{StoresSlot, StoresStatic, GoesOn}
use Rattle.shared_objects.specs.Worlds.{heap_of}
use Rattle.step_forms.specs.declared.stepped.Stepped.{Stepped}
use Rattle.step_forms.specs.declared.stepped.Stepped.TheVariants as stepped
use Rattle.step_forms.specs.Becomes.{Becomes, IsNoStore}
use Rattle.step_forms.specs.Follows.{HeapGoes, stored_as}
use Rattle.step_forms.proofs.Going.{heap_did}
use Rattle.step_forms.proofs.Kept.{kept_known}
use Rattle.step_forms.proofs.Making.{heap_is, world_is}
use Rattle.object_steps.specs.Stores.{stored_by, IsKeptOf, StoresOf}

-- what a place holds is read
pub read_goes : (set : SetFacts) (shown : Shown) (place : Place) (item : Item) (value : Value)
    → value ≡ item_value shown.number item → item_value shown.number item ≡ value_at (heap_of [] shown) place
    → ((roots : List Root) → value_at (heap_of roots shown) place ≡ value_at (heap_of [] shown) place)
    → IsKnownItem shown.number item
    → HeapGoes (λ world. reads set world place) shown (stepped.Did (op.Read place value) (reply.Item item))
    shown
read_goes set shown place item value is held same known =
    heap_did (λ world. reads set world place) (op.Read place value) (reply.Item item)
    (λ roots rest. ap (λ (v : Value). Does (op.Read place v) (reply.Item v)) (same roots ∙ sym held)
    ∙ ap (λ (v : Value). Does (op.Read place v) (reply.Item (item_value shown.number item))) (sym is))
    known refl (λ world. tt) (λ world t. refl)

module _ (before now : Shown) (kept : Item) (value : Value) (is : value ≡ item_value before.number kept) where
  stored_goes : (place : Place) → GoesOn before now → now.left ≡ before.left
      → ((roots : List Root) → heap_of roots now ≡ stored (heap_of roots before) place value)
      → HeapGoes (λ world. stored_as place (item_value before.number kept)) before
      (stepped.Did (op.Stored place value) reply.Done) now
  stored_goes place goes left heap t rest known = record {
    follows = λ roots. (
      ap (stored_as place) (sym is),
      tt,
      world_is roots before now rest (stored (heap_of roots before) place value) goes (heap roots) known,
    );
    words = left;
    monitor = tt;
    goes_on = goes;
    monitors = kept_known before now rest.monitors goes known;
  }

  pub slot_goes : (holder : Ref) (n i : ℕ) → before.number holder ≡ Some n
      → StoresSlot holder i kept before now
      → HeapGoes (λ world. stored_as (Slot n i) (item_value before.number kept)) before
      (stepped.Did (op.Stored (Slot n i) value) reply.Done) now
  slot_goes holder n i number made = stored_goes (Slot n i) made.goes_on made.left (λ roots.
      heap_is roots now before.shapes (slice_set before.objects n (with_slot (object_in before n) i value))
      before.statics
      made.goes_on.shapes
      (made.objects n number
      ∙ ap (λ (v : Value). slice_set before.objects n (with_slot (object_in before n) i v)) (sym is))
      made.statics)

  pub static_goes : (field : ℕ) → StoresStatic field kept before now
      → HeapGoes (λ world. stored_as (Static field) (item_value before.number kept)) before
      (stepped.Did (op.Stored (Static field) value) reply.Done) now
  static_goes field made = stored_goes (Static field) made.goes_on made.left (λ roots.
      heap_is roots now before.shapes before.objects (slice_set before.statics field value)
      made.goes_on.shapes made.objects
      (made.statics ∙ ap (λ (v : Value). slice_set before.statics field v) (sym is)))

-- ---- what a store makes of the heap itself

pub store_becomes : {Heap : Type 0} (shown : Heap → Shown) (stores : Heap → Place → Item → Heap → Type 0)
    (makes : Heap → Heap → Type 0) (before now : Heap) (place : Place) (kept : Item) (result : Stepped)
    → result ≡ stored_by place (item_value (shown before).number kept) → stores before place kept now
    → Becomes shown stores makes before result now
store_becomes shown stores makes before now place kept result did made =
    subst (λ (r : Stepped). Becomes shown stores makes before r now) (sym did) (kept, refl, made)

pub store_given : {Heap : Type 0} (shown : Heap → Shown) (stores : Heap → Place → Item → Heap → Type 0)
    (before now : Heap) (place : Place) (value kept : Item) (result : Stepped)
    → result ≡ stored_by place (item_value (shown before).number kept) → IsKeptOf value kept
    → stores before place kept now → StoresOf shown stores before value result now
store_given shown stores before now place value kept result did is made =
    subst (λ (r : Stepped). StoresOf shown stores before value r now) (sym did) (kept, is, refl, made)

pub none_given : {Heap : Type 0} (shown : Heap → Shown) (stores : Heap → Place → Item → Heap → Type 0)
    (before now : Heap) (value : Item) (result : Stepped) → IsNoStore result
    → StoresOf shown stores before value result now
none_given shown stores before now value (stepped.Did (op.Stored place v) r) quiet = absurd quiet
none_given shown stores before now value result quiet = tt
