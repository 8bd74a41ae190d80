-- What it is for a place to be a kept one: a durable root that is there, or a kept slot of a durable object.
use Rattle.std.proofs.Common.{◌≡◌, ℕ, ◌<◌, Bool, true, ◌&&◌, List, length, slice_index_or, refl, ◌∙◌, ap}
use Rattle.std.proofs.lemmas.Bool.{and_parts, lt-ltb, eq-eqb}
use Rattle.ap_base.specs.declared.place.Place.TheVariants.{Static, Slot}
use Rattle.graph_model.specs.declared.types.Shape.{Shape}
use Rattle.graph_model.specs.declared.types.Heap.{Heap}
use Rattle.graph_model.specs.Heaps.{has_number, object_at, shape_at, no_shape, values_of, is_kept_slot}
use Rattle.image_meaning.proofs.KeptSlots.{kept_by_shape}
use Rattle.run_history.specs.Worlds.{has_place}
use Rattle.run_history.specs.Knowing.{Knowledge, is_root}
use Rattle.run_history.specs.Sizes.{SameSizes}
use Rattle.run_history.proofs.Sizes.{there}
use Rattle.stop_theorem.specs.Layouts.{Layout, Lies, is_kept_place}

-- a slot
pub record IsKeptSlot (known : Knowledge) (n i : ℕ) : Type 0 where
  pub mark : is_kept_slot known.world.heap n i ≡ true
  pub durable : has_number known.durable n ≡ true
  pub object : n < length known.world.heap.objects
  pub inside : i < length (values_of known.world.heap n)
  pub has : has_place known.world.heap (Slot n i) ≡ true

pub slot_parts : (known : Knowledge) (n i : ℕ) → is_kept_place known (Slot n i) ≡ true → IsKeptSlot known n i
slot_parts known n i is =
    let both = and_parts (is_kept_slot known.world.heap n i && has_number known.durable n)
    (has_place known.world.heap (Slot n i)) is in
    let marked = and_parts (is_kept_slot known.world.heap n i) (has_number known.durable n) both.0 in
    let at = there known.world.heap (Slot n i) both.1 in
    record { mark = marked.0; durable = marked.1; object = at.0; inside = at.1; has = both.1 }

all_three : (a b c : Bool) → a ≡ true → b ≡ true → c ≡ true → ((a && b) && c) ≡ true
all_three a b c x y z = rw (x, y, z) refl

pub slot_has : (known : Knowledge) (n i : ℕ) → is_kept_slot known.world.heap n i ≡ true
    → has_number known.durable n ≡ true → has_place known.world.heap (Slot n i) ≡ true
    → is_kept_place known (Slot n i) ≡ true
slot_has known n i mark durable has =
    all_three (is_kept_slot known.world.heap n i) (has_number known.durable n)
    (has_place known.world.heap (Slot n i)) mark durable has

pub slot_kept : (known : Knowledge) (n i : ℕ) → is_kept_slot known.world.heap n i ≡ true
    → has_number known.durable n ≡ true → n < length known.world.heap.objects
    → i < length (values_of known.world.heap n)
    → is_kept_place known (Slot n i) ≡ true
slot_kept known n i mark durable object inside =
    slot_has known n i mark durable (rw (
      lt-ltb n (length known.world.heap.objects) object,
      lt-ltb i (length (values_of known.world.heap n)) inside,
    ) refl)

-- a root
pub root_parts : (known : Knowledge) (s : ℕ) → is_kept_place known (Static s) ≡ true
    → (is_root known.world.heap.roots s ≡ true) × (has_place known.world.heap (Static s) ≡ true)
root_parts known s is = and_parts (is_root known.world.heap.roots s)
    (has_place known.world.heap (Static s)) is

pub root_kept : (known : Knowledge) (s : ℕ) → is_root known.world.heap.roots s ≡ true
    → s < length known.world.heap.statics → is_kept_place known (Static s) ≡ true
root_kept known s root there = rw (root, lt-ltb s (length known.world.heap.statics) there) refl

-- in heaps of the same sizes the same slots are kept
pub mark_same : (h k : Heap) → SameSizes h k → (n i : ℕ) → is_kept_slot k n i ≡ is_kept_slot h n i
mark_same h k s n i = kept_by_shape h k n i
    (ap (λ (shapes : List Shape). slice_index_or shapes (object_at k n).shape no_shape) s.shapes
    ∙ ap (λ j. shape_at h j) (s.shape n))

-- a durable object lies at its line
pub lies_there : (lay : Layout) (known : Knowledge) (n : ℕ) → has_number known.durable n ≡ true
    → Lies lay known (lay.line_of n) n
lies_there lay known n durable = rw (durable, eq-eqb (lay.line_of n) (lay.line_of n) refl) refl
