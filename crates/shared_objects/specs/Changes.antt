-- What the calls on a heap of objects change.
use Rattle.std.specs.Prelude.{◌≡◌, ℕ, ◌+◌, ◌-◌, true, [], ◌∷◌, ◌++◌, length, Some, slice_set}
use Rattle.ap_base.specs.declared.reference.Ref.{Ref}
use Rattle.ap_base.specs.declared.reference.Item.{Item}
use Rattle.graph_model.specs.Heaps.{with_slot, fresh_values}
use Rattle.shared_objects.specs.Shown.{Shown, Keeps, object_in, shape_in, item_value}

-- What every step leaves as it is: shapes, what references stand for, and under which references monitors are
-- held.
pub record GoesOn (before now : Shown) : Type 0 where
  pub shapes : now.shapes ≡ before.shapes
  pub keeps : Keeps before.number now.number
  pub keys : (r : Ref) → before.is_key r ≡ true → now.is_key r ≡ true

pub record StoresSlot (r : Ref) (index : ℕ) (item : Item) (before now : Shown) : Type 0 where
  pub goes_on : GoesOn before now
  pub objects : (n : ℕ) → before.number r ≡ Some n
      → now.objects ≡ slice_set before.objects n (with_slot (object_in before n) index (item_value
      before.number item))
  pub statics : now.statics ≡ before.statics
  pub left : now.left ≡ before.left

pub record StoresStatic (field : ℕ) (item : Item) (before now : Shown) : Type 0 where
  pub goes_on : GoesOn before now
  pub objects : now.objects ≡ before.objects
  pub statics : now.statics ≡ slice_set before.statics field (item_value before.number item)
  pub left : now.left ≡ before.left

-- The reference stands for a new object, which has the next number.
pub record Allocates (shape count : ℕ) (r : Ref) (before now : Shown) : Type 0 where
  pub goes_on : GoesOn before now
  pub objects : now.objects
      ≡ before.objects ++ record { shape = shape; values = fresh_values (shape_in before shape) count } ∷ []
  pub number : now.number r ≡ Some (length before.objects)
  pub statics : now.statics ≡ before.statics
  pub left : now.left ≡ before.left - (3 + count)
