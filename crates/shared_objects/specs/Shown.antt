-- What a heap of objects shows: the objects and the static fields of a plain heap, and what its references
-- stand for.
use Rattle.std.specs.Prelude.{◌≡◌, ℕ, ◌<◌, Bool, true, List, length, Option, Some, None, IsSome, slice_index_or, slice_get}
use Rattle.ap_base.specs.declared.reference.Ref.{Ref}
use Rattle.ap_base.specs.declared.reference.Ref.TheVariants.{Null as NoRef, Persistent, Volatile}
use Rattle.ap_base.specs.declared.reference.Item.{Item}
use Rattle.ap_base.specs.declared.reference.Item.TheVariants.{Int as IntItem, Long as LongItem, Ref as RefItem}
use Rattle.ap_base.specs.declared.kind.Kind.{Kind}
use Rattle.ap_base.specs.declared.kind.Kind.TheVariants.{L}
use Rattle.graph_model.specs.declared.types.Value.{Value}
use Rattle.graph_model.specs.declared.types.Value.TheVariants.{Int, Long, Null, Obj as Object}
use Rattle.graph_model.specs.declared.types.Obj.{Obj}
use Rattle.graph_model.specs.declared.types.Field.{Field}
use Rattle.graph_model.specs.declared.types.Shape.{Shape}
use Rattle.graph_model.specs.Heaps.{no_object, no_shape}
use Rattle.plain_model.specs.Kinds.{HasKind}

-- the number of the object that a reference stands for, if it stands for one
abbrev pub Numbers : Type 0
Numbers = Ref → Option ℕ

pub record Shown : Type 0 where
  pub shapes : List Shape
  -- by their numbers
  pub objects : List Obj
  pub statics : List Value
  pub number : Numbers
  -- whether the monitor of an object is held under this reference
  pub is_key : Ref → Bool
  -- how many words are left for new objects
  pub left : ℕ

-- An object has at most one reference under which its monitor is held.
abbrev pub HasOneKey : Shown → Type 0
HasOneKey shown = (a b : Ref) (n : ℕ) → shown.is_key a ≡ true → shown.is_key b ≡ true
    → shown.number a ≡ Some n
    → shown.number b ≡ Some n → a ≡ b

-- ---- what objects and static fields hold

abbrev pub object_in : Shown → ℕ → Obj
object_in shown n = slice_index_or shown.objects n no_object

abbrev pub slot_in : Shown → ℕ → ℕ → Value
slot_in shown n i = slice_index_or (object_in shown n).values i Null

abbrev pub static_in : Shown → ℕ → Value
static_in shown n = slice_index_or shown.statics n Null

abbrev pub shape_in : Shown → ℕ → Shape
shape_in shown n = slice_index_or shown.shapes n no_shape

-- ---- values of references

-- the object of a number, or null
abbrev pub number_value : Option ℕ → Value
number_value None = Null
number_value (Some n) = Object n

abbrev pub ref_value : Numbers → Ref → Value
ref_value number r = number_value (number r)

abbrev pub item_value : Numbers → Item → Value
item_value number (IntItem i) = Int i
item_value number (LongItem i) = Long i
item_value number (RefItem r) = ref_value number r

-- null, or the reference of an object
abbrev pub IsKnown : Numbers → Ref → Type 0
IsKnown number NoRef = Unit {0}
IsKnown number (Persistent line) = IsSome (number (Persistent line))
IsKnown number (Volatile index) = IsSome (number (Volatile index))

abbrev pub IsKnownItem : Numbers → Item → Type 0
IsKnownItem number (IntItem i) = Unit {0}
IsKnownItem number (LongItem i) = Unit {0}
IsKnownItem number (RefItem r) = IsKnown number r

-- What a reference stands for it stands for from then on.
abbrev pub Keeps : Numbers → Numbers → Type 0
Keeps before now = (r : Ref) (n : ℕ) → before r ≡ Some n → now r ≡ Some n

-- there is a number, and it has this property
abbrev pub IfNumber : Option ℕ → (ℕ → Type 0) → Type 0
IfNumber None P = ⊥
IfNumber (Some n) P = P n

-- ---- slots

-- the object of a reference has this slot
abbrev pub HasSlot : Shown → Ref → ℕ → Type 0
HasSlot shown r index = IfNumber (shown.number r) (λ n. index < length (object_in shown n).values)

abbrev pub field_kind : Option Field → Option Kind
field_kind None = None
field_kind (Some f) = Some f.kind

-- the kind of a slot of an object of this shape, if it has one
abbrev pub kind_in : Shape → ℕ → Option Kind
kind_in shape index = elim shape.element [
  | None ↦ field_kind (slice_get shape.fields index)
  | Some kind ↦
      Some kind
]

abbrev pub slot_kind : Shown → ℕ → ℕ → Option Kind
slot_kind shown n index = kind_in (shape_in shown (object_in shown n).shape) index

-- there is a kind, and the value is of it
abbrev pub IsOfKindIn : Option Kind → Value → Type 0
IsOfKindIn None value = ⊥
IsOfKindIn (Some kind) value = HasKind kind value

-- the slot has a kind, and the value is of it
abbrev pub IsOfSlot : Shown → Ref → ℕ → Value → Type 0
IsOfSlot shown r index value = IfNumber (shown.number r) (λ n. IsOfKindIn (slot_kind shown n index) value)

-- both are ints, longs, or references
abbrev pub IsSameForm : Value → Value → Type 0
IsSameForm (Int i) (Int j) = Unit {0}
IsSameForm (Long i) (Long j) = Unit {0}
IsSameForm Null value = HasKind L value
IsSameForm (Object n) value = HasKind L value
IsSameForm left right = ⊥
