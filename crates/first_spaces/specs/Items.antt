-- What static fields that lie beside a heap hold at first.
use Rattle.std.specs.Prelude.{◌≡◌, ℕ, suc, ◌+◌, ◌<◌, List, length, slice_index_or, Option, Some, None}
use Rattle.std.specs.Option.{option_map}
use Rattle.ap_base.specs.declared.kind.Kind.{Kind}
use Rattle.ap_base.specs.declared.kind.Kind.TheVariants.{Z}
use Rattle.ap_base.specs.declared.reference.Ref.{Ref}
use Rattle.ap_base.specs.declared.reference.Ref.TheVariants.{Null as NoRef}
use Rattle.ap_base.specs.declared.reference.Item.{Item}
use Rattle.ap_base.specs.declared.reference.Item.TheVariants.{Ref as RefItem}
use Rattle.graph_model.specs.declared.types.Value.{Value}
use Rattle.graph_model.specs.declared.types.Value.TheVariants.{Int, Long, Obj as Object}
use Rattle.graph_model.specs.Heaps.{default_of}
use Rattle.plain_model.specs.Facts.{Constant, IntConstant, LongConstant, LiteralConstant}
use Rattle.plain_model.specs.Kinds.{narrowed}
use Rattle.shared_objects.specs.Shown.{Numbers, IsKnownItem, item_value}
use Rattle.one_space.specs.declared.parts.FirstStatic.{FirstStatic}
use Rattle.one_space.specs.First.{constant_now, IsPartBelow}
use Rattle.two_spaces.specs.declared.spaces.Static.{Static}
use Rattle.two_spaces.specs.declared.spaces.Static.TheVariants as static
use Rattle.two_spaces.specs.Whole.{no_static}
use Rattle.first_spaces.specs.declared.parts.FirstField.{FirstField}
use Rattle.first_spaces.specs.declared.parts.FirstField.TheVariants as field

-- the references stand for objects that follow one another from this number on
abbrev pub AreNumbered : Numbers → (from : ℕ) → List Ref → Type 0
AreNumbered number from refs =
    (k : ℕ) → k < length refs → number (slice_index_or refs k NoRef) ≡ Some (from + k)

-- the value of a constant, where the literals' objects follow one another from this number on
abbrev pub constant_from : ℕ → Constant → Value
constant_from from (IntConstant i) = Int i
constant_from from (LongConstant i) = Long i
constant_from from (LiteralConstant k) = Object (from + k)

-- a constant as a place of the kind keeps it, or the default (JVMS 2.3, 2.4, 4.7.2)
abbrev pub value_from : ℕ → Kind → Option Constant → Value
value_from from kind None = default_of kind
value_from from kind (Some c) = narrowed kind (constant_from from c)

-- the item has the field's first value
pub record IsFirstItem (number : Numbers) (from : ℕ) (first : FirstStatic) (item : Item) : Type 0 where
  pub value : item_value number item ≡ value_from from first.kind (option_map constant_now first.constant)
  pub known : IsKnownItem number item

-- A field beside the heap begins with that item, and one in a root slot lies there.
abbrev pub BeginsAs : Numbers → ℕ → FirstField → Static → Type 0
BeginsAs number from (field.Beside first) (static.Beside item) = IsFirstItem number from first item
BeginsAs number from (field.Beside first) (static.Root slot) = ⊥
BeginsAs number from (field.Root slot) (static.Beside item) = ⊥
BeginsAs number from (field.Root slot) (static.Root other) = other ≡ slot

-- whatever the numbers are by which null is no object and these are the literals' references
abbrev pub BeginsWith : List Ref → FirstField → Static → Type 0
BeginsWith literals part now = (number : Numbers) (from : ℕ) → number NoRef ≡ None → AreNumbered number from
    literals
    → BeginsAs number from part now

-- the constant, if it has one, is a number or one of so many literals
abbrev pub IsFieldBelow : ℕ → FirstField → Type 0
IsFieldBelow n (field.Beside first) = IsPartBelow n first.constant
IsFieldBelow n (field.Root slot) = Unit {0}

abbrev pub no_field : FirstField
no_field = field.Beside (record { kind = Z; constant = None })

-- The static fields: that of the stream, and these, in their order.
pub record BeginAll (stream : Ref) (literals : List Ref) (fields : List FirstField) (statics : List Static) :
    Type 0 where
  pub long : length statics ≡ suc (length fields)
  pub stream_is : slice_index_or statics 0 no_static ≡ static.Beside (RefItem stream)
  pub each : (k : ℕ) → k < length fields
      → BeginsWith literals (slice_index_or fields k no_field) (slice_index_or statics (suc k) no_static)
