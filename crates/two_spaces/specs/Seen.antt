-- What a heap over two spaces shows. Its words alone tell that, whether it is whole or not.
use Rattle.std.specs.Prelude.{ℕ, ◌+◌, ◌*◌, ◌/◌, ◌%◌, ◌^◌, ◌==◌, ◌&&◌, Bool, false, nat_eq, nat_lt, List, map, slice_index}
use Rattle.std.specs.Prelude.{Option, Some, None, if◌then◌else◌}
use Rattle.ap_base.specs.declared.reference.Ref.{Ref}
use Rattle.ap_base.specs.declared.reference.Ref.TheVariants.{Null as NoRef, Persistent, Volatile}
use Rattle.ap_base.specs.declared.reference.Item.{Item}
use Rattle.ap_base.specs.declared.reference.Item.TheVariants.{Ref as RefItem}
use Rattle.ap_base.specs.declared.kind.Kind.{Kind}
use Rattle.ap_base.specs.References.{reference_word}
use Rattle.graph_model.specs.declared.types.Value.{Value}
use Rattle.graph_model.specs.declared.types.Value.TheVariants.{Null, Obj as Object}
use Rattle.graph_model.specs.declared.types.Obj.{Obj as ObjectOf}
use Rattle.graph_model.specs.declared.types.Shape.{Shape}
use Rattle.one_space.specs.Layout.{item_in, ref_in, row}
use Rattle.shared_objects.specs.Shown.{Numbers, Shown, item_value}
use Rattle.twin_forms.specs.Sights.{Twin, view_of}
use Rattle.twin_forms.specs.Table.{Entry, View, kind_at, refers, word_of, value_of}
use Rattle.twin_forms.specs.Table.{Value as TwinValue, Plain, Null as NoObject, Obj as OfNumber}
use Rattle.twin_heap.specs.Here.{current}
use Rattle.two_spaces.specs.declared.spaces.Static.{Static}
use Rattle.two_spaces.specs.declared.spaces.Static.TheVariants.{Beside, Root}

-- A heap: its words, the shapes of the classes, which class has which shape of the heap, and its static fields.
pub record Spaces : Type 0 where
  pub twin : Twin
  pub shapes : List Shape
  pub classes : List ℕ
  pub numbers : List ℕ
  pub statics : List Static

-- ---- where an object lies, by its number

-- by its head, its index in the space, and the first line of its copy
abbrev pub entry_of : (head at line stage : ℕ) → Entry
entry_of head at line stage = record {
  shape = head % 2 ^ 32;
  slots = head / 2 ^ 32;
  at = at;
  line = line;
  copied = 0;
  owner = 0;
  stage = stage;
}

-- the stage that a state's word tells: of an object whose copy is current 2, and of others 0
abbrev pub stage_told : ℕ → ℕ
stage_told state = if nat_lt (state % 8) 3 then 0 else 2

abbrev pub old_told : View → ℕ → Entry
old_told v at = entry_of (v.old (at + 1)) at (v.old at / 2 ^ 32) (stage_told (v.old at))

abbrev pub copy_told : View → ℕ → Entry
copy_told v line = entry_of (v.shown (8 * line)) 0 line 3

abbrev pub told_by : View → (birth : ℕ) → Entry
told_by v birth = if birth % 2 == 0 then copy_told v (birth / 2) else old_told v (birth / 2)

-- An object began with a reference to its index in the space, or, in an image that was opened, to its line.
unfoldable pub told : View → ℕ → Entry
told v n = told_by v (v.birth n)

-- ---- references

-- the word of the reference to an object's current copy
abbrev pub current_word : Entry → ℕ
current_word e = reference_word (current e)

abbrev pub number_if : Bool → ℕ → Option ℕ
number_if b n = if b then Some n else None

unfoldable pub number_in : View → Numbers
number_in v NoRef = None
number_in v (Volatile at) =
    let n = v.old (at + 2) in number_if (nat_lt n v.count && nat_eq (v.birth n) (2 * at + 1)) n
number_in v (Persistent line) =
    let n = v.number line in number_if (nat_lt n v.count && nat_eq (current_word (told v n)) (2 * line)) n

-- A monitor is held under the reference to the object's current copy.
abbrev pub is_key_of : View → (word : ℕ) → Option ℕ → Bool
is_key_of v word None = false
is_key_of v word (Some n) = nat_eq (current_word (told v n)) word

unfoldable pub is_key_in : View → Ref → Bool
is_key_in v r = is_key_of v (reference_word r) (number_in v r)

-- ---- values

-- what a slot of a kind shows: no place or copy is seen in it
abbrev pub slot_value : Option Kind → TwinValue → Value
slot_value kind (Plain w) = item_value (λ _. None) (item_in kind w)
slot_value kind NoObject = Null
slot_value kind (OfNumber n) = Object n

abbrev pub slot_shown : View → Entry → ℕ → Value
slot_shown v e k = slot_value (kind_at v e k) (value_of v (refers v e k) (word_of v e k))

abbrev pub object_of : List ℕ → View → Entry → ObjectOf
object_of classes v e = record { shape = slice_index classes e.shape; values = row e.slots (slot_shown v e) }

unfoldable pub objects_in : List ℕ → View → List ObjectOf
objects_in classes v = row v.count (λ n. object_of classes v (told v n))

-- the word of a root slot
abbrev pub root_word : View → ℕ → ℕ
root_word v slot = v.shown (8 + slot)

abbrev pub static_item : View → Static → Item
static_item v (Beside item) = item
static_item v (Root slot) = RefItem (ref_in (root_word v slot))

abbrev pub static_value : View → Static → Value
static_value v s = item_value (number_in v) (static_item v s)

-- ---- what is shown

abbrev pub shown_by : List Shape → List ℕ → List Static → View → Shown
shown_by shapes classes statics v = record {
  shapes = shapes;
  objects = objects_in classes v;
  statics = map (static_value v) statics;
  number = number_in v;
  is_key = is_key_in v;
  left = v.left;
}

abbrev pub shown_of : Spaces → Shown
shown_of s = shown_by s.shapes s.classes s.statics (view_of s.twin)
