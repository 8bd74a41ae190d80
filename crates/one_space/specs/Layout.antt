-- Objects in a space of words: a word of state, a head word with the number of the shape and 2^32 times the
-- number of slots, the object's number, and a word for each slot. Of this project's own format.
use Rattle.std.specs.Prelude.{◌≡◌, ℕ, zero, suc, ◌+◌, ◌/◌, ◌%◌, ◌<◌, ◌≤◌, ◌^◌, Bool, true, nat_eq, nat_lt, List, [], ◌∷◌, ◌++◌}
use Rattle.std.specs.Prelude.{length, map, Option, Some, None, is_some, if◌then◌else◌, get_or, slice_get, slice_index_or, All}
use Rattle.std.specs.Int.{w32, w64, cast_signed, cast_unsigned}
use Rattle.ap_base.specs.declared.reference.Ref.{Ref}
use Rattle.ap_base.specs.declared.reference.Ref.TheVariants.{Null as NoRef, Persistent, Volatile}
use Rattle.ap_base.specs.declared.reference.Item.{Item}
use Rattle.ap_base.specs.declared.reference.Item.TheVariants.{Int as IntItem, Long as LongItem, Ref as RefItem}
use Rattle.ap_base.specs.declared.kind.Kind.{Kind}
use Rattle.ap_base.specs.declared.kind.Kind.TheVariants.{J, L}
use Rattle.ap_base.specs.References.{reference_word, HasWord}
use Rattle.graph_model.specs.declared.types.Obj.{Obj}
use Rattle.graph_model.specs.declared.types.Shape.{Shape}
use Rattle.graph_model.specs.Heaps.{no_shape}
use Rattle.shared_objects.specs.Shown.{Numbers, Shown, item_value, kind_in}

abbrev pub word_at : List ℕ → ℕ → ℕ
word_at words i = get_or words i 0

-- the slots' number and the shape of the object whose first index this is
abbrev pub count_at : List ℕ → ℕ → ℕ
count_at words at = word_at words (at + 1) / 2 ^ 32

abbrev pub shape_at_word : List ℕ → ℕ → ℕ
shape_at_word words at = word_at words (at + 1) % 2 ^ 32

-- the number of an object, where one begins at this index
abbrev pub number_if : ℕ → ℕ → Option ℕ → Option ℕ
number_if index n None = None
number_if index n (Some start) = if nat_eq start index then Some n else None

abbrev pub number_in : List ℕ → List ℕ → Numbers
number_in words starts NoRef = None
number_in words starts (Persistent line) = None
number_in words starts (Volatile index) =
    let n = word_at words (index + 2) in number_if index n (slice_get starts n)

-- the reference that a word holds
abbrev pub ref_in : ℕ → Ref
ref_in w =
    if nat_eq w 0 then NoRef
    else if nat_lt (w / 2) (2 ^ 32) then (if nat_eq (w % 2) 0 then Persistent (w / 2) else Volatile (w / 2)) else NoRef

-- an int's word has no upper half
abbrev pub lower : ℕ → ℕ
lower w = if nat_lt w (2 ^ 32) then w else 0

-- what a slot's word holds, by the slot's kind
abbrev pub item_in : Option Kind → ℕ → Item
item_in (Some L) w = RefItem (ref_in w)
item_in (Some J) w = LongItem (cast_signed w64 w)
item_in kind w = IntItem (cast_signed w32 (lower w))

abbrev pub item_word : Item → ℕ
item_word (IntItem i) = cast_unsigned w32 i
item_word (LongItem i) = cast_unsigned w64 i
item_word (RefItem r) = reference_word r

-- f 0, f 1 and so on
abbrev pub row : {A : Type 0} → ℕ → (ℕ → A) → List A
row zero f = []
row (suc n) f = row n f ++ f n ∷ []

abbrev pub item_at : List Shape → List ℕ → ℕ → ℕ → Item
item_at shapes words at i =
    item_in (kind_in (slice_index_or shapes (shape_at_word words at) no_shape) i) (word_at words (at + 3 + i))

abbrev pub object_from : List Shape → List ℕ → List ℕ → ℕ → Obj
object_from shapes words starts at = record {
  shape = shape_at_word words at;
  values = row (count_at words at) (λ i. item_value (number_in words starts) (item_at shapes words at i));
}

-- what the words show of objects, where objects begin at these indices, in the order of their numbers
abbrev pub shown_by : List Shape → List ℕ → List ℕ → Shown
shown_by shapes words starts = record {
  shapes = shapes;
  objects = map (object_from shapes words starts) starts;
  statics = [];
  number = number_in words starts;
  is_key = λ r. true;
  left = 0;
}

-- with what the static fields hold, and the words that are left
abbrev pub full_shown : List Shape → List ℕ → List ℕ → List Item → ℕ → Shown
full_shown shapes words starts statics left = record (shown_by shapes words starts) {
  statics = map (item_value (number_in words starts)) statics;
  left = left;
}

-- whether an item is no reference, null, or an object's reference
abbrev pub is_known_item : Numbers → Item → Bool
is_known_item number (IntItem i) = true
is_known_item number (LongItem i) = true
is_known_item number (RefItem NoRef) = true
is_known_item number (RefItem (Persistent line)) = is_some (number (Persistent line))
is_known_item number (RefItem (Volatile index)) = is_some (number (Volatile index))

-- each is no reference, null, or an object's reference
abbrev pub AreKnown : List ℕ → List ℕ → List Item → Type 0
AreKnown words starts statics =
    All (λ (item : Item). is_known_item (number_in words starts) item ≡ true) statics

-- Objects lie one after another in the order of their numbers; each reference in a slot is null or an object's.
pub record IsLaid (shapes : List Shape) (words starts : List ℕ) : Type 0 where
  pub inside : (n : ℕ) → n < length starts
      → get_or starts n 0 + 3 + count_at words (get_or starts n 0) ≤ length words
  pub apart : (m n : ℕ) → m < n → n < length starts
      → get_or starts m 0 + 3 + count_at words (get_or starts m 0) ≤ get_or starts n 0
  pub numbered : (n : ℕ) → n < length starts → word_at words (get_or starts n 0 + 2) ≡ n
  pub shaped : (n : ℕ) → n < length starts → shape_at_word words (get_or starts n 0) < length shapes
  pub small : (n : ℕ) → n < length starts → count_at words (get_or starts n 0) < 2 ^ 31
  pub known : (n i : ℕ) → n < length starts → i < count_at words (get_or starts n 0)
      → is_known_item (number_in words starts) (item_at shapes words (get_or starts n 0) i) ≡ true

-- a reference has a word
abbrev pub IsStorable : Item → Type 0
IsStorable (IntItem i) = Unit {0}
IsStorable (LongItem i) = Unit {0}
IsStorable (RefItem r) = HasWord r

-- the item is of this kind
abbrev pub HasItemKind : Kind → Item → Type 0
HasItemKind L (RefItem r) = Unit {0}
HasItemKind L item = ⊥
HasItemKind J (LongItem i) = Unit {0}
HasItemKind J item = ⊥
HasItemKind kind (IntItem i) = Unit {0}
HasItemKind kind item = ⊥
