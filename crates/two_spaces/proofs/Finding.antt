-- What the calls of a heap need, of what steps ask.
use Rattle.std.proofs.Common.{◌≡◌, ℕ, zero, suc, ◌+◌, ◌%◌, ◌<◌, true, List, [], ◌∷◌, length, map, slice_get, Option, Some, None}
use Rattle.std.proofs.Common.{refl, sym, ◌∙◌, ap, subst, arith}
use Rattle.std.specs.Prelude.{slice_index, slice_index_or}
use Rattle.ap_base.specs.References.{reference_word}
use Rattle.ap_base.specs.declared.kind.Kind.{Kind}
use Rattle.ap_base.specs.declared.reference.Ref.{Ref}
use Rattle.ap_base.specs.declared.reference.Ref.TheVariants.{Null as NoRef, Persistent, Volatile}
use Rattle.ap_base.specs.declared.reference.Item.{Item}
use Rattle.ap_base.specs.declared.reference.Item.TheVariants.{Ref as RefItem}
use Rattle.ap_base.specs.declared.place.Place.TheVariants.{Slot}
use Rattle.line_memory.specs.Memory.{Memory, IsResident}
use Rattle.graph_model.specs.declared.types.Field.{Field}
use Rattle.graph_model.specs.declared.types.Shape.{Shape}
use Rattle.graph_model.specs.declared.types.Value.{Value}
use Rattle.graph_model.specs.Heaps.{no_shape}
use Rattle.one_space.specs.Laws.{some_same}
use Rattle.one_space.proofs.Laid.{if_number}
use Rattle.shared_objects.specs.Shown.{IfNumber, IsKnownItem, IsOfKindIn, field_kind, item_value, kind_in, object_in, slot_kind}
use Rattle.twin_forms.specs.Sights.{view_of}
use Rattle.twin_forms.specs.Sights.{kind_in as kind_among}
use Rattle.twin_forms.specs.Table.{Entry, entry, Leads, Names, IsRef, kind_at, refers, line_of}
use Rattle.twin_forms.specs.Moves.{MayStore}
use Rattle.twin_heap.specs.Here.{HasHead, HasWord, IsHere, kind_of_field, kinds_of}
use Rattle.two_spaces.specs.Seen.{Spaces, shown_of, current_word, number_in}
use Rattle.two_spaces.specs.Whole.{Stands, IsHereIn, IsTo, IsItem, IsWordOf, HasLine, MayStoreIn}
use Rattle.two_spaces.proofs.Numbering.{number_named, word_copy}
use Rattle.two_spaces.proofs.Valuing.{item_to, item_ref, word_ref}
use Rattle.two_spaces.proofs.Shifting.{object_is, values_long}

-- the object of a reference, where a table says where it lies
pub record At (s : Spaces) (r : Ref) (es : List Entry) (n : ℕ) : Type 0 where
  pub number : number_in (view_of s.twin) r ≡ Some n
  pub stands : Stands s es
  pub below : n < length es
  pub names : Names (entry es n) (reference_word r)

pub at_number : (s : Spaces) (r : Ref) (es : List Entry) (n : ℕ) → Stands s es → number_in (view_of s.twin) r ≡ Some n
    → At s r es n
at_number s r es n h is =
    let named = number_named (view_of s.twin) es n r h.lies is in
    record { number = is; stands = h; below = named.0; names = named.1 }

-- such a table, by which its head and a slot are at hand
pub record Found (s : Spaces) (r : Ref) (i : ℕ) : Type 0 where
  pub n : ℕ
  pub es : List Entry
  pub place : At s r es n
  pub here : IsHere s.twin.memory (entry es n) i

pub find : (s : Spaces) (r : Ref) (i : ℕ) → IfNumber (number_in (view_of s.twin) r) (λ n. IsHereIn s n i) → Found s r i
find s r i asked =
    let h = if_number (number_in (view_of s.twin) r) (λ n. IsHereIn s n i) asked in
    record { n = h.0; es = h.2.0; place = at_number s r h.2.0 h.0 h.2.1 h.1; here = h.2.2 }

pub same_one : (s : Spaces) (r : Ref) (es : List Entry) (m n : ℕ) → At s r es m → number_in (view_of s.twin) r ≡ Some n
    → m ≡ n
same_one s r es m n a is = some_same (sym a.number ∙ is)

pub leads : (s : Spaces) (r : Ref) (i : ℕ) → Found s r i → Leads (view_of s.twin) (reference_word r)
leads s r i f = (f.es, f.n, f.place.stands.lies, f.place.below, f.place.names)

-- the head is at hand where a slot is
head_here : (m : Memory) (e : Entry) (i : ℕ) → IsHere m e i → IsHere m e 0
head_here m e i here placed =
    let same : e.line ≡ e.line + line_of 0 = omega arith in
    ((here placed).0, subst (IsResident m) same (here placed).0)

pub has_head : (s : Spaces) (r : Ref) (i : ℕ) → Found s r i
    → HasHead (view_of s.twin) s.twin.memory (reference_word r)
has_head s r i f =
    (f.es, f.n, f.place.stands.lies, f.place.below, f.place.names, head_here s.twin.memory (entry f.es f.n) i f.here)

pub has_word : (s : Spaces) (r : Ref) (i : ℕ) (f : Found s r i) → i < (entry f.es f.n).slots
    → HasWord (view_of s.twin) s.twin.memory (reference_word r) i
has_word s r i f li = (f.es, f.n, f.place.stands.lies, f.place.below, f.place.names, li, f.here)

-- ---- slots

pub slot_there : (s : Spaces) (r : Ref) (i : ℕ) (es : List Entry) (n : ℕ) → At s r es n
    → IfNumber (number_in (view_of s.twin) r) (λ n. i < length (object_in (shown_of s) n).values)
    → i < (entry es n).slots
slot_there s r i es n a has =
    let h = if_number (number_in (view_of s.twin) r) (λ m. i < length (object_in (shown_of s) m).values) has in
    let is : length (object_in (shown_of s) n).values ≡ (entry es n).slots =
    ap (λ o. length o.values) (object_is s.classes (view_of s.twin) es n a.stands.lies a.below)
    ∙ values_long s.classes (view_of s.twin) (entry es n) in
    let lt : i < length (object_in (shown_of s) n).values =
    subst (λ m. i < length (object_in (shown_of s) m).values) (sym (same_one s r es n h.0 a h.1)) h.2 in
    omega (arith, lt, is)

fields_alike : (fields : List Field) (i : ℕ) → slice_get (map kind_of_field fields) i ≡ field_kind (slice_get fields i)
fields_alike [] i = refl
fields_alike (f ∷ fs) zero = refl
fields_alike (f ∷ fs) (suc i) = fields_alike fs i

among : (element : Option Kind) (name : List ℕ) (fields : List Field) (i : ℕ)
    → kind_among (kinds_of (record { name = name; fields = fields; element = element })) i
    ≡ kind_in (record { name = name; fields = fields; element = element }) i
among None name fields i = fields_alike fields i
among (Some kind) name fields i = refl

pub kinds_alike : (shape : Shape) (i : ℕ) → kind_among (kinds_of shape) i ≡ kind_in shape i
kinds_alike shape i = among shape.element shape.name shape.fields i

-- the kind of a slot is that of its object's class
pub class_kind : (s : Spaces) (es : List Entry) (n i : ℕ) → Stands s es → n < length es
    → kind_at (view_of s.twin) (entry es n) i
    ≡ kind_in (slice_index_or s.shapes (slice_index s.classes (entry es n).shape) no_shape) i
class_kind s es n i h ln =
    let there = h.lies.table.shape_in n ln in
    ap (λ k. kind_among k i) (h.classes.kinds_are (entry es n).shape (omega (arith, there, h.classes.long)) (h.classed n ln))
    ∙ kinds_alike (slice_index_or s.shapes (slice_index s.classes (entry es n).shape) no_shape) i

pub shown_kind : (s : Spaces) (es : List Entry) (n i : ℕ) → Stands s es → n < length es
    → slot_kind (shown_of s) n i ≡ kind_at (view_of s.twin) (entry es n) i
shown_kind s es n i h ln =
    ap (λ o. kind_in (slice_index_or s.shapes o.shape no_shape) i) (object_is s.classes (view_of s.twin) es n h.lies ln)
    ∙ sym (class_kind s es n i h ln)

pub of_kind : (s : Spaces) (r : Ref) (i : ℕ) (value : Value) (es : List Entry) (n : ℕ) → At s r es n
    → IfNumber (number_in (view_of s.twin) r) (λ m. IsOfKindIn (slot_kind (shown_of s) m i) value)
    → IsOfKindIn (kind_at (view_of s.twin) (entry es n) i) value
of_kind s r i value es n a has =
    let h = if_number (number_in (view_of s.twin) r) (λ m. IsOfKindIn (slot_kind (shown_of s) m i) value) has in
    subst (λ k. IsOfKindIn k value) (shown_kind s es n i a.stands a.below)
    (subst (λ m. IsOfKindIn (slot_kind (shown_of s) m i) value) (sym (same_one s r es n h.0 a h.1)) h.2)

-- ---- what is stored

-- the word of a reference whose object has a current copy is a line's
even_object : (es : List Entry) (m w : ℕ) → 1 < (entry es m).stage → w ≡ current_word (entry es m) → w % 2 ≡ 0
even_object es m w moved is = let c = word_copy (entry es m) (omega (arith, moved)) in omega (arith, c, is)

pub even_word : (es : List Entry) (r : Ref) (w : ℕ) → IsTo es r → IsWordOf es (RefItem r) w → HasLine es (RefItem r)
    → w % 2 ≡ 0
even_word es NoRef w to is line = omega (arith, is)
even_word es (Persistent l) w to is line =
    even_object es to.0 w (line to.0 to.1 to.2) (is to.0 to.1 to.2)
even_word es (Volatile at) w to is line =
    even_object es to.0 w (line to.0 to.1 to.2) (is to.0 to.1 to.2)

pub ref_word : (s : Spaces) (es : List Entry) (n i w : ℕ) (item : Item) → Stands s es → IsItem es item
    → IsWordOf es item w
    → IsOfKindIn (kind_at (view_of s.twin) (entry es n) i) (item_value (number_in (view_of s.twin)) item)
    → refers (view_of s.twin) (entry es n) i ≡ true → IsRef es w
ref_word s es n i w item h to is of refs =
    let r = item_ref (number_in (view_of s.twin)) (kind_at (view_of s.twin) (entry es n) i) item refs of in
    word_ref (view_of s.twin) es r.0 w h.lies (subst (IsItem es) r.1 to) (subst (λ x. IsWordOf es x w) r.1 is)

pub line_word : (s : Spaces) (es : List Entry) (n i w : ℕ) (item : Item) → Stands s es → IsItem es item
    → IsWordOf es item w → HasLine es item
    → IsOfKindIn (kind_at (view_of s.twin) (entry es n) i) (item_value (number_in (view_of s.twin)) item)
    → refers (view_of s.twin) (entry es n) i ≡ true → w % 2 ≡ 0
line_word s es n i w item h to is line of refs =
    let r = item_ref (number_in (view_of s.twin)) (kind_at (view_of s.twin) (entry es n) i) item refs of in
    even_word es r.0 w (subst (IsItem es) r.1 to) (subst (λ x. IsWordOf es x w) r.1 is) (subst (HasLine es) r.1 line)

-- what a store to a slot asks
pub record IsAsked (s : Spaces) (r : Ref) (i : ℕ) (item : Item) : Type 0 where
  pub slot : IfNumber (number_in (view_of s.twin) r) (λ n. i < length (object_in (shown_of s) n).values)
  pub known : IsKnownItem (number_in (view_of s.twin)) item
  pub kind : IfNumber (number_in (view_of s.twin) r)
      (λ n. IsOfKindIn (slot_kind (shown_of s) n i) (item_value (number_in (view_of s.twin)) item))
  pub may : IfNumber (number_in (view_of s.twin) r) (λ n. MayStoreIn s (Slot n i) item)

-- the heap of words may make it
pub may_store : (s : Spaces) (r : Ref) (i w : ℕ) (item : Item) (es : List Entry) (n : ℕ) → At s r es n
    → IsAsked s r i item → IsWordOf es item w → MayStore (view_of s.twin) (reference_word r) i w es n
may_store s r i w item es n a asked word =
    let to = item_to (view_of s.twin) es item a.stands.lies asked.known in
    let of = of_kind s r i (item_value (number_in (view_of s.twin)) item) es n a asked.kind in
    let may = if_number (number_in (view_of s.twin) r) (λ m. MayStoreIn s (Slot m i) item) asked.may in
    let here : MayStoreIn s (Slot n i) item =
    subst (λ m. MayStoreIn s (Slot m i) item) (sym (same_one s r es n may.0 a may.1)) may.2 in
    record {
      lies = a.stands.lies;
      there = a.below;
      names = a.names;
      slot = slot_there s r i es n a asked.slot;
      reference = ref_word s es n i w item a.stands to word of;
      line_word = λ ref copied. line_word s es n i w item a.stands to word (here es a.stands (a.below, copied)) of ref;
    }
