-- The word of a slot holds the value that the slot shows.
use Rattle.std.proofs.Common.{◌≡◌, ◌⊎◌, inl, inr, ℕ, zero, suc, ◌*◌, ◌^◌, ◌<◌, ◌≤◌, true, false, nat_lt, pos, List, [], ◌∷◌}
use Rattle.std.proofs.Common.{length, map, Option, Some, None, refl, sym, ◌∙◌, ap, subst, arith}
use Rattle.std.specs.Prelude.{slice_get, slice_index_or}
use Rattle.std.specs.Int.{w32, cast_signed}
use Rattle.std.proofs.lemmas.Bool.{ltb-true, lt-ltb, eqb-true}
use Rattle.std.proofs.lemmas.Int.{ints}
use Rattle.ap_base.specs.declared.kind.Kind.{Kind}
use Rattle.ap_base.specs.declared.kind.Kind.TheVariants.{Z, B, C, S, I, J, L, Text}
use Rattle.graph_model.specs.declared.types.Value.TheVariants.{Int, Obj as Object}
use Rattle.graph_model.specs.declared.types.Field.{Field}
use Rattle.graph_model.specs.declared.types.Shape.{Shape}
use Rattle.one_space.specs.Layout.{lower}
use Rattle.shared_objects.specs.Shown.{kind_in, field_kind}
use Rattle.image_meaning.specs.Objects.{is_number, kind_of, kind_among, holds_slots}
use Rattle.image_meaning.specs.Corresponds.{LiesAt, HoldsReference, Holds}
use Rattle.twin_forms.specs.Table.{Entry, entry, View, Lies, Names, is_reference, kind_at, refers, word_of, value_of}
use Rattle.twin_forms.specs.Table.{Value as TwinValue, Obj as OfNumber}
use Rattle.twin_forms.proofs.Led.{number_is}
use Rattle.twin_forms.proofs.Elsewhere.{positive, value_obj, value_null}
use Rattle.two_spaces.specs.Seen.{slot_value, slot_shown}

-- ---- numbers

lowered : (w : ℕ) → w < 2 ^ 32 → lower w ≡ w
lowered w small = rw (lt-ltb w (2 ^ 32) small) refl

below_bits : (w limit : ℕ) → nat_lt w limit ≡ true → limit ≤ 2 ^ 32 → w < 2 ^ 32
below_bits w limit is few = let lt = ltb-true w limit is in omega (arith, lt, few)

small_word : (w : ℕ) → w < 2 ^ 31 → cast_signed w32 w ≡ pos w
small_word w small = omega (arith, ints, small)

int_held : (w limit : ℕ) → nat_lt w limit ≡ true → limit ≤ 2 ^ 16
    → Int (cast_signed w32 (lower w)) ≡ Int (pos w)
int_held w limit is few =
    let lt = ltb-true w limit is in
    ap (λ k. Int (cast_signed w32 k)) (lowered w (omega (arith, lt, few)))
    ∙ ap (λ z. Int z) (small_word w (omega (arith, lt, few)))

-- ---- references

-- The word is null, or the reference to an object, which lies at its line.
abbrev pub IsHeldRef : LiesAt → List Entry → ℕ → Type 0
IsHeldRef R es w = (w ≡ 0)
    ⊎ ((n : ℕ) × (n < length es) × Names (entry es n) w × ((line : ℕ) × (w ≡ 2 * line) × R line n))

ref_held : (R : LiesAt) (v : View) (es : List Entry) (w : ℕ) → Lies v es → IsHeldRef R es w
    → HoldsReference R w (slot_value (Some L) (value_of v true w))
ref_held R v es w h (inl z) =
    subst (λ (x : TwinValue). HoldsReference R w (slot_value (Some L) x)) (sym (value_null v true w refl z)) z
ref_held R v es w h (inr x) =
    let is : value_of v true w ≡ OfNumber x.0 =
    value_obj v true w refl (positive (entry es x.0) w x.2) ∙ ap OfNumber (number_is v es x.0 w h x.1 x.2) in
    subst (λ (y : TwinValue). HoldsReference R w (slot_value (Some L) y)) (sym is) x.3

-- ---- words of a kind

pub word_held : (R : LiesAt) (v : View) (es : List Entry) (kind : Kind) (w : ℕ) → Lies v es
    → (is_reference (Some kind) ≡ false → is_number kind w ≡ true)
    → (is_reference (Some kind) ≡ true → IsHeldRef R es w)
    → Holds R kind w (slot_value (Some kind) (value_of v (is_reference (Some kind)) w))
word_held R v es Z w h number ref = (number refl, int_held w 2 (number refl) (omega arith))
word_held R v es C w h number ref = (number refl, int_held w (2 ^ 16) (number refl) (omega arith))
word_held R v es Text w h number ref = (number refl, int_held w (2 ^ 16) (number refl) (omega arith))
word_held R v es B w h number ref = (
  number refl,
  ap (λ k. Int (cast_signed w32 k)) (lowered w (below_bits w (2 ^ 32) (number refl) (omega arith))),
)
word_held R v es S w h number ref = (
  number refl,
  ap (λ k. Int (cast_signed w32 k)) (lowered w (below_bits w (2 ^ 32) (number refl) (omega arith))),
)
word_held R v es I w h number ref = (
  number refl,
  ap (λ k. Int (cast_signed w32 k)) (lowered w (below_bits w (2 ^ 32) (number refl) (omega arith))),
)
word_held R v es J w h number ref = (number refl, refl)
word_held R v es L w h number ref = ref_held R v es w h (ref refl)

-- ---- slots

pub slot_held : (R : LiesAt) (v : View) (es : List Entry) (n k : ℕ) (kind : Kind) → Lies v es
    → kind_at v (entry es n) k ≡ Some kind
    → (is_reference (Some kind) ≡ false → is_number kind (word_of v (entry es n) k) ≡ true)
    → (is_reference (Some kind) ≡ true → IsHeldRef R es (word_of v (entry es n) k))
    → Holds R kind (word_of v (entry es n) k) (slot_shown v (entry es n) k)
slot_held R v es n k kind h is number ref =
    let w = word_of v (entry es n) k in
    subst (λ (o : Option Kind). Holds R kind w (slot_value o (value_of v (is_reference o) w))) (sym is)
    (word_held R v es kind w h number ref)

-- a slot whose word is an object's reference shows the object
pub object_shown : (v : View) (es : List Entry) (e : Entry) (k n : ℕ) (kind : Kind) → Lies v es
    → kind_at v e k ≡ Some kind → is_reference (Some kind) ≡ true → n < length es
    → Names (entry es n) (word_of v e k) → slot_shown v e k ≡ Object n
object_shown v es e k n kind h is ref lt names =
    let w = word_of v e k in
    let one : refers v e k ≡ true = ap is_reference is ∙ ref in
    let found : value_of v (refers v e k) w ≡ OfNumber n =
    value_obj v (refers v e k) w one (positive (entry es n) w names)
    ∙ ap OfNumber (number_is v es n w h lt names) in
    ap (slot_value (kind_at v e k)) found

-- ---- kinds

field_there : (fields : List Field) (i : ℕ) → i < length fields
    → field_kind (slice_get fields i) ≡ Some (slice_index_or (map (λ (f : Field). f.kind) fields) i L)
field_there [] i lt = absurd (omega (arith, lt))
field_there (f ∷ fs) zero lt = refl
field_there (f ∷ fs) (suc i) lt = field_there fs i (omega (arith, lt))

kind_by : (element : Option Kind) (name : List ℕ) (fields : List Field) (count i : ℕ)
    → holds_slots element fields count ≡ true → i < count
    → kind_in (record { name = name; fields = fields; element = element }) i
    ≡ Some (kind_among element fields i)
kind_by None name fields count i full lt =
    field_there fields i (let e = eqb-true (length fields) count full in omega (arith, e, lt))
kind_by (Some kind) name fields count i full lt = refl

-- a slot that the object has is of some kind
pub kind_there : (shape : Shape) (count i : ℕ) → holds_slots shape.element shape.fields count ≡ true
    → i < count → kind_in shape i ≡ Some (kind_of shape i)
kind_there shape count i full lt = kind_by shape.element shape.name shape.fields count i full lt
