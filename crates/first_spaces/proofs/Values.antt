-- What words of an image show in a heap, by what they hold.
use Rattle.std.proofs.Common.{◌≡◌, ◌⊎◌, inl, inr, ℕ, zero, suc, ◌*◌, ◌<◌, ◌^◌, true, nat_lt, pos, List, [], ◌∷◌, map, length}
use Rattle.std.proofs.Common.{slice_get, slice_index_or, Option, Some, None, refl, ap, ◌∙◌, sym, arith, rules}
use Rattle.std.specs.Prelude.{slice_index}
use Rattle.std.specs.Int.{w32, cast_signed}
use Rattle.std.proofs.lemmas.Int.{to_z_pos}
use Rattle.std.proofs.lemmas.Bool.{false≢true}
use Rattle.std.proofs.lemmas.List.{length-map}
use Rattle.ap_base.specs.declared.kind.Kind.{Kind}
use Rattle.ap_base.specs.declared.kind.Kind.TheVariants.{Z, B, C, S, I, J, L, Text}
use Rattle.graph_model.specs.declared.types.Field.{Field}
use Rattle.graph_model.specs.declared.types.Shape.{Shape}
use Rattle.graph_model.specs.declared.types.Value.{Value}
use Rattle.graph_model.specs.declared.types.Value.TheVariants.{Int, Long, Null, Obj as Object}
use Rattle.image_meaning.specs.Objects.{holds_slots, kind_of}
use Rattle.image_meaning.specs.Corresponds.{Holds, HoldsReference}
use Rattle.image_meaning.specs.Opening.{found_at}
use Rattle.one_space.specs.Layout.{lower}
use Rattle.twin_forms.specs.Sights.{kind_in}
use Rattle.twin_forms.specs.Table.{Entry, IsRef, Lies, Names, View, entry, is_reference, value_of}
use Rattle.twin_forms.specs.Table.{Obj as OfNumber}
use Rattle.twin_forms.proofs.Elsewhere.{positive, value_null, value_obj}
use Rattle.twin_forms.proofs.Led.{number_is}
use Rattle.twin_heap.specs.Here.{kinds_of}
use Rattle.two_spaces.specs.Seen.{slot_value}

-- ---- kinds

slice_here : {A : Type 0} (xs : List A) (i : ℕ) (d : A) → i < length xs → slice_get xs i ≡ Some
    (slice_index_or xs i d)
slice_here [] i d below = absurd (omega (arith, below))
slice_here (x ∷ xs) zero d below = refl
slice_here (x ∷ xs) (suc i) d below = slice_here xs i d (omega (arith, below))

-- the kind of a slot of an object that has as many as its shape says
pub kind_is : (shape : Shape) (count i : ℕ) → holds_slots shape.element shape.fields count ≡ true → i < count
    → kind_in (kinds_of shape) i ≡ Some (kind_of shape i)
kind_is shape count i full below = at_parts shape.element full
  where
    at_parts : (element : Option Kind) → holds_slots element shape.fields count ≡ true
        → kind_in (kinds_of (record { name = shape.name; fields = shape.fields; element = element })) i
        ≡ Some (kind_of (record { name = shape.name; fields = shape.fields; element = element }) i)
    at_parts (Some kind) is = refl
    at_parts None is =
        let count_is : length shape.fields ≡ count = search (rules, is) in
        let long = length-map shape.fields (λ (f : Field). f.kind) in
        slice_here (map (λ (f : Field). f.kind) shape.fields) i L (omega (arith, below, count_is, long))

-- ---- references

-- the word of a reference is 0, or twice a line
pub held_reference : (lines : List ℕ) (w : ℕ) (value : Value) → HoldsReference (found_at lines) w value
    → (w ≡ 0) ⊎ ((i : ℕ) × (i < length lines) × (w ≡ 2 * slice_index lines i))
held_reference lines w Null holds = inl holds
held_reference lines w (Object n) holds =
    let at = holds.2 in
    inr (n, at.0, holds.1 ∙ ap (λ l. 2 * l) (sym at.1))
held_reference lines w (Int i) holds = absurd holds
held_reference lines w (Long i) holds = absurd holds

pub held_kind : (lines : List ℕ) (kind : Kind) (w : ℕ) (value : Value) → is_reference (Some kind) ≡ true
    → Holds (found_at lines) kind w value → (w ≡ 0) ⊎ ((i : ℕ) × (i < length lines) × (w ≡ 2 * slice_index
    lines i))
held_kind lines L w value is holds = held_reference lines w value holds
held_kind lines Z w value is holds = absurd (false≢true is)
held_kind lines B w value is holds = absurd (false≢true is)
held_kind lines C w value is holds = absurd (false≢true is)
held_kind lines S w value is holds = absurd (false≢true is)
held_kind lines I w value is holds = absurd (false≢true is)
held_kind lines J w value is holds = absurd (false≢true is)
held_kind lines Text w value is holds = absurd (false≢true is)

-- ---- numbers

low_word : (w : ℕ) → w < 2 ^ 32 → lower w ≡ w
low_word w few = let p : nat_lt w (2 ^ 32) ≡ true = search (rules, few) in rw p refl

small_word : (w : ℕ) → w < 2 ^ 31 → cast_signed w32 (lower w) ≡ pos w
small_word w few = ap (cast_signed w32) (low_word w (omega (arith, few))) ∙ to_z_pos w32 w (omega (
  arith,
  few,
))

-- ---- what is shown

-- node n lies at the n-th line
abbrev pub AtLines : List ℕ → List Entry → Type 0
AtLines lines es = (n : ℕ) → n < length lines
    → (n < length es) × (1 < (entry es n).stage) × ((entry es n).line ≡ slice_index lines n) × (0 <
    slice_index lines n)

pub names_line : (lines : List ℕ) (es : List Entry) (n w : ℕ) → AtLines lines es → n < length lines
    → w ≡ 2 * slice_index lines n → Names (entry es n) w
names_line lines es n w at lt is =
    let a = at n lt in
    let line = a.2 in
    let there = a.3 in
    inr (a.1, omega (arith, is, line), omega (arith, is, there))

pub line_ref : (lines : List ℕ) (es : List Entry) (w : ℕ) → AtLines lines es
    → (w ≡ 0) ⊎ ((i : ℕ) × (i < length lines) × (w ≡ 2 * slice_index lines i)) → IsRef es w
line_ref lines es w at (inl none) = inl none
line_ref lines es w at (inr x) = inr (x.0, (at x.0 x.1).0, names_line lines es x.0 w at x.1 x.2)

pub shown_reference : (v : View) (es : List Entry) (lines : List ℕ) (w : ℕ) (value : Value) → Lies v es →
    AtLines lines es
    → HoldsReference (found_at lines) w value → slot_value (Some L) (value_of v true w) ≡ value
shown_reference v es lines w Null lies at holds = ap (slot_value (Some L)) (value_null v true w refl holds)
shown_reference v es lines w (Object n) lies at holds =
    let here = holds.2 in
    let names = names_line lines es n w at here.0 (holds.1 ∙ ap (λ l. 2 * l) (sym here.1)) in
    ap (slot_value (Some L)) (value_obj v true w refl (positive (entry es n) w names)
    ∙ ap OfNumber (number_is v es n w lies (at n here.0).0 names))
shown_reference v es lines w (Int i) lies at holds = absurd holds
shown_reference v es lines w (Long i) lies at holds = absurd holds

pub shown_word : (v : View) (es : List Entry) (lines : List ℕ) (kind : Kind) (w : ℕ) (value : Value) → Lies v
    es
    → AtLines lines es → Holds (found_at lines) kind w value
    → slot_value (Some kind) (value_of v (is_reference (Some kind)) w) ≡ value
shown_word v es lines L w value lies at holds = shown_reference v es lines w value lies at holds
shown_word v es lines J w value lies at holds = sym holds.1
shown_word v es lines Z w value lies at holds =
    let few : w < 2 = search (rules, holds.0) in ap Int (small_word w (omega (arith, few))) ∙ sym holds.1
shown_word v es lines C w value lies at holds =
    let few : w < 2 ^ 16 = search (rules, holds.0) in ap Int (small_word w (omega (arith, few))) ∙ sym holds.1
shown_word v es lines Text w value lies at holds =
    let few : w < 2 ^ 16 = search (rules, holds.0) in ap Int (small_word w (omega (arith, few))) ∙ sym holds.1
shown_word v es lines B w value lies at holds =
    let few : w < 2 ^ 32 = search (rules, holds.0) in ap (λ x. Int (cast_signed w32 x)) (low_word w few) ∙ sym
    holds.1
shown_word v es lines S w value lies at holds =
    let few : w < 2 ^ 32 = search (rules, holds.0) in ap (λ x. Int (cast_signed w32 x)) (low_word w few) ∙ sym
    holds.1
shown_word v es lines I w value lies at holds =
    let few : w < 2 ^ 32 = search (rules, holds.0) in ap (λ x. Int (cast_signed w32 x)) (low_word w few) ∙ sym
    holds.1
