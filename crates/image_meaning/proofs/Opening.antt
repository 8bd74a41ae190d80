-- An image that stands for a graph corresponds to each heap that holds the graph.
use Rattle.std.proofs.Common.{◌≡◌, ◌≢◌, inl, inr, ℕ, ◌+◌, ◌-◌, ◌*◌, ◌/◌, ◌%◌, ◌<◌, ◌≤◌, ◌==◌, ◌&&◌, true, false, List, [], ◌∷◌}
use Rattle.std.proofs.Common.{length, nat_eq, nat_le, nat_lt, None, refl, sym, ◌∙◌, arith, slice_index_or, if◌then◌else◌}
use Rattle.std.specs.Prelude.{not}
use Rattle.std.specs.List.{IsDistinct, list_any}
use Rattle.std.proofs.lemmas.Bool.{cases_lt, cases_eq, lt-ltb, le-ltb, le-leb, eq-eqb, ne_eqb, false≢true, and_parts, and_from}
use Rattle.std.proofs.lemmas.Bool.{leb-true, ltb-true, eqb-true, eqb-false, not-true}
use Rattle.std.proofs.lemmas.List.FromFn.{length-map-range_with_len, get_or-map-range_with_len}
use Rattle.std.proofs.lemmas.Map.Keys.{apart_from_distinct}
use Rattle.ap_base.specs.declared.kind.Kind.{Kind}
use Rattle.ap_base.specs.declared.kind.Kind.TheVariants.{Z, B, C, S, I, J, L, Text}
use Rattle.graph_model.specs.declared.types.Value.{Value}
use Rattle.graph_model.specs.declared.types.Value.TheVariants.{Null, Obj as Object}
use Rattle.graph_model.specs.declared.types.Shape.{Shape}
use Rattle.graph_model.specs.Heaps.{has_number}
use Rattle.graph_model.specs.Canon.{place_in, renumbered}
use Rattle.image_layout.specs.declared.superblock.BadReason.TheVariants as bad
use Rattle.image_layout.specs.Places.{root_slots, slot_line, first_object_line, lines_of, object_line}
use Rattle.image_meaning.specs.Checks.{Words, fails_unless, first_fault}
use Rattle.image_meaning.specs.Objects.{is_reference, is_number, value_of, word_fault, shape_number, shape_of, length_at}
use Rattle.image_meaning.specs.Objects.{object_slot, kind_of, holds_slots, values_at, is_within, line_fault, slot_fault}
use Rattle.image_meaning.specs.Objects.{object_fault}
use Rattle.image_meaning.specs.Meaning.{root_word, root_fault, roots_fault, root_value, root_values_of}
use Rattle.image_meaning.specs.Corresponds.{HoldsReference, Holds, AreApart}
use Rattle.image_meaning.specs.Opening.{found_at}
use Rattle.image_meaning.proofs.Faults.{first_fault-passes, both_none}
use Rattle.image_meaning.proofs.Places.{passed}
use Rattle.image_meaning.proofs.Steps.{AreInImage, AreAmong}

-- ---- words that pass

-- a reference that isn't null is twice a line of the image
pub reference_line : (size w : ℕ) → is_reference size w ≡ true → w ≢ 0
    → (w ≡ 2 * (w / 2)) × (first_object_line ≤ w / 2) × (w / 2 < size)
reference_line size w h used =
    let isnt : (w == 0) ≡ false = ne_eqb w 0 used in
    let both : (w % 2 == 0 && (nat_le first_object_line (w / 2) && nat_lt (w / 2) size)) ≡ true = rw isnt at h in
    let a = and_parts (w % 2 == 0) (nat_le first_object_line (w / 2) && nat_lt (w / 2) size) both in
    let b = and_parts (nat_le first_object_line (w / 2)) (nat_lt (w / 2) size) a.1 in
    let even = eqb-true (w % 2) 0 a.0 in
    (omega (arith, even), leb-true first_object_line (w / 2) b.0, ltb-true (w / 2) size b.1)

reference_object : (size w m : ℕ) → is_reference size w ≡ true → value_of L w ≡ Object m → (first_object_line ≤ m) × (m < size)
reference_object size w m h e = elim (cases_eq w 0) [
  | inl none ↦ absurd (let f : Null ≡ Object m = rw none at e in cc)
  | inr used ↦ (
      let isnt : (w == 0) ≡ false = ne_eqb w 0 used in
      let f : Object (w / 2) ≡ Object m = rw isnt at e in
      let same : w / 2 ≡ m = cc in
      let r = reference_line size w h used in
      (omega (arith, r.1, same), omega (arith, r.2, same)))
]

word_object : (size : ℕ) (kind : Kind) (line w m : ℕ) → word_fault size kind line w ≡ None → value_of kind w ≡ Object m → (first_object_line ≤ m) × (m < size)
word_object size L line w m h e = reference_object size w m (passed (is_reference size w) (line, bad.Reference) h) e
word_object size Z line w m h e = absurd (let f : value_of Z w ≡ Object m = e in cc)
word_object size B line w m h e = absurd (let f : value_of B w ≡ Object m = e in cc)
word_object size C line w m h e = absurd (let f : value_of C w ≡ Object m = e in cc)
word_object size S line w m h e = absurd (let f : value_of S w ≡ Object m = e in cc)
word_object size I line w m h e = absurd (let f : value_of I w ≡ Object m = e in cc)
word_object size J line w m h e = absurd (let f : value_of J w ≡ Object m = e in cc)
word_object size Text line w m h e = absurd (let f : value_of Text w ≡ Object m = e in cc)

-- an object that passes
pub record ObjectPasses (shapes : List Shape) (size : ℕ) (words : Words) (earlier : List ℕ) (line : ℕ) : Type 0 where
  pub known : shape_number words line < length shapes
  pub full : holds_slots (shape_of shapes words line).element (shape_of shapes words line).fields (length_at words line) ≡ true
  pub high : line + lines_of (length_at words line) ≤ size
  pub free : (j : ℕ) → j < lines_of (length_at words line) → list_any (is_within words (line + j)) earlier ≡ false
  pub slots : (i : ℕ) → i < length_at words line
      → word_fault size (kind_of (shape_of shapes words line) i) (object_line line i) (object_slot words line i) ≡ None

pub object_passed : (shapes : List Shape) (size : ℕ) (words : Words) (earlier : List ℕ) (line : ℕ)
    → object_fault shapes size words earlier line ≡ None → ObjectPasses shapes size words earlier line
object_passed shapes size words earlier line h =
    let shape = shape_of shapes words line in
    let n = length_at words line in
    let a = both_none (fails_unless (nat_lt (shape_number words line) (length shapes)) (line, bad.Shape)) _ h in
    let b = both_none (fails_unless (holds_slots shape.element shape.fields n && nat_le (line + lines_of n) size) (line, bad.Length)) _ a.1 in
    let c = both_none (first_fault (line_fault words earlier line) (lines_of n)) _ b.1 in
    let length_good = and_parts (holds_slots shape.element shape.fields n) (nat_le (line + lines_of n) size)
    (passed (holds_slots shape.element shape.fields n && nat_le (line + lines_of n) size) (line, bad.Length) b.0) in
    record {
      known = ltb-true (shape_number words line) (length shapes) (passed (nat_lt (shape_number words line) (length shapes)) (line, bad.Shape) a.0);
      full = length_good.0;
      high = leb-true (line + lines_of n) size length_good.1;
      free = λ j below.
          not-true (list_any (is_within words (line + j)) earlier)
          (passed (not (list_any (is_within words (line + j)) earlier)) (line + j, bad.Overlap)
          (first_fault-passes (line_fault words earlier line) (lines_of n) c.0 j below));
      slots = λ i below. first_fault-passes (slot_fault size words shape line) n c.1 i below;
    }

-- ---- values that pass

value_read : (shapes : List Shape) (words : Words) (line i : ℕ) (d : Value) → i < length_at words line
    → slice_index_or (values_at shapes words line) i d ≡ value_of (kind_of (shape_of shapes words line) i) (object_slot words line i)
value_read shapes words line i d h =
    get_or-map-range_with_len (λ i. value_of (kind_of (shape_of shapes words line) i) (object_slot words line i)) 0 (length_at words line) i i d h (omega arith)

values_count : (shapes : List Shape) (words : Words) (line : ℕ) → length (values_at shapes words line) ≡ length_at words line
values_count shapes words line =
    length-map-range_with_len (λ i. value_of (kind_of (shape_of shapes words line) i) (object_slot words line i)) 0 (length_at words line)

pub values_in_image : (shapes : List Shape) (size : ℕ) (words : Words) (earlier : List ℕ) (line : ℕ)
    → object_fault shapes size words earlier line ≡ None → AreInImage size (values_at shapes words line)
values_in_image shapes size words earlier line h m c =
    let passes = object_passed shapes size words earlier line h in
    let below : c.0 < length_at words line = rw (values_count shapes words line) at c.1 in
    let value = sym (value_read shapes words line c.0 (Object m) below) ∙ c.2 in
    word_object size (kind_of (shape_of shapes words line) c.0) (object_line line c.0) (object_slot words line c.0) m (passes.slots c.0 below) value

-- ---- root slots that pass

pub root_passed : (size : ℕ) (words : Words) (roots : ℕ) → roots_fault size words roots ≡ None → (r : ℕ) → r < root_slots
    → (if nat_lt r roots then is_reference size (root_word words r) else root_word words r == 0) ≡ true
unfolding roots_fault
root_passed size words roots h r below =
    passed (if nat_lt r roots then is_reference size (root_word words r) else root_word words r == 0) (slot_line r, bad.Reference)
    (first_fault-passes (root_fault size words roots) root_slots h r below)

pub root_used : (size : ℕ) (words : Words) (roots : ℕ) → roots_fault size words roots ≡ None → roots ≤ root_slots → (r : ℕ) → r < roots
    → is_reference size (root_word words r) ≡ true
root_used size words roots h few r below =
    let e : nat_lt r roots ≡ true = lt-ltb r roots below in
    rw e at (root_passed size words roots h r (omega (arith, below, few)))

pub root_unused : (size : ℕ) (words : Words) (roots : ℕ) → roots_fault size words roots ≡ None → (r : ℕ) → roots ≤ r → r < root_slots
    → root_word words r ≡ 0
root_unused size words roots h r from below =
    let e : nat_lt r roots ≡ false = le-ltb r roots from in
    eqb-true (root_word words r) 0 (rw e at (root_passed size words roots h r below))

root_read : (words : Words) (roots r : ℕ) (d : Value) → r < roots → slice_index_or (root_values_of words roots) r d ≡ root_value words r
root_read words roots r d h = get_or-map-range_with_len (root_value words) 0 roots r r d h (omega arith)

pub roots_in_image : (size : ℕ) (words : Words) (roots : ℕ) → roots_fault size words roots ≡ None → roots ≤ root_slots
    → AreInImage size (root_values_of words roots)
roots_in_image size words roots h few m c =
    let below : c.0 < roots = rw (length-map-range_with_len (root_value words) 0 roots) at c.1 in
    let value = sym (root_read words roots c.0 (Object m) below) ∙ c.2 in
    reference_object size (root_word words c.0) m (root_used size words roots h few c.0 below) value

-- ---- places

pub place-at : (lines : List ℕ) (line : ℕ) → has_number lines line ≡ true
    → (place_in lines line < length lines) × (slice_index_or lines (place_in lines line) 0 ≡ line)
place-at [] line h = absurd (false≢true h)
place-at (a ∷ lines) line h = elim (cases_eq a line) [
  | inl e ↦ rw (eq-eqb a line e) (omega arith, e)
  | inr d ↦ (
      let f = ne_eqb a line d in
      let there : has_number lines line ≡ true = rw f at h in
      let more = place-at lines line there in
      rw f (omega (arith, more.0), more.1))
]

pub one_number : (lines : List ℕ) → IsDistinct nat_eq lines → (m n : ℕ) → m < length lines → n < length lines
    → slice_index_or lines m 0 ≡ slice_index_or lines n 0 → m ≡ n
one_number lines once m n a b same = elim (cases_lt m n) [
  | inl before ↦ absurd (eqb-false (slice_index_or lines m 0) (slice_index_or lines n 0) (apart_from_distinct nat_eq lines m n 0 once before b) same)
  | inr from ↦ elim (cases_lt n m) [
    | inl before ↦ absurd (eqb-false (slice_index_or lines n 0) (slice_index_or lines m 0) (apart_from_distinct nat_eq lines n m 0 once before a) (sym same))
    | inr past ↦ omega (arith, from, past)
  ]
]

-- ---- what words that pass hold

reference_held : (size : ℕ) (lines : List ℕ) (w : ℕ) → is_reference size w ≡ true
    → ((m : ℕ) → value_of L w ≡ Object m → has_number lines m ≡ true) → HoldsReference (found_at lines) w (renumbered lines (value_of L w))
reference_held size lines w h among = elim (cases_eq w 0) [
  | inl none ↦ rw none refl
  | inr used ↦ (
      let isnt : (w == 0) ≡ false = ne_eqb w 0 used in
      let r = reference_line size w h used in
      let value : value_of L w ≡ Object (w / 2) = rw isnt refl in
      let place = place-at lines (w / 2) (among (w / 2) value) in
      rw isnt (w / 2, r.0, place))
]

pub word_held : (size : ℕ) (lines : List ℕ) (kind : Kind) (line w : ℕ) → word_fault size kind line w ≡ None
    → ((m : ℕ) → value_of kind w ≡ Object m → has_number lines m ≡ true) → Holds (found_at lines) kind w (renumbered lines (value_of kind w))
word_held size lines L line w h among = reference_held size lines w (passed (is_reference size w) (line, bad.Reference) h) among
word_held size lines Z line w h among = (passed (is_number Z w) (line, bad.Value) h, refl)
word_held size lines B line w h among = (passed (is_number B w) (line, bad.Value) h, refl)
word_held size lines C line w h among = (passed (is_number C w) (line, bad.Value) h, refl)
word_held size lines S line w h among = (passed (is_number S w) (line, bad.Value) h, refl)
word_held size lines I line w h among = (passed (is_number I w) (line, bad.Value) h, refl)
word_held size lines J line w h among = (passed (is_number J w) (line, bad.Value) h, refl)
word_held size lines Text line w h among = (passed (is_number Text w) (line, bad.Value) h, refl)

-- a root slot in use
pub root_held : (size : ℕ) (words : Words) (lines : List ℕ) (roots : ℕ) → roots_fault size words roots ≡ None → roots ≤ root_slots
    → AreAmong lines (root_values_of words roots) → (r : ℕ) → r < roots
    → HoldsReference (found_at lines) (root_word words r) (renumbered lines (root_value words r))
root_held size words lines roots h few among r below =
    reference_held size lines (root_word words r) (root_used size words roots h few r below)
    (λ m e. among m (
      r,
      (let count = length-map-range_with_len (root_value words) 0 roots in omega (arith, below, count)),
      root_read words roots r (Object m) below ∙ e,
    ))

-- a slot of an object
pub slot_held : (shapes : List Shape) (size : ℕ) (words : Words) (earlier lines : List ℕ) (line : ℕ)
    → ObjectPasses shapes size words earlier line → AreAmong lines (values_at shapes words line)
    → (i : ℕ) → i < length_at words line
    → Holds (found_at lines) (kind_of (shape_of shapes words line) i) (object_slot words line i)
    (renumbered lines (value_of (kind_of (shape_of shapes words line) i) (object_slot words line i)))
slot_held shapes size words earlier lines line passes among i below =
    word_held size lines (kind_of (shape_of shapes words line) i) (object_line line i) (object_slot words line i) (passes.slots i below)
    (λ m e. among m (i, (let count = values_count shapes words line in omega (arith, below, count)), value_read shapes words line i (Object m) below ∙ e))

-- ---- objects that pass lie apart

within_from : (words : Words) (line a : ℕ) → a ≤ line → line < a + lines_of (length_at words a) → is_within words line a ≡ true
within_from words line a low high =
    and_from (nat_le a line) (nat_lt line (a + lines_of (length_at words a))) (le-leb a line low) (lt-ltb line (a + lines_of (length_at words a)) high)

pub apart_from_free : (words : Words) (a b : ℕ)
    → ((j : ℕ) → j < lines_of (length_at words b) → is_within words (b + j) a ≡ false) → AreApart words a b
apart_from_free words a b free = elim (cases_lt b (a + lines_of (length_at words a))) [
  | inr after ↦ inl after
  | inl before ↦ elim (cases_lt a (b + lines_of (length_at words b))) [
    | inr past ↦ inr past
    | inl within ↦ elim (cases_lt a b) [
      | inl lower ↦ absurd (
          let e : b + 0 ≡ b = omega arith in
          let f : is_within words b a ≡ false = rw e at (free 0 (omega arith)) in
          false≢true (sym f ∙ within_from words b a (omega (arith, lower)) before))
      | inr from ↦ absurd (
          let j = a - b in
          let e : b + j ≡ a = omega (arith, from) in
          let f : is_within words a a ≡ false = rw e at (free j (omega (arith, within, from))) in
          false≢true (sym f ∙ within_from words a a (omega arith) (omega arith)))
    ]
  ]
]
