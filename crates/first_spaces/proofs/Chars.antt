-- Chars that are stored to a new object.
use Rattle.std.proofs.Common.{◌≡◌, inl, inr, ℕ, ℤ, ◌+◌, ◌<◌, ◌≤◌, ◌^◌, true, pos, List, [], ◌∷◌, ◌++◌, map, take, drop, length}
use Rattle.std.proofs.Common.{get_or, set, slice_index_or, Option, Some, None, refl, ap, ◌∙◌, sym, subst, arith, append_assoc}
use Rattle.std.specs.Prelude.{sum_by}
use Rattle.std.specs.Int.{w32, cast_unsigned}
use Rattle.std.proofs.lemmas.Bool.{cases_lt, lt-ltb}
use Rattle.std.proofs.lemmas.List.{get_or-set_same, get_or_at, get_or_past, set-set, set_at, take_more, drop_more, map-append}
use Rattle.std.proofs.lemmas.List.{length-map, length-take-le, length-replicate}
use Rattle.ap_base.specs.declared.kind.Kind.{Kind}
use Rattle.ap_base.specs.declared.kind.Kind.TheVariants.{C}
use Rattle.ap_base.specs.declared.place.Place.TheVariants.{Slot}
use Rattle.ap_base.specs.declared.reference.Ref.{Ref}
use Rattle.ap_base.specs.declared.reference.Item.TheVariants.{Int as IntItem}
use Rattle.graph_model.specs.declared.types.Obj.{Obj}
use Rattle.graph_model.specs.declared.types.Shape.{Shape}
use Rattle.graph_model.specs.declared.types.Value.{Value}
use Rattle.graph_model.specs.declared.types.Value.TheVariants.{Int, Null}
use Rattle.graph_model.specs.Heaps.{default_of, fresh_values, no_object, no_shape, with_slot}
use Rattle.image_meaning.specs.Objects.{is_number}
use Rattle.plain_model.specs.Limits.{words_of}
use Rattle.shared_objects.specs.Shown.{HasSlot, IfNumber, kind_in, object_in, shape_in, slot_kind}
use Rattle.shared_objects.specs.Changes.{StoresSlot}
use Rattle.one_space.specs.First.{text_object}
use Rattle.one_space.specs.Making.{with_chars}
use Rattle.one_space.proofs.Laid.{if_number}
use Rattle.one_space.proofs.Making.{chars_long, fresh_elements, if_number_back, kind_of_elements, text_is}
use Rattle.twin_forms.specs.Sights.{view_of}
use Rattle.twin_forms.specs.Table.{Entry, HasCopied, entry, kind_at, line_of}
use Rattle.two_spaces.specs.Seen.{Spaces, shown_of}
use Rattle.two_spaces.specs.Whole.{SlotStored, Stands, StoresIn}
use Rattle.two_spaces.proofs.Finding.{at_number, shown_kind}
use Rattle.first_spaces.specs.Growing.{Grows, IsYoung, KeepsNumbers, PutsChars, Spares, fresh_object}
use Rattle.first_spaces.proofs.Growing.{spares_further}
use Rattle.first_spaces.proofs.Numbers.{numbers_stored}

-- ---- one char

not_copied : (e : Entry) (c : ℕ) → e.stage ≡ 0 → HasCopied e c → ⊥
not_copied e c young (inl far) = omega (arith, young, far)
not_copied e c young (inr near) = let one = near.0 in omega (arith, young, one)

same_kind : (a b : Kind) → Some a ≡ Some b → a ≡ b
same_kind a b e = ap (λ (o : Option Kind). elim o [ None ↦ a | Some kind ↦ kind ]) e

module _ (before now : Spaces) (r : Ref) (i : ℕ) (v : ℤ) (young : IsYoung before r)
    (stores : StoresSlot r i (IntItem v) (shown_of before) (shown_of now))
    (heap : (n : ℕ) → (shown_of before).number r ≡ Some n → StoresIn before (Slot n i) (IntItem v) now) where
  found : (n : ℕ) × ((shown_of before).number r ≡ Some n) × ((entry young.es n).stage ≡ 0)
  found = if_number ((shown_of before).number r) (λ n. (entry young.es n).stage ≡ 0) young.young

  stored : (es : List Entry) → Stands before es → (w : ℕ) × SlotStored before es found.0 i w now
  stored es h = let s = heap found.0 found.1 es h in (s.0, s.2)

  pub char_table : (es : List Entry) → Stands before es → Stands now es
  char_table es h = (stored es h).1.stands

  -- the slot holds chars, and the word that it was given is a char's
  pub char_numbers : (c : ℕ) → v ≡ pos c → c < 2 ^ 16
      → IfNumber ((shown_of before).number r) (λ n. slot_kind (shown_of before) n i ≡ Some C)
      → KeepsNumbers before now
  char_numbers c is small kinds es h =
      let n = found.0 in
      let s = heap n found.1 es h in
      let holds : slot_kind (shown_of before) n i ≡ Some C =
      subst (λ o. IfNumber o (λ m. slot_kind (shown_of before) m i ≡ Some C)) found.1 kinds in
      let below = (at_number before r es n h found.1).below in
      let kind : kind_at (view_of before.twin) (entry es n) i ≡ Some C =
      sym (shown_kind before es n i h below) ∙ holds in
      let word : s.0 ≡ cast_unsigned w32 (pos c) = s.1 ∙ ap (cast_unsigned w32) is in
      numbers_stored before now es n i s.0 s.2.classes.kinds s.2.stored
      (λ own its. subst (λ x. is_number x s.0 ≡ true) (same_kind C own (sym kind ∙ its))
      (lt-ltb s.0 (2 ^ 16) (omega (arith, word, small))))

  pub char_spares : Spares before now
  char_spares =
      let s = stored young.es young.stands in
      record {
        goes_on = stores.goes_on;
        memory = s.1.same (not_copied (entry young.es found.0) (line_of i) found.2);
        classes = s.1.classes;
        statics = s.1.statics;
      }

  pub char_young : IsYoung now r
  char_young = record {
    es = young.es;
    stands = char_table young.es young.stands;
    young = if_number_back ((shown_of now).number r) (λ n. (entry young.es n).stage ≡ 0) found.0
        (stores.goes_on.keeps r found.0 found.1) found.2;
  }

-- ---- chars one after another

-- an object with slots is there
with_slots : (objects : List Obj) (n i : ℕ) → i < length (slice_index_or objects n no_object).values → n <
    length objects
with_slots objects n i below = elim (cases_lt n (length objects)) [
  | inl inside ↦ inside
  | inr past ↦ absurd (let none : length (slice_index_or objects n no_object).values ≡ 0 =
      ap (λ (o : Obj). length o.values) (get_or_past objects n no_object past) in
      omega (arith, none, below))
]

abbrev char_value : ℕ → Value
char_value c = Int (pos c)

with_more : (o : Obj) (chars : List ℕ) (i : ℕ) → i < length chars → length chars ≤ length o.values
    → with_slot (with_chars o (take i chars)) i (Int (pos (get_or chars i 0)))
    ≡ with_chars o (take (i + 1) chars)
with_more o chars i below room =
    let v = Int (pos (get_or chars i 0)) in
    let front = map char_value (take i chars) in
    let make : List Value → Obj = λ vs. record { shape = o.shape; values = vs } in
    let within : i ≤ length chars = omega (arith, below) in
    let taken : length (take i chars) ≡ i = length-take-le i chars within in
    let long : length front ≡ i = length-map (take i chars) char_value ∙ taken in
    let next : i + 1 ≤ length chars = omega (arith, below) in
    let inside : i < length o.values = omega (arith, below, room) in
    ap (λ (k : ℕ). make (set (front ++ drop k o.values) i v)) taken
    ∙ ap (λ (vs : List Value). make (set (front ++ vs) i v)) (drop_more o.values i Null inside)
    ∙ ap make (set_at front (get_or o.values i Null) (drop (i + 1) o.values) v i long)
    ∙ ap make (sym (append_assoc front (v ∷ []) (drop (i + 1) o.values)))
    ∙ ap (λ (vs : List Value). make (vs ++ drop (i + 1) o.values))
    (sym (map-append char_value (take i chars) (get_or chars i 0 ∷ [])))
    ∙ ap (λ (cs : List ℕ). make (map char_value cs ++ drop (i + 1) o.values))
    (sym (take_more chars i 0 below))
    ∙ ap (λ (k : ℕ). make (map char_value (take (i + 1) chars) ++ drop k o.values))
    (sym (length-take-le (i + 1) chars next))

pub chars_object : (r : Ref) (i n : ℕ) (chars : List ℕ) (before now : Spaces)
    → PutsChars r (take i chars) before now
    → (shown_of before).number r ≡ Some n → n < length (shown_of before).objects
    → object_in (shown_of now) n ≡ with_chars (object_in (shown_of before) n) (take i chars)
chars_object r i n chars before now puts number there =
    ap (λ (os : List Obj). slice_index_or os n no_object) (puts.objects n number)
    ∙ get_or-set_same (shown_of before).objects n (with_chars (object_in (shown_of before) n) (take i chars))
    no_object there

pub chars_more : (r : Ref) (i : ℕ) (chars : List ℕ) (before now later : Spaces) → i < length chars
    → IfNumber ((shown_of before).number r) (λ n. length chars ≤ length (object_in (shown_of before)
    n).values)
    → PutsChars r (take i chars) before now
    → StoresSlot r i (IntItem (pos (get_or chars i 0))) (shown_of now) (shown_of later) → Spares now later
    → ((es : List Entry) → Stands now es → Stands later es) → KeepsNumbers now later
    → PutsChars r (take (i + 1) chars) before later
chars_more r i chars before now later below room puts stores spares table numbers = record {
  spares = spares_further before now later puts.spares spares;
  objects = λ n e.
      let long : length chars ≤ length (object_in (shown_of before) n).values =
      subst (λ o. IfNumber o (λ n. length chars ≤ length (object_in (shown_of before) n).values)) e room in
      let there = with_slots (shown_of before).objects n i (omega (arith, long, below)) in
      let old = object_in (shown_of before) n in
      stores.objects n (puts.spares.goes_on.keeps r n e)
      ∙ ap (λ (o : Obj). set (shown_of now).objects n (with_slot o i (Int (pos (get_or chars i 0)))))
      (chars_object r i n chars before now puts e there)
      ∙ ap (λ (o : Obj). set (shown_of now).objects n o) (with_more old chars i below long)
      ∙ ap (λ (os : List Obj). set os n (with_chars old (take (i + 1) chars))) (puts.objects n e)
      ∙ set-set (shown_of before).objects n (with_chars old (take i chars))
      (with_chars old (take (i + 1) chars));
  left = stores.left ∙ puts.left;
  table = λ es h. table es (puts.table es h);
  numbers = λ es h from hold. numbers es (puts.table es h) from (puts.numbers es h from hold);
}

-- ---- what storing the next char asks

pub chars_slot : (r : Ref) (i : ℕ) (chars : List ℕ) (before now : Spaces) → i < length chars
    → IfNumber ((shown_of before).number r) (λ n. length chars ≤ length (object_in (shown_of before)
    n).values)
    → PutsChars r (take i chars) before now → HasSlot (shown_of now) r i
chars_slot r i chars before now below room puts =
    let h = if_number ((shown_of before).number r)
    (λ n. length chars ≤ length (object_in (shown_of before) n).values) room in
    let long = h.2 in
    let there = with_slots (shown_of before).objects h.0 i (omega (arith, long, below)) in
    let is = chars_object r i h.0 chars before now puts h.1 there in
    if_number_back ((shown_of now).number r)
    (λ n. i < length (object_in (shown_of now) n).values) h.0 (puts.spares.goes_on.keeps r h.0 h.1)
    (subst (λ (o : Obj). i < length o.values) (sym is)
    (let count = chars_long (object_in (shown_of before) h.0) chars i (omega (arith, below)) long in
    omega (arith, count, long, below)))

pub chars_kind : (r : Ref) (i : ℕ) (chars : List ℕ) (before now : Spaces) → i < length chars
    → IfNumber ((shown_of before).number r) (λ n. length chars ≤ length (object_in (shown_of before)
    n).values)
    → IfNumber ((shown_of before).number r) (λ n.
    (shape_in (shown_of before) (object_in (shown_of before) n).shape).element ≡ Some C)
    → PutsChars r (take i chars) before now
    → IfNumber ((shown_of now).number r) (λ n. slot_kind (shown_of now) n i ≡ Some C)
chars_kind r i chars before now below room kinds puts =
    let h = if_number ((shown_of before).number r)
    (λ n. length chars ≤ length (object_in (shown_of before) n).values) room in
    let long = h.2 in
    let there = with_slots (shown_of before).objects h.0 i (omega (arith, long, below)) in
    let is = chars_object r i h.0 chars before now puts h.1 there in
    let kind : (shape_in (shown_of before) (object_in (shown_of before) h.0).shape).element ≡ Some C =
    subst (λ o. IfNumber o (λ n. (shape_in (shown_of before) (object_in (shown_of before) n).shape).element
    ≡ Some C)) h.1 kinds in
    let shape : (shape_in (shown_of now) (object_in (shown_of now) h.0).shape)
    ≡ shape_in (shown_of before) (object_in (shown_of before) h.0).shape =
    ap (λ (o : Obj). shape_in (shown_of now) o.shape) is
    ∙ ap (λ (ss : List Shape). slice_index_or ss (object_in (shown_of before) h.0).shape no_shape)
    puts.spares.goes_on.shapes in
    if_number_back ((shown_of now).number r) (λ n. slot_kind (shown_of now) n i ≡ Some C) h.0
    (puts.spares.goes_on.keeps r h.0 h.1)
    (ap (λ (s : Shape). kind_in s i) shape ∙ kind_of_elements
    (shape_in (shown_of before) (object_in (shown_of before) h.0).shape) C i kind)

-- ---- a text

pub text_added : (class : ℕ) (chars : List ℕ) (r : Ref) (before now later : Spaces)
    → (slice_index_or before.shapes class no_shape).element ≡ Some C
    → Grows (fresh_object before.shapes class (length chars) ∷ []) before now
    → (shown_of now).number r ≡ Some (length (shown_of before).objects)
    → PutsChars r chars now later → Grows (text_object class chars ∷ []) before later
text_added class chars r before now later element grown number puts =
    let shape = slice_index_or before.shapes class no_shape in
    let fresh = fresh_object before.shapes class (length chars) in
    let count : length (map char_value chars) ≡ length chars = length-map chars char_value in
    let fresh_count : length (fresh_values shape (length chars)) ≡ length chars =
    ap (λ (vs : List Value). length vs) (fresh_elements shape C (length chars) element)
    ∙ length-replicate (length chars) (default_of C) in
    let same : words_of fresh ≡ words_of (text_object class chars) = omega (arith, count, fresh_count) in
    let n = length (shown_of before).objects in
    record {
      spares = spares_further before now later grown.spares puts.spares;
      objects = puts.objects n number
          ∙ ap (λ (os : List Obj). set os n (with_chars (slice_index_or os n no_object) chars)) grown.objects
          ∙ ap (λ (o : Obj). set ((shown_of before).objects ++ fresh ∷ []) n (with_chars o chars))
          (get_or_at (shown_of before).objects fresh [] no_object n refl)
          ∙ ap (λ (o : Obj). set ((shown_of before).objects ++ fresh ∷ []) n o) (text_is shape class chars
          element)
          ∙ set_at (shown_of before).objects fresh [] (text_object class chars) n refl;
      left = let one = grown.left in let two = puts.left in
          let sums : sum_by words_of (fresh ∷ []) ≡ sum_by words_of (text_object class chars ∷ []) =
          omega (arith, same) in
          omega (arith, one, two, sums);
      table = λ es h.
          let t = grown.table es h in (
            t.0,
            puts.table t.0 t.1,
            record {
              long = t.2.long;
              old = t.2.old;
              new = t.2.new;
              numbers = λ from hold. puts.numbers t.0 t.1 from (t.2.numbers from hold);
            },
          );
    }
