-- Objects that are made one after another.
use Rattle.std.proofs.Common.{◌≡◌, ◌⊎◌, inl, inr, ℕ, ℤ, zero, suc, ◌+◌, ◌-◌, ◌<◌, ◌≤◌, pos, List, [], ◌∷◌, ◌++◌, map, take}
use Rattle.std.proofs.Common.{drop, length, get_or, set, replicate, slice_index_or, slice_get, Option, Some, None, refl, ap}
use Rattle.std.proofs.Common.{◌∙◌, sym, subst, arith, length-append, append_assoc}
use Rattle.std.specs.Prelude.{sum_by}
use Rattle.std.proofs.lemmas.List.{get_or-set_same, get_or_past, get_or_at, set-set, set_at, take_more, take_at, take-append-le}
use Rattle.std.proofs.lemmas.List.{take-append-drop, drop_more, drop_all, map-append, length-map, length-take-le}
use Rattle.std.proofs.lemmas.List.{length-replicate, length-drop}
use Rattle.std.proofs.lemmas.List.Sums.{sum_by_push}
use Rattle.ap_base.specs.declared.kind.Kind.{Kind}
use Rattle.ap_base.specs.declared.kind.Kind.TheVariants.{C}
use Rattle.ap_base.specs.declared.reference.Ref.TheVariants.{Volatile}
use Rattle.ap_base.specs.declared.reference.Item.TheVariants.{Int as IntItem}
use Rattle.run_types.specs.declared.fault.Full.{Full}
use Rattle.run_types.specs.declared.fault.Which.TheVariants.{VolatileWords}
use Rattle.graph_model.specs.declared.types.Value.{Value}
use Rattle.graph_model.specs.declared.types.Value.TheVariants.{Int, Null}
use Rattle.graph_model.specs.declared.types.Obj.{Obj}
use Rattle.graph_model.specs.declared.types.Shape.{Shape}
use Rattle.graph_model.specs.Heaps.{no_object, no_shape, with_slot, default_of, fresh_values}
use Rattle.plain_model.specs.Limits.{words_of}
use Rattle.shared_objects.specs.Shown.{Shown, IfNumber, IsOfKindIn, HasSlot, IsOfSlot, object_in, shape_in, slot_kind, kind_in}
use Rattle.shared_objects.specs.Shown.{field_kind}
use Rattle.shared_objects.specs.Changes.{GoesOn, StoresSlot, Allocates}
use Rattle.one_space.specs.declared.space.OneSpace.{OneSpace}
use Rattle.one_space.specs.Shows.{shown_of}
use Rattle.one_space.specs.First.{index_in, text_object, LacksWords}
use Rattle.one_space.specs.Making.{TakesWords, Adds, CannotAdd, PutsChars, HasMade, with_chars}
use Rattle.one_space.proofs.Laid.{if_number, lt_or_is}

pub goes_further : (a b c : Shown) → GoesOn a b → GoesOn b c → GoesOn a c
goes_further a b c first then = record {
  shapes = then.shapes ∙ first.shapes;
  keeps = λ r n e. then.keeps r n (first.keeps r n e);
  keys = λ r e. then.keys r (first.keys r e);
}

pub takes_further : (i j : ℕ) (a b c : OneSpace) → TakesWords i a b → TakesWords j b c
    → TakesWords (i + j) a c
takes_further i j a b c first then = record {
  shapes = then.shapes ∙ first.shapes;
  statics = then.statics ∙ first.statics;
  words = let one = first.words in let two = then.words in omega (arith, one, two);
}

pub if_number_back : (o : Option ℕ) (P : ℕ → Type 0) (n : ℕ) → o ≡ Some n → P n → IfNumber o P
if_number_back o P n e h = subst (λ x. IfNumber x P) (sym e) h

inside_or_past : (xs : List Obj) (n : ℕ) → (n < length xs) ⊎ (length xs ≤ n)
inside_or_past [] n = inr (omega arith)
inside_or_past (x ∷ xs) zero = inl (omega arith)
inside_or_past (x ∷ xs) (suc n) = elim (inside_or_past xs n)
    [ inl below ↦ inl (omega (arith, below)) | inr past ↦ inr (omega (arith, past)) ]

-- an object with slots is there
with_slots : (objects : List Obj) (n i : ℕ) → i < length (slice_index_or objects n no_object).values
    → n < length objects
with_slots objects n i below = elim (inside_or_past objects n) [
  | inl inside ↦ inside
  | inr past ↦ absurd (let none : length (slice_index_or objects n no_object).values
      ≡ 0 = ap (λ (o : Obj). length o.values) (get_or_past objects n no_object past) in
      omega (arith, none, below))
]

-- ---- chars

abbrev char_value : ℕ → Value
char_value c = Int (pos c)

with_more : (o : Obj) (chars : List ℕ) (i : ℕ) → i < length chars → length chars ≤ length o.values
    → with_slot (with_chars o (take i chars)) i (Int (pos (get_or chars i 0)))
    ≡ with_chars o (take (i + 1) chars)
with_more o chars i below room =
    let v = Int (pos (get_or chars i 0)) in
    let front = map char_value (take i chars) in
    let make : List Value → Obj = λ vs. record { shape = o.shape; values = vs } in
    let within : i ≤ length chars = omega (arith, below) in
    let taken : length (take i chars) ≡ i = length-take-le i chars within in
    let long : length front ≡ i = length-map (take i chars) char_value ∙ taken in
    let next : i + 1 ≤ length chars = omega (arith, below) in
    let inside : i < length o.values = omega (arith, below, room) in
    ap (λ (k : ℕ). make (set (front ++ drop k o.values) i v)) taken
    ∙ ap (λ (vs : List Value). make (set (front ++ vs) i v)) (drop_more o.values i Null inside)
    ∙ ap make (set_at front (get_or o.values i Null) (drop (i + 1) o.values) v i long)
    ∙ ap make (sym (append_assoc front (v ∷ []) (drop (i + 1) o.values)))
    ∙ ap (λ (vs : List Value). make (vs ++ drop (i + 1) o.values))
    (sym (map-append char_value (take i chars) (get_or chars i 0 ∷ [])))
    ∙ ap (λ (cs : List ℕ). make (map char_value cs ++ drop (i + 1) o.values))
    (sym (take_more chars i 0 below))
    ∙ ap (λ (k : ℕ). make (map char_value (take (i + 1) chars) ++ drop k o.values))
    (sym (length-take-le (i + 1) chars next))

-- the object while its chars are stored
pub chars_object : (at i n : ℕ) (chars : List ℕ) (before now : OneSpace)
    → PutsChars at (take i chars) before now
    → (shown_of before).number (Volatile at) ≡ Some n → n < length (shown_of before).objects
    → object_in (shown_of now) n ≡ with_chars (object_in (shown_of before) n) (take i chars)
chars_object at i n chars before now puts number there =
    ap (λ (os : List Obj). slice_index_or os n no_object) (puts.objects n number)
    ∙ get_or-set_same (shown_of before).objects n (with_chars (object_in (shown_of before) n) (take i chars))
    no_object there

pub chars_long : (o : Obj) (chars : List ℕ) (i : ℕ) → i ≤ length chars → length chars ≤ length o.values
    → length (with_chars o (take i chars)).values ≡ length o.values
chars_long o chars i within room =
    let front = map char_value (take i chars) in
    let taken = length-take-le i chars within in
    omega (
      arith,
      length-append front (drop (length (take i chars)) o.values),
      length-map (take i chars) char_value,
      length-drop (length (take i chars)) o.values,
      taken,
      within,
      room,
    )

pub no_chars : (at : ℕ) (chars : List ℕ) (heap : OneSpace) → PutsChars at (take 0 chars) heap heap
no_chars at chars heap = record {
  goes_on = record { shapes = refl; keeps = λ r n e. e; keys = λ r e. e };
  objects = λ n e. sym (set_same (shown_of heap).objects n);
  takes = record { shapes = refl; statics = refl; words = omega arith };
  left = refl;
}
  where
    set_same : (os : List Obj) (n : ℕ) → set os n (slice_index_or os n no_object) ≡ os
    set_same [] n = refl
    set_same (o ∷ os) zero = refl
    set_same (o ∷ os) (suc n) = ap (λ (xs : List Obj). o ∷ xs) (set_same os n)

pub chars_more : (at i : ℕ) (chars : List ℕ) (before now later : OneSpace) → i < length chars
    → IfNumber ((shown_of before).number (Volatile at)) (λ n. length chars ≤ length
    (object_in (shown_of before) n).values)
    → PutsChars at (take i chars) before now
    → StoresSlot (Volatile at) i (IntItem (pos (get_or chars i 0))) (shown_of now) (shown_of later)
    → TakesWords 0 now later
    → PutsChars at (take (i + 1) chars) before later
chars_more at i chars before now later below room puts stores takes = record {
  goes_on = goes_further (shown_of before) (shown_of now) (shown_of later) puts.goes_on stores.goes_on;
  objects = λ n e.
      let long : length chars ≤ length (object_in (shown_of before) n).values =
      subst (λ o. IfNumber o (λ n. length chars ≤ length (object_in (shown_of before) n).values)) e room in
      let there = with_slots (shown_of before).objects n i (omega (arith, long, below)) in
      let old = object_in (shown_of before) n in
      stores.objects n (puts.goes_on.keeps (Volatile at) n e)
      ∙ ap (λ (o : Obj). set (shown_of now).objects n (with_slot o i (Int (pos (get_or chars i 0)))))
      (chars_object at i n chars before now puts e there)
      ∙ ap (λ (o : Obj). set (shown_of now).objects n o) (with_more old chars i below long)
      ∙ ap (λ (os : List Obj). set os n (with_chars old (take (i + 1) chars))) (puts.objects n e)
      ∙ set-set (shown_of before).objects n (with_chars old (take i chars))
      (with_chars old (take (i + 1) chars));
  takes = takes_further 0 0 before now later puts.takes takes;
  left = stores.left ∙ puts.left;
}

-- ---- kinds

pub kind_of_elements : (shape : Shape) (kind : Kind) (i : ℕ) → shape.element ≡ Some kind → kind_in shape i
    ≡ Some kind
kind_of_elements shape kind i e =
    ap (λ (o : Option Kind). elim o as (λ x. Option Kind)
    [ None ↦ field_kind (slice_get shape.fields i) | Some k ↦ Some k ]) e

pub fresh_elements : (shape : Shape) (kind : Kind) (count : ℕ) → shape.element ≡ Some kind
    → fresh_values shape count ≡ replicate count (default_of kind)
fresh_elements shape kind count e =
    ap (λ (o : Option Kind). elim o as (λ x. List Value)
    [ None ↦ map (λ f. default_of f.kind) shape.fields | Some k ↦ replicate count (default_of k) ]) e

-- ---- one more text

pub text_is : (shape : Shape) (class : ℕ) (chars : List ℕ) → shape.element ≡ Some C
    → with_chars (record { shape = class; values = fresh_values shape (length chars) }) chars
    ≡ text_object class chars
text_is shape class chars e =
    let fresh = fresh_values shape (length chars) in
    let make : List Value → Obj = λ vs. record { shape = class; values = vs } in
    let long : length fresh ≡ length chars = ap (λ (vs : List Value). length vs)
    (fresh_elements shape C (length chars) e) ∙ length-replicate (length chars) (default_of C) in
    ap (λ (vs : List Value). make (map char_value chars ++ vs))
    (drop_all (length chars) fresh (omega (arith, long)))
    ∙ ap make (append_nil (map char_value chars))
  where
    append_nil : (vs : List Value) → vs ++ [] ≡ vs
    append_nil [] = refl
    append_nil (v ∷ vs) = ap (λ (xs : List Value). v ∷ xs) (append_nil vs)

-- the new object of an allocation
pub new_object : (class count : ℕ) (at : ℕ) (before now : Shown)
    → Allocates class count (Volatile at) before now
    → object_in now (length before.objects) ≡ record {
      shape = class;
      values = fresh_values
          (shape_in before class) count;
    }
new_object class count at before now made =
    ap (λ (os : List Obj). slice_index_or os (length before.objects) no_object) made.objects
    ∙ get_or_at before.objects (record {
      shape = class;
      values = fresh_values (shape_in before class) count;
    }) [] no_object (length before.objects) refl

pub text_added : (class at : ℕ) (chars : List ℕ) (before now later : OneSpace)
    → (shape_in (shown_of before) class).element ≡ Some C
    → Allocates class (length chars) (Volatile at) (shown_of before) (shown_of now) → at
    ≡ length before.space.words
    → TakesWords (3 + length chars) before now → 3 + length chars ≤ before.space.left
    → PutsChars at chars now later → Adds (text_object class chars) before later
text_added class at chars before now later element made index takes within puts =
    let count : length (map char_value chars) ≡ length chars = length-map chars char_value in
    let fresh : Obj = record {
      shape = class;
      values = fresh_values (shape_in (shown_of before) class)
          (length chars);
    } in
    record {
      goes_on = goes_further (shown_of before) (shown_of now) (shown_of later) made.goes_on puts.goes_on;
      objects = puts.objects (length (shown_of before).objects) made.number
          ∙ ap (λ (o : Obj). set (shown_of now).objects (length (shown_of before).objects)
          (with_chars o chars)) (new_object class (length chars) at (shown_of before) (shown_of now) made)
          ∙ ap (λ (o : Obj). set (shown_of now).objects (length (shown_of before).objects) o)
          (text_is (shape_in (shown_of before) class) class chars element)
          ∙ ap (λ (os : List Obj). set os (length (shown_of before).objects) (text_object class chars))
          made.objects
          ∙ set_at (shown_of before).objects fresh [] (text_object class chars)
          (length (shown_of before).objects) refl;
      number = ap (λ (a : ℕ). (shown_of later).number (Volatile a)) (sym index)
          ∙ puts.goes_on.keeps (Volatile at) (length (shown_of before).objects) made.number;
      takes = record {
        shapes = puts.takes.shapes ∙ takes.shapes;
        statics = puts.takes.statics ∙ takes.statics;
        words = let one = takes.words in let two = puts.takes.words in omega (arith, one, two, count);
      };
      left = let one = made.left in let two = puts.left in omega (arith, one, two, count, within);
    }

-- one more object without slots
pub empty_added : (class at : ℕ) (before now : OneSpace) → fresh_values (shape_in (shown_of before) class) 0
    ≡ []
    → Allocates class 0 (Volatile at) (shown_of before) (shown_of now) → at ≡ length before.space.words
    → TakesWords 3 before now → 3 ≤ before.space.left
    → Adds (record { shape = class; values = [] }) before now
empty_added class at before now none made index takes within = record {
  goes_on = made.goes_on;
  objects = made.objects ∙ ap (λ (vs : List Value). (shown_of before).objects ++ record
      { shape = class; values = vs } ∷ []) none;
  number = ap (λ (a : ℕ). (shown_of now).number (Volatile a)) (sym index) ∙ made.number;
  takes = takes;
  left = let one = made.left in omega (arith, one, within);
}

-- ---- all that were made

pub made_more : (words : ℕ) (shapes : List Shape) (objects : List Obj) (o : Obj) (before now : OneSpace)
    → HasMade words shapes objects before → Adds o before now
    → HasMade words shapes (objects ++ o ∷ []) now
made_more words shapes objects o before now made adds = record {
  shapes = adds.takes.shapes ∙ made.shapes;
  objects = adds.objects ∙ ap (λ (os : List Obj). os ++ o ∷ []) made.objects;
  statics = adds.takes.statics ∙ made.statics;
  taken = let one = adds.takes.words in let two = made.taken in
      omega (arith, one, two, sum_by_push words_of objects o);
  left = let one = adds.left in let two = made.left in omega
      (arith, one, two, sum_by_push words_of objects o);
  places = λ n below.
      let few : n < suc (length objects) = omega (arith, length-append objects (o ∷ []), below) in
      elim (lt_or_is n (length objects) few) [
        | inl less ↦ (let within : n ≤ length objects = omega (arith, less) in
            ap (λ (os : List Obj). (shown_of now).number (Volatile (sum_by words_of os)))
            (take-append-le n objects (o ∷ []) within)
            ∙ adds.goes_on.keeps (Volatile (index_in objects n)) n (made.places n less))
        | inr is ↦
            ap (λ (os : List Obj). (shown_of now).number (Volatile (sum_by words_of os)))
            (take_at objects (o ∷ []) n (sym is))
            ∙ ap (λ (a : ℕ). (shown_of now).number (Volatile a)) (sym made.taken)
            ∙ adds.number ∙ ap Some (ap (λ (os : List Obj). length os) made.objects ∙ sym is)
      ];
}

abbrev full_with : ℕ → ℕ → Full
full_with need left = record { which = VolatileWords; need = need; left = left }

pub lacks : (words : ℕ) (shapes : List Shape) (objects rest : List Obj) (o : Obj) (before : OneSpace)
    (full : Full) → HasMade words shapes objects before
    → CannotAdd o before full → LacksWords words (objects ++ o ∷ rest) full
lacks words shapes objects rest o before full made cannot =
    let index : index_in (objects ++ o ∷ rest) (length objects) ≡ sum_by words_of objects =
    ap (λ (os : List Obj). sum_by words_of os) (take_at objects (o ∷ rest) (length objects) refl) in
    let here : slice_index_or (objects ++ o ∷ rest) (length objects) no_object
    ≡ o = get_or_at objects o rest no_object (length objects) refl in
    let sum = made.left in
    let left : words - index_in (objects ++ o ∷ rest) (length objects)
    ≡ before.space.left = omega (arith, index, sum) in
    record {
      n = length objects;
      there = omega (arith, length-append objects (o ∷ rest));
      within = omega (arith, index, sum);
      full = cannot.full
          ∙ ap (λ (x : Obj). full_with (words_of x) before.space.left) (sym here)
          ∙ ap (λ (l : ℕ). full_with (words_of (slice_index_or (objects ++ o ∷ rest) (length objects)
          no_object)) l) (sym left);
      short = let s = cannot.short in let same : words_of
          (slice_index_or (objects ++ o ∷ rest) (length objects) no_object) ≡ words_of o = ap words_of here in
          omega (arith, s, same, left);
    }

-- ---- texts one after another

pub split_at : {A B : Type 0} (f : A → B) (ts : List A) (i : ℕ) (t : A) → i < length ts → t ≡ get_or ts i t
    → map f (take i ts) ++ f t ∷ map f (drop (i + 1) ts) ≡ map f ts
split_at f ts i t below is =
    sym (ap (λ xs. map f xs) (sym (take-append-drop i ts)) ∙ map-append f (take i ts) (drop i ts)
    ∙ ap (λ xs. map f (take i ts) ++ map f xs) (drop_more ts i t below)
    ∙ ap (λ x. map f (take i ts) ++ f x ∷ map f (drop (i + 1) ts)) (sym is))

pub more_at : {A B : Type 0} (f : A → B) (ts : List A) (i : ℕ) (t : A) → i < length ts → t ≡ get_or ts i t
    → map f (take i ts) ++ f t ∷ [] ≡ map f (take (i + 1) ts)
more_at f ts i t below is =
    sym (ap (map f) (take_more ts i t below) ∙ map-append f (take i ts) (get_or ts i t ∷ [])
    ∙ ap (λ x. map f (take i ts) ++ f x ∷ []) (sym is))

-- ---- what storing the next char asks

pub chars_slot : (at i : ℕ) (chars : List ℕ) (before now : OneSpace) → i < length chars
    → IfNumber ((shown_of before).number (Volatile at)) (λ n. length chars ≤ length
    (object_in (shown_of before) n).values)
    → PutsChars at (take i chars) before now → HasSlot (shown_of now) (Volatile at) i
chars_slot at i chars before now below room puts =
    let h = if_number ((shown_of before).number (Volatile at))
    (λ n. length chars ≤ length (object_in (shown_of before) n).values) room in
    let long = h.2 in
    let there = with_slots (shown_of before).objects h.0 i (omega (arith, long, below)) in
    let is = chars_object at i h.0 chars before now puts h.1 there in
    if_number_back ((shown_of now).number (Volatile at))
    (λ n. i < length (object_in (shown_of now) n).values) h.0 (puts.goes_on.keeps (Volatile at) h.0 h.1)
    (subst (λ (o : Obj). i < length o.values) (sym is)
    (let count = chars_long (object_in (shown_of before) h.0) chars i (omega (arith, below)) long in
    omega (arith, count, long, below)))

pub chars_kind : (at i : ℕ) (chars : List ℕ) (before now : OneSpace) → i < length chars
    → IfNumber ((shown_of before).number (Volatile at)) (λ n. length chars ≤ length
    (object_in (shown_of before) n).values)
    → IfNumber ((shown_of before).number (Volatile at)) (λ n.
    (shape_in (shown_of before) (object_in (shown_of before) n).shape).element ≡ Some C)
    → PutsChars at (take i chars) before now → (value : ℤ)
    → IsOfSlot (shown_of now) (Volatile at) i (Int value)
chars_kind at i chars before now below room kinds puts value =
    let h = if_number ((shown_of before).number (Volatile at))
    (λ n. length chars ≤ length (object_in (shown_of before) n).values) room in
    let long = h.2 in
    let there = with_slots (shown_of before).objects h.0 i (omega (arith, long, below)) in
    let is = chars_object at i h.0 chars before now puts h.1 there in
    let kind : (shape_in (shown_of before) (object_in (shown_of before) h.0).shape).element ≡ Some C =
    subst (λ o. IfNumber o (λ n. (shape_in (shown_of before) (object_in (shown_of before) n).shape).element
    ≡ Some C)) h.1 kinds in
    let shape : (shape_in (shown_of now) (object_in (shown_of now) h.0).shape)
    ≡ shape_in (shown_of before) (object_in (shown_of before) h.0).shape =
    ap (λ (o : Obj). shape_in (shown_of now) o.shape) is
    ∙ ap (λ (ss : List Shape). slice_index_or ss (object_in (shown_of before) h.0).shape no_shape)
    puts.goes_on.shapes in
    let slot : slot_kind (shown_of now) h.0 i ≡ Some C =
    ap (λ (s : Shape). kind_in s i) shape ∙ kind_of_elements
    (shape_in (shown_of before) (object_in (shown_of before) h.0).shape) C i kind in
    if_number_back ((shown_of now).number (Volatile at))
    (λ n. IsOfKindIn (slot_kind (shown_of now) n i) (Int value)) h.0
    (puts.goes_on.keeps (Volatile at) h.0 h.1)
    (subst (λ o. IsOfKindIn o (Int value)) (sym slot) tt)
