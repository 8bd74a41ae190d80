-- The classes one after another get their shapes of the heap.
use Rattle.std.proofs.Common.{◌≡◌, ℕ, ◌+◌, ◌-◌, ◌<◌, List, [], ◌∷◌, ◌++◌, Option, Some, None, length, refl, ap, sym, ◌∙◌, arith}
use Rattle.std.proofs.Common.{append_assoc, append-nil, below_more, slice_index_or, subst}
use Rattle.std.specs.Prelude.{slice_index}
use Rattle.std.proofs.lemmas.List.{get_or_append_left, get_or-append_right, length-append, length_push}
use Rattle.graph_model.specs.declared.types.Shape.{Shape}
use Rattle.graph_model.specs.Heaps.{no_shape}
use Rattle.set_spaces.specs.declared.heap.HeapShapes.{HeapShapes}
use Rattle.set_spaces.specs.Numbering.{Adds, ArePlaces, AreNumbers, AreShapes, Continues, IsNumbered}

last_is : {A : Type 0} (xs : List A) (x d : A) (k : ℕ) → k ≡ length xs → slice_index_or (xs ++ x ∷ []) k d ≡ x
last_is {A} xs x d k e =
    let zero_left : k - length xs ≡ 0 = omega (arith, e) in
    get_or-append_right xs (x ∷ []) (length xs) k d refl (omega (arith, e))
    ∙ ap (λ i. slice_index_or (x ∷ []) i d) zero_left

-- ---- none so far

pub no_numbers : (shapes : List Shape) (places : List (Option ℕ)) (old : HeapShapes) (numbers : List ℕ)
    → AreShapes shapes old → numbers ≡ [] → AreNumbers shapes places old old numbers
no_numbers shapes places old numbers are none =
    let no : length numbers ≡ 0 = ap length none in
    record {
      are_shapes = are;
      continues = record {
        further = [];
        shapes = sym (append-nil old.shapes.items);
        many = omega arith;
        classes = λ k lt. refl;
      };
      within = λ c lt. absurd (omega (arith, lt, no));
      back = λ c lt. absurd (omega (arith, lt, no));
      placed = λ c k lt at. absurd (omega (arith, lt, no));
    }

-- ---- one more

module _ (shapes : List Shape) (places : List (Option ℕ)) (old mid : HeapShapes) (numbers : List ℕ)
    (are : AreNumbers shapes places old mid numbers) where
  abbrev class : ℕ
  class = length numbers

  abbrev with : ℕ → List ℕ
  with number = numbers ++ number ∷ []

  earlier : (number c : ℕ) → c < class → slice_index (with number) c ≡ slice_index numbers c
  earlier number c lt = get_or_append_left numbers (number ∷ []) 0 c lt

  latest : (number : ℕ) → slice_index (with number) class ≡ number
  latest number = last_is numbers number 0 class refl

  -- what holds of each number so far and of this one holds of all
  each : (P : ℕ → ℕ → Type 0) (number : ℕ) → ((c : ℕ) → c < class → P c (slice_index numbers c))
      → P class number
      → (c : ℕ) → c < length (with number) → P c (slice_index (with number) c)
  each P number below here c lt =
      below_more (λ k. P k (slice_index (with number) k)) class
      (λ k early. subst (P k) (sym (earlier number k early)) (below k early))
      (subst (P class) (sym (latest number)) here) c
      (omega (arith, lt, length_push numbers number))

  -- at its place
  at_place : (j : ℕ) → slice_index_or places class None ≡ Some j → j < length old.classes.items
      → slice_index old.classes.items j ≡ class → length old.classes.items ≡ length old.shapes.items
      → AreNumbers shapes places old mid (with j)
  at_place j at there its long =
      let more = ap length are.continues.shapes
      ∙ length-append old.shapes.items are.continues.further in
      record {
        are_shapes = are.are_shapes;
        continues = are.continues;
        within = each (λ c n. n < length mid.shapes.items) j are.within (omega (arith, there, long, more));
        back = each (λ c n. slice_index mid.classes.items n ≡ c) j are.back
            (are.continues.classes j there ∙ its);
        placed = λ c k lt so. each (λ c n. slice_index_or places c None ≡ Some k → n ≡ k) j
            (λ i early. are.placed i k early)
            (λ so. let both : Some j ≡ Some k = sym at ∙ so in cc) c lt so;
      }

  module _ (shape : Shape) (new : HeapShapes) (number : ℕ) (adds : Adds shape class mid new number)
      (given : shape ≡ slice_index_or shapes class no_shape) where
    longer : length new.shapes.items ≡ length mid.shapes.items + 1
    longer = ap length adds.shapes ∙ length_push mid.shapes.items shape

    more_classes : length new.classes.items ≡ length mid.classes.items + 1
    more_classes = ap length adds.classes ∙ length_push mid.classes.items class

    same_class : (k : ℕ) → k < length mid.classes.items
        → slice_index new.classes.items k ≡ slice_index mid.classes.items k
    same_class k lt =
        ap (λ cs. slice_index cs k) adds.classes ∙ get_or_append_left mid.classes.items (class ∷ []) 0 k lt

    new_class : (k : ℕ) → k ≡ length mid.shapes.items → slice_index new.classes.items k ≡ class
    new_class k e =
        ap (λ cs. slice_index cs k) adds.classes
        ∙ last_is mid.classes.items class 0 k (e ∙ sym are.are_shapes.long)

    same_shape : (k : ℕ) → k < length mid.shapes.items
        → slice_index_or new.shapes.items k no_shape ≡ slice_index_or mid.shapes.items k no_shape
    same_shape k lt =
        ap (λ (ss : List Shape). slice_index_or ss k no_shape) adds.shapes
        ∙ get_or_append_left mid.shapes.items (shape ∷ []) no_shape k lt

    new_shape : (k : ℕ) → k ≡ length mid.shapes.items → slice_index_or new.shapes.items k no_shape ≡ shape
    new_shape k e =
        ap (λ (ss : List Shape). slice_index_or ss k no_shape) adds.shapes
        ∙ last_is mid.shapes.items shape no_shape k e

    abbrev Fits : ℕ → Type 0
    Fits k = slice_index new.classes.items k < length shapes
        → slice_index_or new.shapes.items k no_shape
        ≡ slice_index_or shapes (slice_index new.classes.items k) no_shape

    fits_before : (k : ℕ) → k < length mid.shapes.items → Fits k
    fits_before k lt below =
        let is = same_class k (omega (arith, lt, are.are_shapes.long)) in
        same_shape k lt
        ∙ are.are_shapes.same k lt (omega (arith, below, is))
        ∙ ap (λ c. slice_index_or shapes c no_shape) (sym is)

    fits_last : Fits (length mid.shapes.items)
    fits_last below =
        new_shape (length mid.shapes.items) refl ∙ given
        ∙ ap (λ c. slice_index_or shapes c no_shape) (sym (new_class (length mid.shapes.items) refl))

    fit : AreShapes shapes new
    fit = record {
      long = omega (arith, longer, more_classes, are.are_shapes.long);
      few = adds.few;
      same = λ k lt. below_more Fits (length mid.shapes.items) fits_before fits_last k
          (omega (arith, lt, longer));
    }

    go_on : Continues old new
    go_on = record {
      further = are.continues.further ++ shape ∷ [];
      shapes = adds.shapes ∙ ap (λ (ss : List Shape). ss ++ shape ∷ []) are.continues.shapes
          ∙ append_assoc old.shapes.items are.continues.further (shape ∷ []);
      many = omega (arith, are.continues.many, more_classes);
      classes = λ k lt. same_class k (omega (arith, lt, are.continues.many)) ∙ are.continues.classes k lt;
    }

    behind : slice_index_or places class None ≡ None → AreNumbers shapes places old new (with number)
    behind none = record {
      are_shapes = fit;
      continues = go_on;
      within = each (λ c n. n < length new.shapes.items) number
          (λ c early. (let w = are.within c early in omega (arith, w, longer)))
          (omega (arith, adds.number_is, longer));
      back = each (λ c n. slice_index new.classes.items n ≡ c) number
          (λ c early. same_class (slice_index numbers c)
          (let w = are.within c early in omega (arith, w, are.are_shapes.long)) ∙ are.back c early)
          (new_class number adds.number_is);
      placed = λ c k lt so. each (λ c n. slice_index_or places c None ≡ Some k → n ≡ k) number
          (λ i early. are.placed i k early)
          (λ so. absurd (let both : None ≡ Some k = sym none ∙ so in cc)) c lt so;
    }

pub number_more : (shapes : List Shape) (places : List (Option ℕ)) (old mid new : HeapShapes)
    (numbers : List ℕ)
    (o : Option ℕ) (shape : Shape) (c number : ℕ) → AreNumbers shapes places old mid numbers
    → ArePlaces old.classes.items (length old.classes.items) (length shapes) places
    → length old.classes.items ≡ length old.shapes.items → length numbers ≡ c
    → slice_index_or places c None ≡ o → shape ≡ slice_index_or shapes c no_shape
    → IsNumbered o shape c mid new number → AreNumbers shapes places old new (numbers ++ number ∷ [])
number_more shapes places old mid new numbers (Some k) shape c number are there long e at given (same, kept) =
    let (within, its) = there.is c k at in
    subst (λ (heap : HeapShapes). AreNumbers shapes places old heap (numbers ++ number ∷ [])) (sym kept)
    (subst (λ n. AreNumbers shapes places old mid (numbers ++ n ∷ [])) (sym same)
    (at_place shapes places old mid numbers are k (ap (λ i. slice_index_or places i None) e ∙ at) within
    (its ∙ sym e) long))
number_more shapes places old mid new numbers None shape c number are there long e at given adds =
    behind shapes places old mid numbers are shape new number
    (subst (λ i. Adds shape i mid new number) (sym e) adds)
    (given ∙ ap (λ i. slice_index_or shapes i no_shape) (sym e))
    (ap (λ i. slice_index_or places i None) e ∙ at)
