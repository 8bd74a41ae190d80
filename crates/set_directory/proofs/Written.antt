-- The shapes that a directory has for a class set are those of its entries.
use Rattle.std.proofs.Common.{◌≡◌, ◌⊎◌, inl, inr, ⊎_elim, ◌<◌, ◌≤◌, ◌+◌, ◌-◌, ℕ, Bool, true, false, not, ◌&&◌, nat_lt, List, []}
use Rattle.std.proofs.Common.{◌∷◌, ◌++◌, Option, Some, None, length, map, filter, slice_index_or, refl, sym, ◌∙◌, ap, subst}
use Rattle.std.proofs.Common.{arith, if◌then◌else◌}
use Rattle.std.specs.Prelude.{Contains, slice_get}
use Rattle.std.specs.Option.{option_to_list}
use Rattle.std.proofs.lemmas.Bool.{cases_lt, lt-ltb, le-ltb}
use Rattle.std.proofs.lemmas.List.{length-append, length-map, get_or_append_left, get_or-append_right, get_or_default}
use Rattle.std.proofs.lemmas.List.{get_or-map}
use Rattle.std.proofs.lemmas.List.Elements.{Contains-get_or, Contains-append_left, Contains-append_right, Contains-append_cases}
use Rattle.std.proofs.lemmas.Option.{slice_get-get_or}
use Rattle.graph_walks.proofs.Lists.{Contains-cons_cases, Contains-head, Contains-nil, Contains-tail}
use Rattle.graph_model.specs.declared.types.Shape.{Shape}
use Rattle.plain_model.specs.Classes.{ClassFacts, ArrayType, Innermost, Numbers, Objects, Missing, no_class}
use Rattle.plain_model.specs.BuiltIn.{built_in_classes, array_class, chars_array}
use Rattle.plain_model.specs.Facts.{SetFacts, classes_of, class_at, class_count, array_at, innermost_of}
use Rattle.class_set.specs.Linked.{Linked, class_count as linked_count, names_of}
use Rattle.class_set.specs.ArrayTypes.{makes}
use Rattle.class_set.specs.Facts.{facts_of}
use Rattle.class_set.specs.Sets.{IsLinked, is_there, made_of}
use Rattle.class_set.proofs.Supertypes.{program_counted}
use Rattle.directories.specs.ClassSets.{named_classes, IsClassShape, IsMadeShape, IsInSet}
use Rattle.set_directory.specs.Written.{is_written, is_written_at, has_shape}
use Rattle.set_directory.proofs.Numbered.{classes_counted, name_here, named_here, name_at}

-- the code makes an array type where its descriptor is among those made
abbrev pub MakesWhatIsMade : Linked → Type 0
MakesWhatIsMade set = (n : ℕ) → n < length (classes_of (facts_of set))
    → (makes set n ≡ true → Contains (made_of set) (class_at (facts_of set) n).shape.name)
    × (Contains (made_of set) (class_at (facts_of set) n).shape.name → makes set n ≡ true)

-- ---- the classes and then the array types

abbrev arrays_of : SetFacts → List ClassFacts
arrays_of facts = map (array_class (length facts.program)) facts.arrays

parts : (facts : SetFacts) → classes_of facts ≡ named_classes facts ++ arrays_of facts
parts facts = refl

named_counted : (facts : SetFacts) → length (named_classes facts) ≡ class_count facts
named_counted facts = length-append facts.program (built_in_classes (length facts.program))

class_here : (facts : SetFacts) (n : ℕ) → n < class_count facts → class_at facts n ≡ slice_index_or (named_classes facts) n no_class
class_here facts n below =
    ap (λ (cs : List ClassFacts). slice_index_or cs n no_class) (parts facts)
    ∙ get_or_append_left (named_classes facts) (arrays_of facts) no_class n (omega (arith, below, named_counted facts))

array_here : (facts : SetFacts) (j : ℕ) → j < length facts.arrays
    → class_at facts (class_count facts + j) ≡ array_class (length facts.program) (slice_index_or facts.arrays j chars_array)
array_here facts j below =
    let n = class_count facts + j in
    let back : n - class_count facts ≡ j = omega arith in
    ap (λ (cs : List ClassFacts). slice_index_or cs n no_class) (parts facts)
    ∙ get_or-append_right (named_classes facts) (arrays_of facts) (class_count facts) n no_class (named_counted facts) (omega arith)
    ∙ ap (λ k. slice_index_or (arrays_of facts) k no_class) back
    ∙ get_or-map (array_class (length facts.program)) facts.arrays j chars_array no_class below

counted : (facts : SetFacts) → length (classes_of facts) ≡ class_count facts + length facts.arrays
counted facts =
    ap length (parts facts) ∙ length-append (named_classes facts) (arrays_of facts)
    ∙ ap (λ k. k + length (arrays_of facts)) (named_counted facts)
    ∙ ap (λ k. class_count facts + k) (length-map facts.arrays (array_class (length facts.program)))

same_count : (set : Linked) → linked_count set ≡ class_count (facts_of set)
same_count set = omega (arith, program_counted set.files set.files)

-- ---- whether an array type's innermost class is there

innermost_here : (facts : SetFacts) (j : ℕ) → j < length facts.arrays
    → innermost_of facts (class_count facts + j) ≡ (slice_index_or facts.arrays j chars_array).innermost
innermost_here facts j below =
    let n = class_count facts + j in
    let back : n - class_count facts ≡ j = omega arith in
    let there : array_at facts n ≡ Some (slice_index_or facts.arrays j chars_array) =
    ap (λ b. if b then None else slice_get facts.arrays (n - class_count facts)) (le-ltb n (class_count facts) (omega arith))
    ∙ ap (λ k. slice_get facts.arrays k) back
    ∙ slice_get-get_or facts.arrays j chars_array below in
    ap (λ o. elim o as (λ x. Innermost) [ None ↦ Objects n | Some a ↦ a.innermost ]) there

in_set : (innermost : Innermost) → is_there innermost ≡ true → IsInSet innermost
in_set (Numbers kind) is = tt
in_set (Objects n) is = tt
in_set (Missing name) is = absurd (cc)

there_is : (innermost : Innermost) → IsInSet innermost → is_there innermost ≡ true
there_is (Numbers kind) is = refl
there_is (Objects n) is = refl
there_is (Missing name) is = absurd is

-- ---- what is written

not_false : (b : Bool) → not b ≡ true → b ≡ false
not_false true is = absurd (cc)
not_false false is = refl

both : (a b : Bool) → (a && b) ≡ true → (a ≡ true) × (b ≡ true)
both true b is = (refl, is)
both false b is = absurd (cc)

written_class : (set : Linked) (n : ℕ) → n < class_count (facts_of set) → is_written set n ≡ not (class_at (facts_of set) n).is_interface
written_class set n below =
    ap (λ b. if b then not (class_at (facts_of set) n).is_interface else makes set n && is_there (innermost_of (facts_of set) n))
    (lt-ltb n (linked_count set) (omega (arith, below, same_count set)))

written_array : (set : Linked) (n : ℕ) → class_count (facts_of set) ≤ n
    → is_written set n ≡ (makes set n && is_there (innermost_of (facts_of set) n))
written_array set n past =
    ap (λ b. if b then not (class_at (facts_of set) n).is_interface else makes set n && is_there (innermost_of (facts_of set) n))
    (le-ltb n (linked_count set) (omega (arith, past, same_count set)))

abbrev pub IsItsShape : Linked → Shape → Type 0
IsItsShape set shape = IsClassShape (facts_of set) shape ⊎ IsMadeShape (facts_of set) (made_of set) shape

module _ (set : Linked) (makes_made : MakesWhatIsMade set) where
  from_class : (n : ℕ) → n < class_count (facts_of set) → is_written set n ≡ true → IsItsShape set (class_at (facts_of set) n).shape
  from_class n below written =
      let named = named_classes (facts_of set) in
      inl (
        class_at (facts_of set) n,
        subst (λ (c : ClassFacts). Contains named c) (sym (class_here (facts_of set) n below))
            (Contains-get_or named n no_class (omega (arith, below, named_counted (facts_of set)))),
        not_false (class_at (facts_of set) n).is_interface (sym (written_class set n below) ∙ written),
        refl,
      )

  from_array : (j : ℕ) → j < length (facts_of set).arrays → is_written set (class_count (facts_of set) + j) ≡ true
      → IsItsShape set (class_at (facts_of set) (class_count (facts_of set) + j)).shape
  from_array j below written =
      let n = class_count (facts_of set) + j in
      let a : ArrayType = slice_index_or (facts_of set).arrays j chars_array in
      let past : class_count (facts_of set) ≤ n = omega arith in
      let two = both (makes set n) (is_there (innermost_of (facts_of set) n)) (sym (written_array set n past) ∙ written) in
      let here = array_here (facts_of set) j below in
      let made : Contains (made_of set) (class_at (facts_of set) n).shape.name =
      (makes_made n (omega (arith, below, counted (facts_of set)))).0 two.0 in
      inr (
        a,
        Contains-get_or (facts_of set).arrays j chars_array below,
        subst (λ (c : ClassFacts). Contains (made_of set) c.shape.name) here made,
        in_set a.innermost (ap is_there (sym (innermost_here (facts_of set) j below)) ∙ two.1),
        ap (λ (c : ClassFacts). c.shape) here,
      )

  pub is_its_shape : (n : ℕ) → n < length (names_of set) → is_written set n ≡ true → IsItsShape set (class_at (facts_of set) n).shape
  is_its_shape n below written = ⊎_elim
      (λ (low : n < class_count (facts_of set)). from_class n low written)
      (λ (past : class_count (facts_of set) ≤ n).
      let j = n - class_count (facts_of set) in
      let sum : class_count (facts_of set) + j ≡ n = omega (arith, past) in
      subst (λ (k : ℕ). IsItsShape set (class_at (facts_of set) k).shape) sum
      (from_array j (omega (arith, below, past, counted (facts_of set), classes_counted set))
      (subst (λ (k : ℕ). is_written set k ≡ true) (sym sum) written)))
      (cases_lt n (class_count (facts_of set)))

  -- and each such shape is written
  abbrev pub IsWrittenAs : Shape → Type 0
  IsWrittenAs shape = (n : ℕ) × (n < length (names_of set)) × (is_written set n ≡ true) × (shape ≡ (class_at (facts_of set) n).shape)

  of_class : (shape : Shape) → IsClassShape (facts_of set) shape → IsWrittenAs shape
  of_class shape (c, (k, below, is), plain, same) =
      let low : k < class_count (facts_of set) = omega (arith, below, named_counted (facts_of set)) in
      let here : class_at (facts_of set) k ≡ c =
      class_here (facts_of set) k low ∙ get_or_default (named_classes (facts_of set)) k no_class c below ∙ is in (
        k,
        omega (arith, low, counted (facts_of set), classes_counted set),
        written_class set k low ∙ ap (λ (x : ClassFacts). not x.is_interface) here ∙ ap not plain,
        same ∙ ap (λ (x : ClassFacts). x.shape) (sym here),
      )

  of_made : (shape : Shape) → IsMadeShape (facts_of set) (made_of set) shape → IsWrittenAs shape
  of_made shape (a, (j, below, is), made, known, same) =
      let n = class_count (facts_of set) + j in
      let past : class_count (facts_of set) ≤ n = omega arith in
      let item : slice_index_or (facts_of set).arrays j chars_array ≡ a = get_or_default (facts_of set).arrays j chars_array a below ∙ is in
      let here : class_at (facts_of set) n ≡ array_class (length (facts_of set).program) a =
      array_here (facts_of set) j below ∙ ap (array_class (length (facts_of set).program)) item in
      let makes_it : makes set n ≡ true =
      (makes_made n (omega (arith, below, counted (facts_of set)))).1 (subst (λ (c : ClassFacts). Contains (made_of set) c.shape.name) (sym here) made) in
      let inner : is_there (innermost_of (facts_of set) n) ≡ true =
      ap is_there (innermost_here (facts_of set) j below ∙ ap (λ (x : ArrayType). x.innermost) item) ∙ there_is a.innermost known in (
        n,
        omega (arith, below, counted (facts_of set), classes_counted set),
        written_array set n past ∙ ap (λ b. b && is_there (innermost_of (facts_of set) n)) makes_it ∙ inner,
        same ∙ ap (λ (x : ClassFacts). x.shape) (sym here),
      )

  pub is_written_as : (shape : Shape) → IsItsShape set shape → IsWrittenAs shape
  is_written_as shape either = ⊎_elim (λ class. of_class shape class) (λ made. of_made shape made) either
