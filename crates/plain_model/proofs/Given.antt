-- The given array types have their numbers, and each type is a subtype of itself.
use Rattle.std.proofs.Common.{◌≡◌, ℕ, zero, suc, ◌+◌, ◌-◌, ◌<◌, ◌≤◌, true, false, List, [], ◌∷◌, ◌++◌, refl, sym, ◌∙◌, ap}
use Rattle.std.proofs.Common.{subst, arith, inl, inr, length, nat_eq, nat_lt, slice_index_or, if◌then◌else◌}
use Rattle.std.specs.Prelude.{Option, Some, None, slice_get, Contains}
use Rattle.std.specs.List.{flat_map}
use Rattle.std.specs.Str.{bytes_eq}
use Rattle.std.proofs.lemmas.Bool.{cases_lt, eq-eqb, le-ltb, or_left}
use Rattle.std.proofs.lemmas.List.Elements.{All-get_or}
use Rattle.std.proofs.lemmas.Option.{slice_get-get_or, slice_get_within, get_or_from_slice_get}
use Rattle.std.proofs.lemmas.Slice.Eq.{bytes_eq-Decides}
use Rattle.ap_base.specs.declared.kind.Kind.{Kind}
use Rattle.ap_base.specs.declared.kind.Kind.TheVariants.{Z, B, C, S, I, J, L, Text}
use Rattle.graph_model.specs.Heaps.{has_number}
use Rattle.plain_model.specs.Classes.{ClassFacts, ArrayType, Innermost, Numbers, Objects, Missing, no_class}
use Rattle.plain_model.specs.BuiltIn.{array_class, chars_array, arguments_array}
use Rattle.plain_model.specs.Facts.{SetFacts, class_count, classes_of, class_at, array_at, array_place, array_named}
use Rattle.plain_model.specs.Facts.{superclasses_from, superclasses_of, interfaces_of, is_subclass, is_same_kind}
use Rattle.plain_model.specs.Facts.{is_sub_innermost, is_sub, dimensions_of}
use Rattle.plain_model.specs.Consistent.{IsConsistent, IsInnermost, IsNumberKind, IsArrayType}
use Rattle.plain_model.specs.SetLaws.{HasGivenArrays, IsArrayNumber}
use Rattle.plain_model.proofs.Consistent.{counted, array_of_place, own_bytes}

-- what is found by a descriptor has it, and stands no later than any other with that descriptor
abbrev IsFound : List ArrayType → ArrayType → ℕ → ArrayType → ℕ → Type 0
IsFound arrays a k d place = (place ≤ k) × ((slice_index_or arrays place d).descriptor ≡ a.descriptor)

found : (arrays : List ArrayType) (a : ArrayType) (k : ℕ) (d : ArrayType) → k < length arrays
    → slice_index_or arrays k a ≡ a → IsFound arrays a k d (array_place arrays a.descriptor)
found [] a k d below is = absurd (let no : k < 0 = below in omega (arith, no))
found (x ∷ xs) a zero d below is =
    let same : x.descriptor ≡ a.descriptor = ap (λ (y : ArrayType). y.descriptor) is in
    rw ((bytes_eq-Decides x.descriptor a.descriptor).1 same) (omega arith, same)
found (x ∷ xs) a (suc k) d below is =
    let rest = found xs a k d (omega (arith, below)) is in
    elim (bytes_eq x.descriptor a.descriptor) as (λ b. bytes_eq x.descriptor a.descriptor ≡ b
    → IsFound (x ∷ xs) a (suc k) d (if b then 0 else suc (array_place xs a.descriptor))) [
      | true ↦ λ same. (omega arith, (bytes_eq-Decides x.descriptor a.descriptor).0 same)
      | false ↦ λ other. (omega (arith, rest.0), rest.1)
    ] refl

module _ (set : SetFacts) (consistent : IsConsistent set) where
  abbrev first : ℕ
  first = length set.program

  -- where descriptors differ, an array type is found by its own
  found_itself : (a : ArrayType) (k : ℕ) → k < length set.arrays → slice_index_or set.arrays k a ≡ a
      → array_place set.arrays a.descriptor ≡ k
  found_itself a k below is =
      let j = array_place set.arrays a.descriptor in
      let place = found set.arrays a k a below is in
      elim (cases_lt j k) [
        | inl before ↦
            let left = array_of_place set j a (omega (arith, before, below)) in
            let right = array_of_place set k a below ∙ ap (array_class first) is in
            let name : ClassFacts → List ℕ = λ (c : ClassFacts). c.shape.name in
            absurd (consistent.names_differ (class_count set + j) (class_count set + k) no_class
            (omega (arith, before))
            (omega (arith, below, counted set)) (ap name left ∙ place.1 ∙ sym (ap name right)))
        | inr after ↦ omega (arith, after, place.0)
      ]

  array_number : (a : ArrayType) → Contains set.arrays a → IsArrayNumber set (array_named set a.descriptor) a
  array_number a (k, below, is) =
      let here = found_itself a k below is in
      let place : array_named set a.descriptor ≡ class_count set + k = ap (λ j. class_count set + j) here in
      record {
        there = omega (arith, place, below, counted set);
        array = ap (array_at set) place ∙ array_there k below is;
        class = ap (class_at set) place ∙ array_of_place set k a below ∙ ap (array_class first) is;
      }
    where
      array_there : (k : ℕ) → k < length set.arrays → slice_index_or set.arrays k a ≡ a
          → array_at set (class_count set + k) ≡ Some a
      array_there k below is =
          let past : nat_lt (class_count set + k) (class_count set) ≡ false =
          le-ltb (class_count set + k) (class_count set) (omega arith) in
          let at : class_count set + k - class_count set ≡ k = omega arith in
          rw (past, at) (slice_get-get_or set.arrays k a below ∙ ap Some is)

pub given_arrays_are_there : (set : SetFacts) → IsConsistent set → HasGivenArrays set
given_arrays_are_there set consistent = record {
  chars = array_number set consistent chars_array consistent.complete.chars;
  arguments = array_number set consistent (arguments_array
      (length set.program)) consistent.complete.arguments;
}

own_kind : (kind : Kind) → IsNumberKind kind → is_same_kind kind kind ≡ true
own_kind Z is = refl
own_kind B is = refl
own_kind C is = refl
own_kind S is = refl
own_kind I is = refl
own_kind J is = refl
own_kind L is = absurd is
own_kind Text is = absurd is

pub own_front : (classes : List ClassFacts) (fuel n : ℕ) (rest : List ℕ)
    → has_number (superclasses_from classes fuel n ++ rest) n ≡ true
own_front classes zero n rest = or_left (nat_eq n n) (has_number rest n) (eq-eqb n n refl)
own_front classes (suc fuel) n rest = or_left (nat_eq n n) _ (eq-eqb n n refl)

module _ (set : SetFacts) (consistent : IsConsistent set) where
  own_class : (n : ℕ) → is_subclass set n n ≡ true
  own_class n = own_front (classes_of set) (class_count set) n
      (flat_map (interfaces_of set) (superclasses_of set n))

  own_innermost : (innermost : Innermost) → IsInnermost set innermost
      → is_sub_innermost set innermost innermost ≡ true
  own_innermost (Numbers kind) is = own_kind kind is
  own_innermost (Objects n) is = own_class n
  own_innermost (Missing name) is = own_bytes name

  array_is : (n : ℕ) (a : ArrayType) → array_at set n ≡ Some a → IsArrayType set a
  array_is n a at = elim (nat_lt n (class_count set)) as (λ b.
      (if b then None else slice_get set.arrays (n - class_count set)) ≡ Some a → IsArrayType set a) [
        | true ↦ λ no. absurd (let wrong : ◌≡◌ {A = Option ArrayType} None (Some a) = no in cc)
        | false ↦ λ there.
            let k = n - class_count set in
            let within = slice_get_within set.arrays k a there in
            let its = All-get_or (IsArrayType set) set.arrays k a within consistent.arrays in
            subst (IsArrayType set) (get_or_from_slice_get set.arrays k a a there) its
      ] at

  own_of : (n : ℕ) (a : Option ArrayType) → array_at set n ≡ a
      → is_sub_innermost set (elim a [ None ↦ Objects n | Some b ↦ b.innermost ])
      (elim a [ None ↦ Objects n | Some b ↦ b.innermost ]) ≡ true
  own_of n None at = own_class n
  own_of n (Some a) at = own_innermost a.innermost (array_is n a at).innermost

  pub own_subtype : (n : ℕ) → is_sub set n n ≡ true
  own_subtype n = rw (eq-eqb (dimensions_of set n) (dimensions_of set n) refl)
      (own_of n (array_at set n) refl)
