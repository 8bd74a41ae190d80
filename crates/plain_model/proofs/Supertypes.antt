-- The direct superclass and the superinterfaces of a class are supertypes of it.
use Rattle.std.proofs.Common.{◌≡◌, ℕ, suc, ◌+◌, ◌<◌, true, List, [], ◌∷◌, ◌++◌, sym, subst, arith, inl, inr, length, nat_eq}
use Rattle.std.proofs.Common.{slice_index_or}
use Rattle.std.specs.Prelude.{Option, Some, None}
use Rattle.std.specs.List.{flat_map}
use Rattle.std.proofs.lemmas.Bool.{false≢true, or_cases, or_left, or_right, eqb-true}
use Rattle.graph_model.specs.Heaps.{has_number}
use Rattle.plain_model.specs.Classes.{ClassFacts, ArrayType, Objects, no_class}
use Rattle.plain_model.specs.Facts.{SetFacts, class_count, classes_of, class_at, superclasses_from, interfaces_from}
use Rattle.plain_model.specs.Facts.{is_subclass, is_subtype, is_sub, dimensions_of, innermost_of}
use Rattle.plain_model.specs.Consistent.{IsConsistent, IsInterface, super_list, supers_of}
use Rattle.plain_model.specs.BuiltInRows.{IsUnder}
use Rattle.plain_model.proofs.Durable.{All-has_number, has_number-append_left, has_number-append_cases}
use Rattle.plain_model.proofs.Given.{own_front}
use Rattle.plain_model.proofs.Subtypes.{class_under, class_interfaces, no_array}

further : (xs ys : List ℕ) (n : ℕ) → has_number ys n ≡ true → has_number (xs ++ ys) n ≡ true
further [] ys n has = has
further (x ∷ xs) ys n has = or_right (nat_eq x n) (has_number (xs ++ ys) n) (further xs ys n has)

-- each of these interfaces is one of what they lead to
in_interfaces : (lead : ℕ → List ℕ) (interfaces : List ℕ) (n : ℕ) → has_number interfaces n ≡ true
    → has_number (flat_map (λ i. i ∷ lead i) interfaces) n ≡ true
in_interfaces lead [] n has = absurd (false≢true has)
in_interfaces lead (x ∷ xs) n has = elim (or_cases (nat_eq x n) (has_number xs n) has) [
  | inl here ↦ or_left (nat_eq x n) (has_number (lead x ++ flat_map (λ i. i ∷ lead i) xs) n) here
  | inr rest ↦ or_right (nat_eq x n) (has_number (lead x ++ flat_map (λ i. i ∷ lead i) xs) n)
      (further (lead x) (flat_map (λ i. i ∷ lead i) xs) n (in_interfaces lead xs n rest))
]

module _ (classes : List ClassFacts) (fuel n super : ℕ) where
  abbrev supers : Option ℕ → List ℕ
  supers above = elim above [ None ↦ [] | Some s ↦ superclasses_from classes fuel s ]

  abbrev all_interfaces : ℕ → List ℕ
  all_interfaces m = interfaces_from classes (suc fuel) m

  -- with so many classes above, the direct ones are there
  from_direct : (above : Option ℕ) → has_number (super_list above ++ (slice_index_or classes n no_class).interfaces) super ≡ true
      → has_number ((n ∷ supers above) ++ flat_map all_interfaces (n ∷ supers above)) super ≡ true
  from_direct None has =
      or_right (nat_eq n super) (has_number (all_interfaces n ++ []) super)
      (has_number-append_left (all_interfaces n) [] super
      (in_interfaces (interfaces_from classes fuel) (slice_index_or classes n no_class).interfaces super has))
  from_direct (Some s) has =
      let up = superclasses_from classes fuel s in
      let rest = all_interfaces n ++ flat_map all_interfaces up in
      or_right (nat_eq n super) (has_number (up ++ rest) super)
      (elim (or_cases (nat_eq s super) (has_number (slice_index_or classes n no_class).interfaces super) has) [
        | inl same ↦ subst (λ m. has_number (up ++ rest) m ≡ true) (eqb-true s super same) (own_front classes fuel s rest)
        | inr has_it ↦ further up rest super
            (has_number-append_left (all_interfaces n) (flat_map all_interfaces up) super
            (in_interfaces (interfaces_from classes fuel) (slice_index_or classes n no_class).interfaces super has_it))
      ])

module _ (set : SetFacts) (consistent : IsConsistent set) (n super : ℕ) where
  direct_subclass : has_number (supers_of (class_at set n)) super ≡ true → is_subclass set n super ≡ true
  direct_subclass has =
      let more : class_count set ≡ suc (length set.program + 27) = omega arith in
      subst (λ fuel. has_number (superclasses_from (classes_of set) fuel n
      ++ flat_map (interfaces_from (classes_of set) fuel) (superclasses_from (classes_of set) fuel n)) super ≡ true)
      (sym more)
      (from_direct (classes_of set) (length set.program + 27) n super (class_at set n).superclass has)

  -- what stands directly above is no array type
  under_there : (above : Option ℕ) → IsUnder set (class_at set n) above → has_number (super_list above) super ≡ true
      → super < class_count set
  under_there None under has = absurd (false≢true has)
  under_there (Some s) under has = elim (or_cases (nat_eq s super) (has_number [] super) has) [
    | inl same ↦ subst (λ m. m < class_count set) (eqb-true s super same) under.there
    | inr none ↦ absurd (false≢true none)
  ]

  super_there : has_number (supers_of (class_at set n)) super ≡ true → super < class_count set
  super_there has = elim (has_number-append_cases (super_list (class_at set n).superclass) (class_at set n).interfaces super has) [
    | inl above ↦ under_there (class_at set n).superclass (class_under set consistent n) above
    | inr interface ↦
        (All-has_number (IsInterface set) (class_at set n).interfaces super (class_interfaces set consistent n) interface).0
  ]

  pub direct_subtype : n < class_count set → has_number (supers_of (class_at set n)) super ≡ true
      → is_sub set n super ≡ true
  direct_subtype below has =
      subst (λ (a : Option ArrayType). is_subtype set (elim a [ None ↦ 0 | Some b ↦ b.dimensions ])
      (elim a [ None ↦ Objects n | Some b ↦ b.innermost ]) (dimensions_of set super) (innermost_of set super) ≡ true)
      (sym (no_array set consistent n below))
      (subst (λ (a : Option ArrayType). is_subtype set 0 (Objects n) (elim a [ None ↦ 0 | Some b ↦ b.dimensions ])
      (elim a [ None ↦ Objects super | Some b ↦ b.innermost ]) ≡ true)
      (sym (no_array set consistent super (super_there has))) (direct_subclass has))
