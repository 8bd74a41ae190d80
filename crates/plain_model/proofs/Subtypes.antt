-- A subtype of a class has the class's fields, at the same places, and no elements.
use Rattle.std.proofs.Common.{◌≡◌, ◌⊎◌, ℕ, zero, suc, ◌+◌, ◌-◌, ◌<◌, true, false, ◌||◌, ◌&&◌, List, [], ◌∷◌, ◌++◌, map, refl}
use Rattle.std.proofs.Common.{sym, ◌∙◌, ap, subst, arith, lit<, inl, inr, length, nat_eq, nat_lt, slice_index_or, if◌then◌else◌}
use Rattle.std.specs.Prelude.{All, Option, Some, None, slice_get, take}
use Rattle.std.specs.List.{flat_map}
use Rattle.std.proofs.lemmas.Bool.{false≢true, or_cases, eqb-true, cases_lt, lt-ltb, ne_eqb}
use Rattle.std.proofs.lemmas.List.{get_or_past}
use Rattle.std.proofs.lemmas.Option.{get_or_from_slice_get, slice_get_within}
use Rattle.std.proofs.lemmas.List.Elements.{All-nil, All-cons, All-head, All-tail, All-append, All-map, All-weaker, All-get_or}
use Rattle.graph_model.specs.declared.types.Field.{Field}
use Rattle.plain_model.specs.Classes.{ClassFacts, ArrayType, Innermost, Objects, no_class}
use Rattle.plain_model.specs.BuiltIn.{array_class, built_in_classes, chars_array}
use Rattle.plain_model.specs.Facts.{SetFacts, built_in_number, class_count, classes_of, class_at, element_of, array_at}
use Rattle.plain_model.specs.Facts.{superclasses_from, superclasses_of, interfaces_from, interfaces_of, supertypes_of}
use Rattle.plain_model.specs.Facts.{is_subclass, is_above_arrays, is_sub_innermost, is_subtype, is_sub, dimensions_of}
use Rattle.plain_model.specs.Facts.{innermost_of}
use Rattle.plain_model.specs.Consistent.{IsConsistent, IsInterface, IsProgramClass, IsArrayType}
use Rattle.plain_model.specs.BuiltInRows.{IsUnder}
use Rattle.plain_model.specs.SetLaws.{HasField}
use Rattle.plain_model.proofs.BuiltIns.{built_ins_link, array_under, array_interfaces, HasFieldsOrElements, fields_or_elements}
use Rattle.plain_model.proofs.BuiltIns.{no_fields}
use Rattle.plain_model.proofs.Consistent.{counted, array_of_place}
use Rattle.plain_model.proofs.Durable.{All-has_number}

All-flat_map : (P : ℕ → Type 0) (f : ℕ → List ℕ) (xs : List ℕ) → All (λ x. All P (f x)) xs
    → All P (flat_map f xs)
All-flat_map P f [] all = All-nil P
All-flat_map P f (x ∷ xs) all =
    All-append P (f x) (flat_map f xs) (All-head (λ y. All P (f y)) x xs all)
    (All-flat_map P f xs (All-tail (λ y. All P (f y)) x xs all))

-- what is at a place of a list's front is there in the list
slice_get-front : {X : Type 0} (xs ys : List X) (i : ℕ) (x : X) → take (length ys) xs ≡ ys
    → slice_get ys i ≡ Some x
    → slice_get xs i ≡ Some x
slice_get-front xs [] i z front at = absurd (let no : None ≡ Some z = at in cc)
slice_get-front [] (y ∷ ys) i z front at = absurd (let no : [] ≡ y ∷ ys = front in cc)
slice_get-front (x ∷ xs) (y ∷ ys) zero z front at =
    let same : x ≡ y = (let both : x ∷ take (length ys) xs ≡ y ∷ ys = front in cc) in ap Some same ∙ at
slice_get-front (x ∷ xs) (y ∷ ys) (suc i) z front at =
    let rest : take (length ys) xs ≡ ys = (let both : x ∷ take (length ys) xs ≡ y ∷ ys = front in cc) in
    slice_get-front xs ys i z rest at

module _ (set : SetFacts) (consistent : IsConsistent set) where
  abbrev first : ℕ
  first = length set.program

  -- what holds of the program's classes, the built-in ones and the array types holds of the class of each
  -- number
  each_class : (P : ClassFacts → Type 0) → All P set.program → All P (built_in_classes first)
      → ((a : ArrayType) → P (array_class first a)) → P no_class → (n : ℕ) → P (class_at set n)
  each_class P program built_ins arrays none n = elim (cases_lt n (length (classes_of set))) [
    | inl there ↦ All-get_or P (classes_of set) n no_class there
        (All-append P (set.program ++ built_in_classes first) (map (array_class first) set.arrays)
        (All-append P set.program (built_in_classes first) program built_ins)
        (All-map P (array_class first) set.arrays (λ k d within. arrays (slice_index_or set.arrays k d))))
    | inr past ↦ rw (get_or_past (classes_of set) n no_class past) none
  ]

  program_under : (c : ClassFacts) → IsProgramClass set c → IsUnder set c c.superclass
  program_under c is = let (super, some, extends) = is.super in subst (IsUnder set c) (sym some) extends

  pub class_under : (n : ℕ) → IsUnder set (class_at set n) (class_at set n).superclass
  class_under = each_class (λ (c : ClassFacts). IsUnder set c c.superclass)
      (All-weaker (IsProgramClass set) (λ (c : ClassFacts). IsUnder set c c.superclass) program_under
      set.program consistent.classes)
      (built_ins_link set).supers (array_under set) tt

  pub class_interfaces : (n : ℕ) → All (IsInterface set) (class_at set n).interfaces
  class_interfaces = each_class (λ (c : ClassFacts). All (IsInterface set) c.interfaces)
      (All-weaker (IsProgramClass set) (λ (c : ClassFacts). All (IsInterface set) c.interfaces)
      (λ c is. is.interfaces) set.program consistent.classes)
      (built_ins_link set).interfaces (array_interfaces set) (All-nil (IsInterface set))

  class_elements : (n : ℕ) → HasFieldsOrElements set (class_at set n)
  class_elements = each_class (HasFieldsOrElements set)
      (All-weaker (IsProgramClass set) (HasFieldsOrElements set)
      (λ c is. inl is.no_elements) set.program consistent.classes)
      (fields_or_elements set) (λ a. inr refl) (inr refl)

  -- each field of the second class is one of the first, at its place
  abbrev Inherits : ℕ → ℕ → Type 0
  Inherits m n = (i : ℕ) (f : Field) → slice_get (class_at set n).shape.fields i ≡ Some f
      → slice_get (class_at set m).shape.fields i ≡ Some f

  superclasses_inherited : (fuel m : ℕ) → All (Inherits m) (superclasses_from (classes_of set) fuel m)
  superclasses_inherited zero m = All-cons (Inherits m) m [] (λ i f at. at) (All-nil (Inherits m))
  superclasses_inherited (suc fuel) m =
      All-cons (Inherits m) m (elim (class_at set m).superclass [
        | None ↦ []
        | Some super ↦ superclasses_from (classes_of set) fuel super
      ]) (λ i f at. at)
      (elim (class_at set m).superclass as (λ s. IsUnder set (class_at set m) s → All (Inherits m) (elim s [
        | None ↦ []
        | Some super ↦ superclasses_from (classes_of set) fuel super
      ])) [
        | None ↦ λ under. All-nil (Inherits m)
        | Some super ↦ λ under. All-weaker (Inherits super) (Inherits m)
            (λ n inherits i f at. slice_get-front (class_at set m).shape.fields
            (class_at set super).shape.fields i f
            under.fields (inherits i f at))
            (superclasses_from (classes_of set) fuel super) (superclasses_inherited fuel super)
      ] (class_under m))

  interfaces_are : (fuel m : ℕ) → All (IsInterface set) (interfaces_from (classes_of set) fuel m)
  interfaces_are zero m = All-nil (IsInterface set)
  interfaces_are (suc fuel) m =
      All-flat_map (IsInterface set) (λ i. i ∷ interfaces_from (classes_of set) fuel i)
      (class_at set m).interfaces
      (All-weaker (IsInterface set) (λ i. All (IsInterface set) (i ∷ interfaces_from (classes_of set) fuel i))
      (λ i is. All-cons (IsInterface set) i (interfaces_from (classes_of set) fuel i) is
      (interfaces_are fuel i))
      (class_at set m).interfaces (class_interfaces m))

  abbrev IsAbove : ℕ → ℕ → Type 0
  IsAbove m n = Inherits m n ⊎ IsInterface set n

  supertypes_above : (m : ℕ) → All (IsAbove m) (supertypes_of set m)
  supertypes_above m =
      All-append (IsAbove m) (superclasses_of set m) (flat_map (interfaces_of set) (superclasses_of set m))
      (All-weaker (Inherits m) (IsAbove m) (λ n inherits. inl inherits) (superclasses_of set m)
      (superclasses_inherited (class_count set) m))
      (All-flat_map (IsAbove m) (interfaces_of set) (superclasses_of set m) (λ k d within.
      All-weaker (IsInterface set) (IsAbove m) (λ n is. inr is)
      (interfaces_of set (slice_index_or (superclasses_of set m) k d))
      (interfaces_are (class_count set) (slice_index_or (superclasses_of set m) k d))))

  subclass_inherits : (m n : ℕ) → is_subclass set m n ≡ true → (class_at set n).is_interface ≡ false
      → Inherits m n
  subclass_inherits m n is not_interface = elim
      (All-has_number (IsAbove m) (supertypes_of set m) n (supertypes_above m) is) [
        | inl inherits ↦ inherits
        | inr interface ↦ absurd (false≢true (sym not_interface ∙ interface.1))
      ]

  -- a class with a field is no array type
  class_with_fields : (n i : ℕ) (f : Field) → slice_get (class_at set n).shape.fields i ≡ Some f
      → n < class_count set
  class_with_fields n i f at = elim (cases_lt n (class_count set)) [
    | inl below ↦ below
    | inr past ↦ absurd (past_fields (n - class_count set)
        (let e : class_count set + (n - class_count set) ≡ n = omega (arith, past) in rw e at))
  ]
    where
      past_fields : (j : ℕ) → slice_get (class_at set (class_count set + j)).shape.fields i ≡ Some f → ⊥
      past_fields j is = elim (cases_lt j (length set.arrays)) [
        | inl there ↦
            let class = array_of_place set j chars_array there in
            let no : ◌≡◌ {A = Option Field} None (Some f) =
            subst (λ (c : ClassFacts). slice_get c.shape.fields i ≡ Some f) class is in cc
        | inr beyond ↦
            let class = get_or_past (classes_of set) (class_count set + j) no_class
            (omega (arith, beyond, counted set)) in
            let no : ◌≡◌ {A = Option Field} None (Some f) =
            subst (λ (c : ClassFacts). slice_get c.shape.fields i ≡ Some f) class is in cc
      ]

  pub no_array : (n : ℕ) → n < class_count set → array_at set n ≡ None
  no_array n below = rw (lt-ltb n (class_count set) below) refl

  elements_of : (m i : ℕ) (f : Field) → slice_get (class_at set m).shape.fields i ≡ Some f
      → element_of set m ≡ None
  elements_of m i f at = elim (class_elements m) [
    | inl none ↦ none
    | inr empty ↦ absurd (let no : ◌≡◌ {A = Option Field} None (Some f) =
        subst (λ fields. slice_get fields i ≡ Some f) empty at in cc)
  ]

  above_arrays_empty : (n : ℕ) → is_above_arrays set (Objects n) ≡ true → (class_at set n).shape.fields ≡ []
  above_arrays_empty n is = elim (or_cases (nat_eq n (built_in_number set 18) || nat_eq n
      (built_in_number set 7)) (nat_eq n (built_in_number set 2)) is) [
        | inl either ↦ elim (or_cases (nat_eq n (built_in_number set 18))
            (nat_eq n (built_in_number set 7)) either) [
              | inl object ↦ rw (eqb-true n (built_in_number set 18) object) (no_fields set 18 (lit< tt) refl)
              | inr cloneable ↦ rw (eqb-true n (built_in_number set 7) cloneable) (no_fields set 7 (lit< tt) refl)
            ]
        | inr serializable ↦ rw (eqb-true n (built_in_number set 2) serializable) (no_fields set 2 (lit< tt) refl)
      ]

  -- what is a subtype of a class with a field is a subclass
  subtype_of_class : (dimensions : ℕ) (innermost : Innermost) (n : ℕ) → 0 < dimensions
      → is_subtype set dimensions innermost 0 (Objects n) ≡ true → is_above_arrays set (Objects n) ≡ true
  subtype_of_class dimensions innermost n some is =
      let other : nat_eq dimensions 0 ≡ false =
      ne_eqb dimensions 0 (λ none. let no : 0 < 0 = subst (λ d. 0 < d) none some in omega (arith, no)) in
      let less : nat_lt 0 dimensions ≡ true = lt-ltb 0 dimensions some in
      subst (λ b. (b && is_above_arrays set (Objects n)) ≡ true) less
      (subst (λ b. (if b then is_sub_innermost set innermost (Objects n)
      else nat_lt 0 dimensions && is_above_arrays set (Objects n)) ≡ true) other is)

  is_subclass_of : (m n : ℕ) → array_at set n ≡ None → is_sub set m n ≡ true
      → (is_subclass set m n ≡ true) ⊎ (is_above_arrays set (Objects n) ≡ true)
  is_subclass_of m n none is = elim (array_at set m) as (λ (a : Option ArrayType). array_at set m ≡ a
      → is_subtype set (elim a [ None ↦ 0 | Some b ↦ b.dimensions ])
      (elim a [ None ↦ Objects m | Some b ↦ b.innermost ])
      (dimensions_of set n) (innermost_of set n) ≡ true
      → (is_subclass set m n ≡ true) ⊎ (is_above_arrays set (Objects n) ≡ true)) [
        | None ↦ λ at sub. inl (subst (λ (a : Option ArrayType). is_subtype set 0 (Objects m)
            (elim a [ None ↦ 0 | Some b ↦ b.dimensions ])
            (elim a [ None ↦ Objects n | Some b ↦ b.innermost ]) ≡ true) none sub)
        | Some a ↦ λ at sub. inr (subtype_of_class a.dimensions a.innermost n (dimensions_some m a at)
            (subst (λ (b : Option ArrayType). is_subtype set a.dimensions a.innermost
            (elim b [ None ↦ 0 | Some c ↦ c.dimensions ])
            (elim b [ None ↦ Objects n | Some c ↦ c.innermost ]) ≡ true) none sub))
      ] refl is
    where
      dimensions_some : (m : ℕ) (a : ArrayType) → array_at set m ≡ Some a → 0 < a.dimensions
      dimensions_some m a at = elim (nat_lt m (class_count set)) as (λ b.
          (if b then None else slice_get set.arrays (m - class_count set)) ≡ Some a → 0 < a.dimensions) [
            | true ↦ λ no. absurd (let wrong : ◌≡◌ {A = Option ArrayType} None (Some a) = no in cc)
            | false ↦ λ there.
                let k = m - class_count set in
                let within = slice_get_within set.arrays k a there in
                let its = All-get_or (IsArrayType set) set.arrays k a within consistent.arrays in
                (subst (IsArrayType set) (get_or_from_slice_get set.arrays k a a there) its).dimensions
          ] at

  pub subtypes_have_fields : (m n i : ℕ) (f : Field) → is_sub set m n ≡ true
      → (class_at set n).is_interface ≡ false
      → slice_get (class_at set n).shape.fields i ≡ Some f → HasField set m i f
  subtypes_have_fields m n i f is not_interface at =
      let below = class_with_fields n i f at in
      elim (is_subclass_of m n (no_array n below) is) [
        | inl subclass ↦
            let there = subclass_inherits m n subclass not_interface i f at in
            record { no_elements = elements_of m i f there; field = there }
        | inr above ↦ absurd (let no : ◌≡◌ {A = Option Field} None (Some f) =
            subst (λ fields. slice_get fields i ≡ Some f) (above_arrays_empty n above) at in cc)
      ]
