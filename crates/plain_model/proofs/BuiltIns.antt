-- The built-in classes: by computation, and how they link in every class set.
use Rattle.std.proofs.Common.{◌≡◌, ℕ, ◌<◌, true, false, List, [], ◌∷◌, refl, ap, ◌∙◌, arith, lit<, length, take, slice_index_or}
use Rattle.std.proofs.Common.{inl, inr}
use Rattle.std.specs.Prelude.{◌⊎◌, All, None}
use Rattle.std.proofs.lemmas.List.Elements.{All-nil, All-from_recursion}
use Rattle.plain_model.specs.Classes.{ClassFacts, ArrayType, no_class}
use Rattle.plain_model.specs.BuiltIn.{array_class, built_in_classes}
use Rattle.plain_model.specs.Facts.{SetFacts, built_in_number, class_at}
use Rattle.plain_model.specs.Consistent.{IsExtendedBy, IsInterface}
use Rattle.plain_model.specs.BuiltInRows.{BuiltInsAreClasses, BuiltInsLink, IsUnder, SupertypesAreFollowed}
use Rattle.plain_model.proofs.Consistent.{class_of_place}
use Rattle.plain_model.proofs.RunParts.{◌▸◌}

pub built_ins_are_classes : BuiltInsAreClasses
built_ins_are_classes = record { count = refl; names = refl }

pub supertypes_are_followed : SupertypesAreFollowed
supertypes_are_followed = record {
  exception = refl;
  thread = refl;
  builder = refl;
  interface = refl;
  object = refl;
}

module _ (set : SetFacts) where
  abbrev built_ins : List ClassFacts
  built_ins = built_in_classes (length set.program)

  abbrev built_in : ℕ → ClassFacts
  built_in k = slice_index_or built_ins k no_class

  -- a class is under the built-in one at this place
  under : (c : ClassFacts) (k : ℕ) → k < 28 → (built_in k).is_interface ≡ false
      → (built_in k).is_final ≡ false
      → take (length (built_in k).shape.fields) c.shape.fields ≡ (built_in k).shape.fields
      → IsExtendedBy set c (built_in_number set k)
  under c k below is_class not_final fields = record {
    there = omega (arith, below);
    is_class = ap (λ (d : ClassFacts). d.is_interface) (class_of_place set k below) ∙ is_class;
    not_final = ap (λ (d : ClassFacts). d.is_final) (class_of_place set k below) ∙ not_final;
    fields = rw (class_of_place set k below) fields;
  }

  is_interface : (k : ℕ) → k < 28 → (built_in k).is_interface ≡ true → IsInterface set (built_in_number set k)
  is_interface k below is = (
    omega (arith, below),
    ap (λ (d : ClassFacts). d.is_interface) (class_of_place set k below) ∙ is,
  )

  abbrev Under : ClassFacts → Type 0
  Under c = IsUnder set c c.superclass

  abbrev Interfaces : ClassFacts → Type 0
  Interfaces c = All (IsInterface set) c.interfaces

  -- under Object
  plain : (c : ClassFacts) → IsExtendedBy set c (built_in_number set 18)
  plain c = under c 18 (lit< tt) refl refl refl

  none : Interfaces no_class
  none = All-nil (IsInterface set)

  one : (k : ℕ) → k < 28 → (built_in k).is_interface ≡ true
      → All (IsInterface set) (built_in_number set k ∷ [])
  one k below is = All-from_recursion (IsInterface set) (built_in_number set k ∷ [])
      (is_interface k below is ▸ tt)

  serializable : All (IsInterface set) (built_in_number set 2 ∷ [])
  serializable = one 2 (lit< tt) refl

  pub built_ins_link : BuiltInsLink set
  built_ins_link = record {
    supers = All-from_recursion Under built_ins (
        plain (built_in 0)
        ▸ plain (built_in 1)
        ▸ plain (built_in 2)
        ▸ under (built_in 3) 20 (lit< tt) refl refl refl
        ▸ under (built_in 4) 14 (lit< tt) refl refl refl
        ▸ under (built_in 5) 20 (lit< tt) refl refl refl
        ▸ under (built_in 6) 20 (lit< tt) refl refl refl
        ▸ plain (built_in 7)
        ▸ under (built_in 8) 26 (lit< tt) refl refl refl
        ▸ under (built_in 9) 26 (lit< tt) refl refl refl
        ▸ under (built_in 10) 20 (lit< tt) refl refl refl
        ▸ under (built_in 11) 20 (lit< tt) refl refl refl
        ▸ under (built_in 12) 20 (lit< tt) refl refl refl
        ▸ under (built_in 13) 10 (lit< tt) refl refl refl
        ▸ under (built_in 14) 20 (lit< tt) refl refl refl
        ▸ under (built_in 15) 9 (lit< tt) refl refl refl
        ▸ under (built_in 16) 20 (lit< tt) refl refl refl
        ▸ under (built_in 17) 20 (lit< tt) refl refl refl
        ▸ tt
        ▸ plain (built_in 19)
        ▸ under (built_in 20) 9 (lit< tt) refl refl refl
        ▸ plain (built_in 21)
        ▸ plain (built_in 22)
        ▸ under (built_in 23) 14 (lit< tt) refl refl refl
        ▸ plain (built_in 24)
        ▸ plain (built_in 25)
        ▸ plain (built_in 26)
        ▸ under (built_in 27) 20 (lit< tt) refl refl refl
        ▸ tt
        );
    interfaces = All-from_recursion Interfaces built_ins (
        none ▸ none ▸ none ▸ none ▸ none ▸ none ▸ none ▸ none ▸ none ▸ none ▸ none ▸ none ▸ none
        ▸ none ▸ none ▸ none
        ▸ none ▸ none ▸ none ▸ none ▸ none ▸ serializable ▸ serializable ▸ none ▸ none ▸ one 19 (lit< tt) refl
        ▸ serializable ▸ none ▸ tt
        );
  }

  -- so do array types
  pub array_under : (a : ArrayType) → Under (array_class (length set.program) a)
  array_under a = plain (array_class (length set.program) a)

  pub array_interfaces : (a : ArrayType) → Interfaces (array_class (length set.program) a)
  array_interfaces a = All-from_recursion (IsInterface set) (array_class (length set.program) a).interfaces
      (is_interface 7 (lit< tt) refl ▸ is_interface 2 (lit< tt) refl ▸ tt)

  abbrev pub HasFieldsOrElements : ClassFacts → Type 0
  HasFieldsOrElements c = (c.shape.element ≡ None) ⊎ (c.shape.fields ≡ [])

  -- a built-in class with fields has no elements
  pub fields_or_elements : All HasFieldsOrElements built_ins
  fields_or_elements = All-from_recursion HasFieldsOrElements built_ins (
      inl refl ▸ inl refl ▸ inl refl ▸ inl refl ▸ inl refl ▸ inl refl ▸ inl refl
      ▸ inl refl ▸ inl refl ▸ inl refl ▸ inl refl ▸ inl refl ▸ inl refl ▸ inl refl
      ▸ inl refl ▸ inl refl ▸ inl refl ▸ inl refl ▸ inl refl ▸ inl refl ▸ inl refl
      ▸ inr refl ▸ inl refl ▸ inl refl ▸ inl refl ▸ inl refl ▸ inl refl ▸ inl refl ▸ tt
      )

  -- Object, Cloneable and Serializable have no fields
  pub no_fields : (k : ℕ) → k < 28 → (built_in k).shape.fields ≡ []
      → (class_at set (built_in_number set k)).shape.fields ≡ []
  no_fields k below is = ap (λ (c : ClassFacts). c.shape.fields) (class_of_place set k below) ∙ is
