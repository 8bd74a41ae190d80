-- The entries of a small class set, and which shapes agree with it, by computation.
use Rattle.std.proofs.Common.{◌≡◌, inl, inr, ◌⊎◌, ⊎_elim, ◌<◌, ℕ, zero, suc, Bool, true, false, ◌&&◌, List, [], ◌∷◌, ◌++◌}
use Rattle.std.proofs.Common.{length, map, Option, Some, None, refl, sym, ◌∙◌, ap, subst, arith, slice_index_or, get_or, codes}
use Rattle.std.specs.Prelude.{Contains, is_some}
use Rattle.std.proofs.lemmas.List.Elements.{Contains-get_or}
use Rattle.std.specs.List.{AllByRecursion}
use Rattle.std.specs.List.Sorted.{IsStrictlySortedBy}
use Rattle.std.specs.Str.{bytes_eq}
use Rattle.std.specs.Ordering.{nat_cmp}
use Rattle.std.specs.declared.cmp.Ordering.{Ordering}
use Rattle.std.specs.declared.cmp.Ordering.TheVariants.{Less, Equal, Greater}
use Rattle.std.specs.Cmp.Lexicographic.{slice_cmp}
use Rattle.ap_base.specs.declared.kind.Kind.{Kind}
use Rattle.ap_base.specs.declared.kind.Kind.TheVariants.{I, L}
use Rattle.graph_model.specs.declared.types.Shape.{Shape}
use Rattle.image_meaning.specs.Entries.{letter_of}
use Rattle.plain_model.specs.Classes.{ClassFacts, ArrayType, no_class}
use Rattle.plain_model.specs.BuiltIn.{array_class}
use Rattle.plain_model.specs.Facts.{StaticFacts}
use Rattle.directories.specs.ClassSets.{named_classes, IsClassShape, IsMadeShape, IsInSet, IsRootName, AreInOrder, field_of}
use Rattle.directories.specs.Rows.{set, made, shapes, roots, node, thread, gone, static, SmallSetHasEntries, ShapesAgree}

-- ---- elements one by one

-- what holds of each place of a list holds of what it contains
each : {X : Type 0} (P : X → Type 0) (xs : List X) (x : X) → AllByRecursion P xs → Contains xs x → P x
each P [] x all there = absurd (omega (arith, there.1))
each P (y ∷ xs) x all (zero, below, is) = subst P is all.0
each P (y ∷ xs) x all (suc k, below, is) = each P xs x all.1 (k, omega (arith, below), is)

abbrev is_less : Ordering → Bool
is_less Less = true
is_less Equal = false
is_less Greater = false

abbrev less_all : List ℕ → List (List ℕ) → Bool
less_all name [] = true
less_all name (n ∷ names) = is_less (slice_cmp nat_cmp name n) && less_all name names

abbrev ascend : List (List ℕ) → Bool
ascend [] = true
ascend (n ∷ names) = less_all n names && ascend names

is_and : (a b : Bool) → (a && b) ≡ true → (a ≡ true) × (b ≡ true)
is_and true b is = (refl, is)
is_and false b is = absurd (cc)

less_is : (o : Ordering) → is_less o ≡ true → o ≡ Less
less_is Less is = refl
less_is Equal is = absurd (cc)
less_is Greater is = absurd (cc)

all_less : (name : List ℕ) (names : List (List ℕ)) → less_all name names ≡ true → AllByRecursion (λ y. slice_cmp nat_cmp name y ≡ Less) names
all_less name [] is = tt
all_less name (n ∷ names) is =
    let both = is_and (is_less (slice_cmp nat_cmp name n)) (less_all name names) is in
    (less_is (slice_cmp nat_cmp name n) both.0, all_less name names both.1)

in_order : (names : List (List ℕ)) → ascend names ≡ true → AreInOrder names
unfolding IsStrictlySortedBy
in_order [] is = tt
in_order (n ∷ names) is = let both = is_and (less_all n names) (ascend names) is in (all_less n names both.0, in_order names both.1)

-- ---- its entries

abbrev class_of : ℕ → ClassFacts
class_of k = slice_index_or (named_classes set) k no_class

is_class : (k : ℕ) → k < length (named_classes set) → (class_of k).is_interface ≡ false → IsClassShape set (class_of k).shape
is_class k below is = (class_of k, Contains-get_or (named_classes set) k no_class below, is, refl)

abbrev array_of : ℕ → ArrayType
array_of k = slice_index_or set.arrays k gone

-- an array type of the set that is one of those that the code makes
is_made : (k n : ℕ) → k < length set.arrays → n < length made → (array_of k).descriptor ≡ slice_index_or made n [] → IsInSet (array_of k).innermost
    → IsMadeShape set made (array_class 2 (array_of k)).shape
is_made k n low below same known = (
  array_of k,
  Contains-get_or set.arrays k gone low,
  subst (λ d. Contains made d) (sym same) (Contains-get_or made n [] below),
  known,
  refl,
)

abbrev Entry : Shape → Type 0
Entry shape = IsClassShape set shape ⊎ IsMadeShape set made shape

all_are : AllByRecursion Entry shapes
all_are = (
  inl (is_class 0 (omega arith) refl),
  (
    inr (is_made 0 0 (omega arith) (omega arith) refl tt),
    (
      inr (is_made 3 2 (omega arith) (omega arith) refl tt),
      (
        inr (is_made 1 3 (omega arith) (omega arith) refl tt),
        (
          inl (is_class 2 (omega arith) refl),
          (
            inl (is_class 3 (omega arith) refl),
            (
              inl (is_class 5 (omega arith) refl),
              (
                inl (is_class 6 (omega arith) refl),
                (
                  inl (is_class 7 (omega arith) refl),
                  (
                    inl (is_class 8 (omega arith) refl),
                    (
                      inl (is_class 10 (omega arith) refl),
                      (
                        inl (is_class 11 (omega arith) refl),
                        (
                          inl (is_class 12 (omega arith) refl),
                          (
                            inl (is_class 13 (omega arith) refl),
                            (
                              inl (is_class 14 (omega arith) refl),
                              (
                                inl (is_class 15 (omega arith) refl),
                                (
                                  inl (is_class 16 (omega arith) refl),
                                  (
                                    inl (is_class 17 (omega arith) refl),
                                    (
                                      inl (is_class 18 (omega arith) refl),
                                      (
                                        inl (is_class 19 (omega arith) refl),
                                        (
                                          inl (is_class 20 (omega arith) refl),
                                          (
                                            inl (is_class 22 (omega arith) refl),
                                            (
                                              inl (is_class 23 (omega arith) refl),
                                              (
                                                inl (is_class 24 (omega arith) refl),
                                                (
                                                  inl (is_class 25 (omega arith) refl),
                                                  (
                                                    inl (is_class 26 (omega arith) refl),
                                                    (
                                                      inl (is_class 27 (omega arith) refl),
                                                      (
                                                        inl (is_class 28 (omega arith) refl),
                                                        (
                                                          inl (is_class 29 (omega arith) refl),
                                                          tt,
                                                        ),
                                                      ),
                                                    ),
                                                  ),
                                                ),
                                              ),
                                            ),
                                          ),
                                        ),
                                      ),
                                    ),
                                  ),
                                ),
                              ),
                            ),
                          ),
                        ),
                      ),
                    ),
                  ),
                ),
              ),
            ),
          ),
        ),
      ),
    ),
  ),
)

no_interface : true ≡ false → ⊥
no_interface is = cc

classes_are : AllByRecursion (λ (c : ClassFacts). c.is_interface ≡ false → Contains shapes c.shape) (named_classes set)
classes_are = (
  λ is. (0, omega arith, refl),
  (
    λ is. absurd (no_interface is),
    (
      λ is. (4, omega arith, refl),
      (
        λ is. (5, omega arith, refl),
        (
          λ is. absurd (no_interface is),
          (
            λ is. (6, omega arith, refl),
            (
              λ is. (7, omega arith, refl),
              (
                λ is. (8, omega arith, refl),
                (
                  λ is. (9, omega arith, refl),
                  (
                    λ is. absurd (no_interface is),
                    (
                      λ is. (10, omega arith, refl),
                      (
                        λ is. (11, omega arith, refl),
                        (
                          λ is. (12, omega arith, refl),
                          (
                            λ is. (13, omega arith, refl),
                            (
                              λ is. (14, omega arith, refl),
                              (
                                λ is. (15, omega arith, refl),
                                (
                                  λ is. (16, omega arith, refl),
                                  (
                                    λ is. (17, omega arith, refl),
                                    (
                                      λ is. (18, omega arith, refl),
                                      (
                                        λ is. (19, omega arith, refl),
                                        (
                                          λ is. (20, omega arith, refl),
                                          (
                                            λ is. absurd (no_interface is),
                                            (
                                              λ is. (21, omega arith, refl),
                                              (
                                                λ is. (22, omega arith, refl),
                                                (
                                                  λ is. (23, omega arith, refl),
                                                  (
                                                    λ is. (24, omega arith, refl),
                                                    (
                                                      λ is. (25, omega arith, refl),
                                                      (
                                                        λ is. (26, omega arith, refl),
                                                        (
                                                          λ is. (27, omega arith, refl),
                                                          (
                                                            λ is. (28, omega arith, refl),
                                                            tt,
                                                          ),
                                                        ),
                                                      ),
                                                    ),
                                                  ),
                                                ),
                                              ),
                                            ),
                                          ),
                                        ),
                                      ),
                                    ),
                                  ),
                                ),
                              ),
                            ),
                          ),
                        ),
                      ),
                    ),
                  ),
                ),
              ),
            ),
          ),
        ),
      ),
    ),
  ),
)

abbrev IsListed : ArrayType → Type 0
IsListed a = Contains made a.descriptor → IsInSet a.innermost → Contains shapes (array_class 2 a).shape

-- the code makes no array of Shapes
other_made : AllByRecursion (λ (d : List ℕ). bytes_eq d (codes "[LShape;") ≡ false) made
other_made = (
  refl,
  (
    refl,
    (
      refl,
      (
        refl,
        tt,
      ),
    ),
  ),
)

not_made : Contains made (codes "[LShape;") → ⊥
not_made there =
    let e : true ≡ false = each (λ (d : List ℕ). bytes_eq d (codes "[LShape;") ≡ false) made (codes "[LShape;") other_made there in
    cc

arrays_are : AllByRecursion IsListed set.arrays
arrays_are = (
  λ is known. (1, omega arith, refl),
  (
    λ is known. (3, omega arith, refl),
    (
      λ is known. absurd known,
      (
        λ is known. (2, omega arith, refl),
        (
          λ is known. absurd (not_made is),
          tt,
        ),
      ),
    ),
  ),
)

statics_are : AllByRecursion (λ (s : StaticFacts). s.is_root ≡ true → Contains roots s.name) set.statics
statics_are = (
  λ is. (1, omega arith, refl),
  (
    λ is. absurd (no_interface (sym is)),
    (
      λ is. (0, omega arith, refl),
      tt,
    ),
  ),
)

roots_are : AllByRecursion (IsRootName set) roots
roots_are = (
  (slice_index_or set.statics 2 no_static, Contains-get_or set.statics 2 no_static (omega arith), refl, refl),
  (
    (slice_index_or set.statics 0 no_static, Contains-get_or set.statics 0 no_static (omega arith), refl, refl),
    tt,
  ),
)
  where
    no_static : StaticFacts
    no_static = static [] false

abbrev IsKnown : List ℕ → Type 0
IsKnown descriptor = (a : ArrayType) × Contains set.arrays a × (a.descriptor ≡ descriptor)

made_known : AllByRecursion IsKnown made
made_known = (
  (array_of 0, Contains-get_or set.arrays 0 gone (omega arith), refl),
  (
    (array_of 2, Contains-get_or set.arrays 2 gone (omega arith), refl),
    (
      (array_of 3, Contains-get_or set.arrays 3 gone (omega arith), refl),
      (
        (array_of 1, Contains-get_or set.arrays 1 gone (omega arith), refl),
        tt,
      ),
    ),
  ),
)

pub small_set_has_entries : SmallSetHasEntries
small_set_has_entries = record {
  shapes = shapes;
  roots = roots;
  are = refl;
  made_are = record {
    chars = (0, omega arith, refl);
    arguments = (3, omega arith, refl);
    known = λ descriptor there. each IsKnown made descriptor made_known there;
  };
  all_shapes = λ shape. (
    λ there. each Entry shapes shape all_are there,
    λ either. ⊎_elim
        (λ (class : IsClassShape set shape). subst (λ (s : Shape). Contains shapes s) (sym class.3)
        (each (λ (c : ClassFacts). c.is_interface ≡ false → Contains shapes c.shape) (named_classes set) class.0 classes_are class.1 class.2))
        (λ (array : IsMadeShape set made shape). subst (λ (s : Shape). Contains shapes s) (sym array.4)
        (each IsListed set.arrays array.0 arrays_are array.1 array.2 array.3))
        either,
  );
  all_roots = λ name. (
    λ there. each (IsRootName set) roots name roots_are there,
    λ is. subst (λ (n : List ℕ). Contains roots n) (sym is.3)
        (each (λ (s : StaticFacts). s.is_root ≡ true → Contains roots s.name) set.statics is.0 statics_are is.1 is.2),
  );
  shapes_in_order = in_order (map (λ (s : Shape). s.name) shapes) refl;
  roots_in_order = in_order roots refl;
}

-- ---- shapes that agree

abbrev fields_of : Option Shape → List (List ℕ × Kind)
fields_of None = []
fields_of (Some shape) = map field_of shape.fields

no_field : List ℕ × Kind
no_field = ([], L)

abbrev first_name : List (List ℕ × Kind) → Bool
first_name fields = bytes_eq (slice_index_or fields 0 no_field).0 (codes "next")

abbrev first_letter : List (List ℕ × Kind) → ℕ
first_letter fields = letter_of (slice_index_or fields 0 no_field).1

differ : true ≡ false → ⊥
differ is = cc

pub shapes_agree : ShapesAgree
shapes_agree = record {
  same = (node, refl, refl);
  built_in = (thread, refl, refl);
  numbers = tt;
  nodes = (node, refl);
  renamed_field = λ a. differ (ap first_name (ap fields_of a.1 ∙ a.2));
  other_kind = λ a. let e : 76 ≡ 73 = ap first_letter (ap fields_of a.1 ∙ a.2) in omega (arith, e);
  other_order = λ a. differ (ap first_name (ap fields_of a.1 ∙ a.2));
  fewer_fields = λ a. let e : 2 ≡ 1 = ap length (ap fields_of a.1 ∙ a.2) in omega (arith, e);
  unknown_class = λ a. differ (sym (ap is_some a.1));
  unknown_elements = λ a. differ (sym (ap is_some a.1));
}
