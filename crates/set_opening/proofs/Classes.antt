-- The classes of a set by their names, and the shapes of a directory that has them.
use Rattle.std.proofs.Common.{◌≡◌, ◌≢◌, ℕ, zero, suc, ◌<◌, true, false, ◌&&◌, nat_eq, List, [], ◌∷◌, map, length}
use Rattle.std.proofs.Common.{slice_index_or, refl, sym, ap, ◌∙◌, subst, arith, ◌⊎◌, inl, inr, if◌then◌else◌}
use Rattle.std.specs.Prelude.{AllPairs, Contains}
use Rattle.std.specs.Str.{bytes_eq}
use Rattle.std.proofs.lemmas.List.Elements.{Contains-append_left, Contains-append_right}
use Rattle.std.proofs.lemmas.Slice.Eq.{bytes_eq-Decides}
use Rattle.graph_model.specs.declared.types.Shape.{Shape}
use Rattle.image_meaning.proofs.Ranges.{get_or_any}
use Rattle.plain_model.specs.BuiltIn.{array_class}
use Rattle.plain_model.specs.Classes.{ClassFacts, no_class}
use Rattle.plain_model.specs.Facts.{SetFacts, classes_of, class_at}
use Rattle.plain_model.specs.First.{class_named, name_is}
use Rattle.class_set.proofs.GivenArrays.{contains_map}
use Rattle.directories.specs.ClassSets.{IsClassShape, IsMadeShape, named_classes}
use Rattle.set_opening.specs.Opened.{IsOfClass}

-- ---- names

same_test : (a b : List ℕ) → name_is a b ≡ bytes_eq a b
same_test [] [] = refl
same_test [] (y ∷ ys) = refl
same_test (x ∷ xs) [] = refl
same_test (x ∷ xs) (y ∷ ys) = ap (λ b. nat_eq x y && b) (same_test xs ys)

pub name_same : (a : List ℕ) → name_is a a ≡ true
name_same a = same_test a a ∙ (bytes_eq-Decides a a).1 refl

pub name_equal : (a b : List ℕ) → name_is a b ≡ true → a ≡ b
name_equal a b is = (bytes_eq-Decides a b).0 (sym (same_test a b) ∙ is)

name_other : (a b : List ℕ) → a ≢ b → name_is a b ≡ false
name_other a b differ = elim (name_is a b) as (λ t. name_is a b ≡ t → t ≡ false) [
  | true ↦ λ is. absurd (differ (name_equal a b is))
  | false ↦ λ is. refl
] refl

-- ---- a class by its name

abbrev pub NamesDiffer : List ClassFacts → Type 0
NamesDiffer classes = AllPairs (λ (c d : ClassFacts). c.shape.name ≢ d.shape.name) classes

place_named : (classes : List ClassFacts) (n : ℕ) → NamesDiffer classes → n < length classes
    → class_named classes (slice_index_or classes n no_class).shape.name ≡ n
place_named [] n differ below = absurd (omega (arith, below))
place_named (c ∷ classes) zero differ below = rw (name_same c.shape.name) refl
place_named (c ∷ classes) (suc n) differ below =
    rw (name_other c.shape.name (slice_index_or classes n no_class).shape.name
    (differ 0 (suc n) no_class (omega arith) below))
    (ap suc (place_named classes n (λ i j d lt under. differ (suc i) (suc j) d (omega (arith, lt))
    (omega (arith, under))) (omega (arith, below))))

-- What holds of a shape that is a class's own: the class with its name is there, and its shape is that one.
pub record IsOwn (set : SetFacts) (shape : Shape) : Type 0 where
  pub there : class_named (classes_of set) shape.name < length (classes_of set)
  pub is : IsOfClass set shape

pub own_shape : (set : SetFacts) (c : ClassFacts) → NamesDiffer (classes_of set)
    → Contains (classes_of set) c → IsOwn set c.shape
own_shape set c differ (n, below, is) =
    let same : slice_index_or (classes_of set) n no_class ≡ c =
    get_or_any (classes_of set) n no_class c below ∙ is in
    let at : class_named (classes_of set) c.shape.name ≡ n =
    ap (λ (x : ClassFacts). class_named (classes_of set) x.shape.name) (sym same)
    ∙ place_named (classes_of set) n differ below in
    record {
      there = omega (arith, at, below);
      is = λ under. sym (ap (λ k. (class_at set k).shape) at ∙ ap (λ (x : ClassFacts). x.shape) same);
    }

-- the shapes of a set's entries are its classes' own
pub entry_own : (set : SetFacts) (made : List (List ℕ)) (shape : Shape) → NamesDiffer (classes_of set)
    → IsClassShape set shape ⊎ IsMadeShape set made shape → IsOwn set shape
entry_own set made shape differ (inl (c, there, plain, same)) =
    subst (IsOwn set) (sym same) (own_shape set c differ
    (Contains-append_left (named_classes set) (map (array_class (length set.program)) set.arrays) c there))
entry_own set made shape differ (inr (a, there, is_made, known, same)) =
    subst (IsOwn set) (sym same) (own_shape set (array_class (length set.program) a) differ
    (Contains-append_right (named_classes set) (map (array_class (length set.program)) set.arrays)
    (array_class (length set.program) a)
    (contains_map (array_class (length set.program)) set.arrays a there)))

-- a class with this name is there where one has it
pub named_there : (classes : List ClassFacts) (c : ClassFacts) → Contains classes c
    → class_named classes c.shape.name < length classes
named_there [] c (n, below, is) = absurd (omega (arith, below))
named_there (d ∷ classes) c (zero, below, is) =
    let same : name_is d.shape.name c.shape.name ≡ true =
    ap (λ (x : ClassFacts). name_is x.shape.name c.shape.name) is ∙ name_same c.shape.name in
    rw same (omega arith)
named_there (d ∷ classes) c (suc n, below, is) =
    let more = named_there classes c (n, omega (arith, below), is) in
    elim (name_is d.shape.name c.shape.name)
    as (λ b. (if b then 0 else suc (class_named classes c.shape.name)) < suc (length classes)) [
      | true ↦ omega arith
      | false ↦ omega (arith, more)
    ]
