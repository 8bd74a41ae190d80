-- The entries of a class set are such as can be planned.
use Rattle.std.proofs.Common.{◌≡◌, ◌≢◌, ℕ, suc, true, false, List, [], ◌∷◌, ◌++◌, map, refl, sym, ◌∙◌, ap, subst, arith}
use Rattle.std.specs.Prelude.{Contains}
use Rattle.std.specs.List.{AllByRecursion}
use Rattle.std.specs.List.Sorted.{IsStrictlySortedBy}
use Rattle.std.specs.Ordering.{nat_cmp, is_eq}
use Rattle.std.specs.declared.cmp.Ordering.TheVariants.{Less}
use Rattle.std.specs.Cmp.Lexicographic.{slice_cmp}
use Rattle.std.proofs.lemmas.Map.Text.{is_eq-slice_cmp}
use Rattle.std.proofs.lemmas.Slice.Eq.{bytes_eq-Decides}
use Rattle.graph_model.specs.declared.types.Shape.{Shape}
use Rattle.image_meaning.specs.Entries.{DirectoryEntry, ShapeEntry, RootEntry, IsShape, AreBytes}
use Rattle.plain_model.specs.Facts.{SetFacts}
use Rattle.directories.specs.ClassSets.{AreInOrder, AreEntriesOf, CanBeWritten}
use Rattle.directories.specs.Planning.{AreOthers, CanBePlanned}

-- what is below another by its bytes isn't the same
less_differs : (a b : List ℕ) → slice_cmp nat_cmp a b ≡ Less → a ≢ b
less_differs a b less same =
    let no : false ≡ true = ap is_eq (sym less) ∙ is_eq-slice_cmp a b ∙ (bytes_eq-Decides a b).1 same in
    absurd (cc)

-- ---- roots

other_roots : (root : List ℕ) (roots : List (List ℕ)) → AllByRecursion (λ y. slice_cmp nat_cmp root y ≡ Less) roots
    → AllByRecursion (AreOthers (RootEntry root)) (map RootEntry roots)
other_roots root [] below = tt
other_roots root (r ∷ roots) below = (less_differs root r below.0, other_roots root roots below.1)

roots_can : (roots : List (List ℕ)) → AreInOrder roots → ((name : List ℕ) → Contains roots name → AreBytes name)
    → CanBePlanned (map RootEntry roots)
unfolding IsStrictlySortedBy
roots_can [] order good = tt
roots_can (r ∷ roots) order good = (
  good r (0, omega arith, refl),
  other_roots r roots order.0,
  roots_can roots order.1 (λ name there. good name (suc there.0, omega (arith, there.1), there.2)),
)

-- ---- shapes before them

apart : (shape : Shape) (roots : List (List ℕ)) → AllByRecursion (AreOthers (ShapeEntry shape)) (map RootEntry roots)
apart shape [] = tt
apart shape (r ∷ roots) = (tt, apart shape roots)

other_shapes : (shape : Shape) (shapes : List Shape) (roots : List (List ℕ))
    → AllByRecursion (λ y. slice_cmp nat_cmp shape.name y ≡ Less) (map (λ (s : Shape). s.name) shapes)
    → AllByRecursion (AreOthers (ShapeEntry shape)) (map ShapeEntry shapes ++ map RootEntry roots)
other_shapes shape [] roots below = apart shape roots
other_shapes shape (s ∷ shapes) roots below = (less_differs shape.name s.name below.0, other_shapes shape shapes roots below.1)

shapes_can : (shapes : List Shape) (roots : List (List ℕ)) → AreInOrder (map (λ (s : Shape). s.name) shapes)
    → ((shape : Shape) → Contains shapes shape → IsShape shape) → CanBePlanned (map RootEntry roots)
    → CanBePlanned (map ShapeEntry shapes ++ map RootEntry roots)
unfolding IsStrictlySortedBy
shapes_can [] roots order good can = can
shapes_can (s ∷ shapes) roots order good can = (
  good s (0, omega arith, refl),
  other_shapes s shapes roots order.0,
  shapes_can shapes roots order.1 (λ shape there. good shape (suc there.0, omega (arith, there.1), there.2)) can,
)

pub entries_can : (set : SetFacts) (made : List (List ℕ)) (entries : List DirectoryEntry) → AreEntriesOf set made entries
    → CanBeWritten set made → CanBePlanned entries
entries_can set made entries are good =
    subst (λ (all : List DirectoryEntry). CanBePlanned all) (sym are.are)
    (shapes_can are.shapes are.roots are.shapes_in_order
    (λ shape there. good.shapes shape ((are.all_shapes shape).0 there))
    (roots_can are.roots are.roots_in_order (λ name there. good.roots name ((are.all_roots name).0 there))))
