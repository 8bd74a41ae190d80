-- The superclasses of a class, one after the other.
use Rattle.std.proofs.Common.{true, ◌≡◌, ℕ, zero, suc, List, [], ◌∷◌, Option, Some, None, drop, slice_index_or, refl, ap, ◌∙◌}
use Rattle.std.proofs.Common.{eq-eqb}
use Rattle.std.specs.Prelude.{◌||◌}
use Rattle.std.proofs.lemmas.Bool.{ne_eqb}
use Rattle.graph_model.specs.Heaps.{has_number}
use Rattle.plain_model.specs.Classes.{ClassFacts, no_class}
use Rattle.plain_model.specs.Facts.{superclasses_from}

rest_of : (classes : List ClassFacts) → ℕ → Option ℕ → List ℕ
rest_of classes more above = elim above [ None ↦ [] | Some super ↦ superclasses_from classes more super ]

head : (classes : List ClassFacts) (more s : ℕ) → superclasses_from classes more s ≡ s ∷ drop 1 (superclasses_from classes more s)
head classes zero s = refl
head classes (suc more) s = refl

above : (classes : List ClassFacts) (more n s : ℕ) → (slice_index_or classes n no_class).superclass ≡ Some s
    → drop 1 (superclasses_from classes (suc more) n) ≡ s ∷ drop 1 (superclasses_from classes more s)
unfolding rest_of
above classes more n s e = ap (rest_of classes more) e ∙ head classes more s

pub found : (classes : List ClassFacts) (more left n s class : ℕ) → left ≡ suc more
    → (slice_index_or classes n no_class).superclass ≡ Some s → s ≡ class
    → has_number (drop 1 (superclasses_from classes left n)) class ≡ true
found classes more left n s class l e same =
    ap (λ k. has_number (drop 1 (superclasses_from classes k n)) class) l
    ∙ ap (λ ns. has_number ns class) (above classes more n s e)
    ∙ ap (λ b. b || has_number (drop 1 (superclasses_from classes more s)) class) (eq-eqb s class same)

pub passed : (classes : List ClassFacts) (more left n s class : ℕ) → left ≡ suc more
    → (slice_index_or classes n no_class).superclass ≡ Some s → (s ≡ class → ⊥)
    → has_number (drop 1 (superclasses_from classes left n)) class
    ≡ has_number (drop 1 (superclasses_from classes more s)) class
passed classes more left n s class l e other =
    ap (λ k. has_number (drop 1 (superclasses_from classes k n)) class) l
    ∙ ap (λ ns. has_number ns class) (above classes more n s e)
    ∙ ap (λ b. b || has_number (drop 1 (superclasses_from classes more s)) class) (ne_eqb s class other)
