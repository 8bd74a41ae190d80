-- The names of durable roots.
use Rattle.std.proofs.Common.{◌≡◌, inl, inr, ⊎_elim, ℕ, suc, Bool, true, false, List, [], ◌∷◌, ◌++◌, map, refl, sym, ◌∙◌, ap}
use Rattle.std.proofs.Common.{subst, if◌then◌else◌}
use Rattle.std.specs.Prelude.{Contains}
use Rattle.std.proofs.lemmas.List.{map-append}
use Rattle.std.proofs.lemmas.List.Elements.{Contains-append_left, Contains-append_right, Contains-append_cases}
use Rattle.graph_walks.proofs.Lists.{Contains-cons_cases, Contains-head, Contains-nil, Contains-tail}
use Rattle.graph_model.specs.declared.types.Root.{Root}
use Rattle.plain_model.specs.Facts.{StaticFacts, SetFacts}
use Rattle.class_set.specs.Facts.{root_of, roots_from, roots_of}
use Rattle.directories.specs.ClassSets.{IsRootName}

abbrev root_name : Root → List ℕ
root_name root = root.name

-- a durable root of this name is among these static fields
abbrev IsNameAmong : List StaticFacts → List ℕ → Type 0
IsNameAmong ss name = (s : StaticFacts) × Contains ss s × (s.is_root ≡ true) × (name ≡ s.name)

later : (s : StaticFacts) (ss : List StaticFacts) (name : List ℕ) → IsNameAmong ss name → IsNameAmong (s ∷ ss) name
later s ss name (t, there, root, is) = (t, Contains-tail s ss t there, root, is)

from_head : (n : ℕ) (s : StaticFacts) (b : Bool) (name : List ℕ) → s.is_root ≡ b
    → Contains (map root_name (if b then record { name = s.name; at = n } ∷ [] else [])) name → (s.is_root ≡ true) × (name ≡ s.name)
from_head n s true name is there = (
  is,
  ⊎_elim
      (λ (here : s.name ≡ name). sym here)
      (λ (none : Contains [] name). absurd (Contains-nil name none))
      (Contains-cons_cases s.name [] name there),
)
from_head n s false name is there = absurd (Contains-nil name there)

from_roots : (n : ℕ) (ss : List StaticFacts) (name : List ℕ) → Contains (map root_name (roots_from n ss)) name → IsNameAmong ss name
from_roots n [] name there = absurd (Contains-nil name there)
from_roots n (s ∷ ss) name there = ⊎_elim
    (λ (head : Contains (map root_name (root_of n s)) name).
    let one = from_head n s s.is_root name refl head in (s, Contains-head s ss, one.0, one.1))
    (λ (rest : Contains (map root_name (roots_from (suc n) ss)) name). later s ss name (from_roots (suc n) ss name rest))
    (Contains-append_cases (map root_name (root_of n s)) (map root_name (roots_from (suc n) ss)) name
    (subst (λ (names : List (List ℕ)). Contains names name) (map-append root_name (root_of n s) (roots_from (suc n) ss)) there))

head_there : (n : ℕ) (s : StaticFacts) → s.is_root ≡ true → Contains (map root_name (root_of n s)) s.name
head_there n s is =
    subst (λ (b : Bool). Contains (map root_name (if b then record { name = s.name; at = n } ∷ [] else [])) s.name) (sym is)
    (Contains-head s.name [])

to_roots : (n : ℕ) (ss : List StaticFacts) (s : StaticFacts) → Contains ss s → s.is_root ≡ true
    → Contains (map root_name (roots_from n ss)) s.name
to_roots n [] s there is = absurd (Contains-nil s there)
to_roots n (t ∷ ss) s there is =
    let one = map root_name (root_of n t) in
    let rest = map root_name (roots_from (suc n) ss) in
    subst (λ (names : List (List ℕ)). Contains names s.name) (sym (map-append root_name (root_of n t) (roots_from (suc n) ss))) (⊎_elim
    (λ (here : t ≡ s). Contains-append_left one rest s.name
    (subst (λ (u : StaticFacts). Contains one u.name) here
    (head_there n t (subst (λ (u : StaticFacts). u.is_root ≡ true) (sym here) is))))
    (λ (behind : Contains ss s). Contains-append_right one rest s.name (to_roots (suc n) ss s behind is))
    (Contains-cons_cases t ss s there))

pub root_from : (facts : SetFacts) (name : List ℕ) → Contains (map (λ (root : Root). root.name) (roots_of facts)) name → IsRootName facts name
root_from facts name there = from_roots 1 facts.statics name there

pub root_there : (facts : SetFacts) (name : List ℕ) → IsRootName facts name → Contains (map (λ (root : Root). root.name) (roots_of facts)) name
root_there facts name (s, there, root, is) =
    subst (λ (n : List ℕ). Contains (map root_name (roots_of facts)) n) (sym is) (to_roots 1 facts.statics s there root)
