-- Acts that met no fault, and one more.
use Rattle.std.proofs.Common.{◌≡◌, ◌⊎◌, inl, inr, ℕ, List, [], ◌∷◌, ◌++◌, length, sym, subst, ap, arith}
use Rattle.std.proofs.lemmas.List.{length-append}
use Rattle.run_history.specs.Recorded.{Recorded}
use Rattle.run_forms.specs.Standing.{Launch}
use Rattle.run_forms.specs.Ends.{MeetsNoFault}
use Rattle.machine.specs.Running.{HadNoFault}

-- the empty list has no further element
nil-more : {X : Type 0} (front rest : List X) (b : X) {P : Type 0} → [] ≡ front ++ b ∷ rest → P
nil-more front rest b e = absurd (omega (arith, ap length e, length-append front (b ∷ rest)))

-- what stands in a list that has one more stands before it, or is it
last-or : {X : Type 0} (xs : List X) (a : X) (front : List X) (b : X) (rest : List X) → xs ++ a ∷ [] ≡
    front ++ b ∷ rest
    → ((front ≡ xs) × (b ≡ a)) ⊎ ((more : List X) × (xs ≡ front ++ b ∷ more))
last-or [] a [] b rest e = inl (λ i. [], let is : b ≡ a = cc in is)
last-or [] a (f ∷ front) b rest e = let others : [] ≡ front ++ b ∷ rest = cc in nil-more front rest b others
last-or (x ∷ xs) a [] b rest e = let is : x ≡ b = cc in inr (xs, ap (λ y. y ∷ xs) is)
last-or (x ∷ xs) a (f ∷ front) b rest e =
    let first : x ≡ f = cc in
    let others : xs ++ a ∷ [] ≡ front ++ b ∷ rest = cc in
    elim (last-or xs a front b rest others) [
      | inl it ↦ inl (λ i. sym first i ∷ it.0 i, it.1)
      | inr it ↦ inr (it.0, λ i. first i ∷ it.1 i)
    ]

-- no act met a fault
pub none-yet : (launch : Launch) → HadNoFault launch []
none-yet launch lines front a rest e = nil-more front rest a e

pub none-more : (launch : Launch) (acts : List Recorded) (a : Recorded) → HadNoFault launch acts
    → ((lines : ℕ) → MeetsNoFault launch lines acts a.act.thread)
    → HadNoFault launch (acts ++ a ∷ [])
none-more launch acts a had meets lines front b rest e = elim (last-or acts a front b rest e) [
  | inl it ↦
      subst (λ (xs : List Recorded). MeetsNoFault launch lines xs b.act.thread) (sym it.0)
      (subst (λ (c : Recorded). MeetsNoFault launch lines acts c.act.thread) (sym it.1) (meets lines))
  | inr it ↦ had lines front b it.0 it.1
]
