-- Which verdicts are right.
use Rattle.std.proofs.Common.{◌≡◌, ◌≢◌, ℕ, zero, suc, ◌<◌, ◌≤◌, List, [], ◌∷◌, ◌++◌, length, take, refl, sym, ap, subst, arith, inl, inr, ◌⊎◌}
use Rattle.std.proofs.lemmas.Bool.{cases_lt}
use Rattle.std.proofs.lemmas.List.{take_all}
use Rattle.graph_model.specs.declared.types.Graph.{Graph}
use Rattle.run_history.specs.Recorded.{Recorded}
use Rattle.run_history.specs.Knowing.{known_after}
use Rattle.run_history.specs.Wanted.{NoWish}
use Rattle.plain_model.specs.Facts.{SetFacts}
use Rattle.plain_model.specs.First.{first_known}
use Rattle.plain_model.specs.Codes.{Code}
use Rattle.plain_model.specs.Runs.{IsAllowed, IsPlainRun, first_frames, output_of}
use Rattle.plain_model.proofs.Appended.{GoesOn-front}
use Rattle.audit_verdicts.specs.Picked.{has_bit, kept_by}
use Rattle.audit_verdicts.specs.declared.verdict.Verdict.{Verdict}
use Rattle.audit_verdicts.specs.declared.verdict.Verdict.TheVariants.{Yes, Act, Output, Image}
use Rattle.audit_verdicts.specs.Verdicts.{IsVerdict}

front-of : {X : Type 0} (xs : List X) (m : ℕ) → (r : List X) × (xs ≡ take m xs ++ r)
front-of xs zero = (xs, refl)
front-of [] (suc m) = ([], refl)
front-of (x ∷ xs) (suc m) = let behind = front-of xs m in (behind.0, ap (λ ys. x ∷ ys) behind.1)

front-take : {X : Type 0} (xs : List X) (m n : ℕ) → m ≤ n → (r : List X) × (take n xs ≡ take m xs ++ r)
front-take xs zero n le = (take n xs, refl)
front-take xs (suc m) zero le = absurd (omega (arith, le))
front-take [] (suc m) (suc n) le = ([], refl)
front-take (x ∷ xs) (suc m) (suc n) le = let behind = front-take xs m n (omega (arith, le)) in (behind.0, ap (λ ys. x ∷ ys) behind.1)

module _ (set : SetFacts) (main : ℕ) (opening : Graph) {Frames : Type 0} (code : Code set main opening Frames) (acts : List Recorded) (keep : ℕ)
    (output : List ℕ) (after : Graph) where
  abbrev IsRun : List Recorded → Type 0
  IsRun xs = IsPlainRun set main opening code xs

  abbrev Is : Verdict → Type 0
  Is v = IsVerdict set main opening code acts keep output after v

  front : (xs ys : List Recorded) → IsRun (xs ++ ys) → IsRun xs
  front xs ys run = GoesOn-front set main opening code (first_known set opening) (first_frames set main opening code) NoWish xs ys run

  of-all : (n : ℕ) → IsRun acts → IsRun (take n acts)
  of-all n run = let f = front-of acts n in front (take n acts) f.0 (subst IsRun f.1 run)

  of-more : (m n : ℕ) → m ≤ n → IsRun (take n acts) → IsRun (take m acts)
  of-more m n le run = let f = front-take acts m n le in front (take m acts) f.0 (subst IsRun f.1 run)

  no-act : (n : ℕ) → IsRun acts → Is (Act n) → ⊥
  no-act n run is = is.2 (of-all (suc n) run)

  same-act : (m n : ℕ) → Is (Act m) → Is (Act n) → m ≡ n
  same-act m n one other = elim (cases_lt m n) [
    | inl less ↦ absurd (one.2 (of-more (suc m) n (omega (arith, less)) other.1))
    | inr most ↦ elim (cases_lt n m) [
      | inl less ↦ absurd (other.2 (of-more (suc n) m (omega (arith, less)) one.1))
      | inr least ↦ omega (arith, most, least)
    ]
  ]

  pub exclude : (v w : Verdict) → Is v → Is w → v ≡ w
  exclude Yes Yes a b = refl
  exclude Yes (Act n) a b = absurd (no-act n a.0 b)
  exclude Yes Output a b = absurd (b.1 a.1)
  exclude Yes Image a b = absurd (b.2 a.2)
  exclude (Act m) Yes a b = absurd (no-act m b.0 a)
  exclude (Act m) (Act n) a b = ap Act (same-act m n a b)
  exclude (Act m) Output a b = absurd (no-act m b.0 a)
  exclude (Act m) Image a b = absurd (no-act m b.0 a)
  exclude Output Yes a b = absurd (a.1 b.1)
  exclude Output (Act n) a b = absurd (no-act n a.0 b)
  exclude Output Output a b = refl
  exclude Output Image a b = absurd (a.1 b.1)
  exclude Image Yes a b = absurd (a.2 b.2)
  exclude Image (Act n) a b = absurd (no-act n a.0 b)
  exclude Image Output a b = absurd (b.1 a.1)
  exclude Image Image a b = refl

  module _ (none : (v : Verdict) → Is v → ⊥) where
    runs : (n : ℕ) → n ≤ length acts → ((IsRun (take n acts) → ⊥) → ⊥)
    runs zero le never = never tt
    runs (suc n) le never = runs n (omega (arith, le)) (λ run. none (Act n) (omega (arith, le), run, never))

    pub some : ⊥
    some = runs (length acts) (omega arith) (λ front_run.
        let run : IsRun acts = subst IsRun (take_all (length acts) acts (omega arith)) front_run in
        none Output (run, λ same. none Image (run, same, λ graph. none Yes (run, same, graph))))

  pub allowed : Is Yes → IsAllowed set opening acts after
  allowed is = (kept_by keep (known_after (first_known set opening) acts).marks, (has_bit keep, has_bit keep, refl), is.2)
