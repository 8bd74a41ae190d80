-- Sums over the views.
use Rattle.std.proofs.Common.{◌≡◌, ℕ, zero, suc, ◌+◌, ◌<◌, ◌≤◌, ◌≢◌, ⊎_elim, List, [], ◌∷◌, ◌++◌, length, set, sym, refl, subst, ap, ◌∙◌, arith, true, false, Bool, if◌then◌else◌}
use mathlib.Core.Logic.{dite}
use native.Mathlib.Decide.{ℕ_discrete}
use Rattle.atomic_table.proofs.Lists.{at_set, at_snoc, set_else}
use mathlib.Core.Option.{some, some-injective, some-ne-none}
use lib.ListN.{get_elem?}
use Rattle.turnstile.specs.declared.view.View.{View}
use Rattle.turnstile.specs.Views.{has_ticket, total, active, weight}

active_le : (b : Bool) (n : ℕ) → (b ≡ true → 0 < n) → (if b then 1 else 0) ≤ n
active_le true n h = let p = h refl in omega arith
active_le false n h = omega arith

module _ {E P : Type 0} where
  pub total_set : (f : View E P → ℕ) (vs : List (View E P)) (i : ℕ) (v w : View E P) → get_elem? vs i ≡ some v → total f (set vs i w) + f v ≡ total f vs + f w
  total_set f [] i v w e = absurd (some-ne-none v (sym e))
  total_set f (x ∷ vs) zero v w e = let s : f x ≡ f v = ap f (some-injective x v e) in omega arith
  total_set f (x ∷ vs) (suc i) v w e = let s = total_set f vs i v w e in omega arith

  -- where each view counts no less by g than by f, the sums do too
  pub total_le : (f g : View E P → ℕ) (vs : List (View E P)) → ((i : ℕ) (v : View E P) → get_elem? vs i ≡ some v → f v ≤ g v) → total f vs ≤ total g vs
  total_le f g [] le = omega arith
  total_le f g (x ∷ vs) le = let h = le 0 x refl in let t = total_le f g vs (λ i. le (suc i)) in omega arith

  pub every_set : (Q : ℕ → View E P → Type 0) (vs : List (View E P)) (i : ℕ) (w : View E P) → Q i w → ((j : ℕ) (u : View E P) → j ≢ i → get_elem? vs j ≡ some u → Q j u)
      → (j : ℕ) (u : View E P) → get_elem? (set vs i w) j ≡ some u → Q j u
  every_set Q vs i w here there j u e = ⊎_elim (λ t. subst (λ (x : View E P). Q j x) t.1 (subst (λ (n : ℕ). Q n w) (sym t.0) here)) (λ t. there j u t.0 t.1) (at_set vs i j w u e)

  pub every_back : (Q : ℕ → View E P → Type 0) (vs : List (View E P)) (i : ℕ) (v w : View E P) → get_elem? vs i ≡ some v → Q i v → ((j : ℕ) (u : View E P) → get_elem? (set vs i w) j ≡ some u → Q j u)
      → (j : ℕ) (u : View E P) → get_elem? vs j ≡ some u → Q j u
  every_back Q vs i v w at here there j u e = dite (ℕ_discrete j i)
      (λ t. let same : v ≡ u = some-injective v u (sym at ∙ (ap (λ (n : ℕ). get_elem? vs n) (sym t) ∙ e)) in subst (λ (x : View E P). Q j x) same (subst (λ (n : ℕ). Q n v) (sym t) here))
      (λ t. there j u (set_else vs i j w t ∙ e))

  pub at_here : (vs : List (View E P)) (i : ℕ) (v w : View E P) → get_elem? vs i ≡ some v → get_elem? (set vs i w) i ≡ some w
  at_here [] i v w e = absurd (some-ne-none v (sym e))
  at_here (x ∷ vs) zero v w e = refl
  at_here (x ∷ vs) (suc i) v w e = at_here vs i v w e

  -- no more tickets are out than there are hands
  pub tickets_fit : (vs : List (View E P)) → ((j : ℕ) (w : View E P) → get_elem? vs j ≡ some w → has_ticket w.phase ≡ true → 0 < length w.hands) → total active vs ≤ total weight vs
  tickets_fit vs each = total_le active weight vs (λ j w e. active_le (has_ticket w.phase) (length w.hands) (each j w e))

  pub total_at : (f : View E P → ℕ) (vs : List (View E P)) (i : ℕ) (v : View E P) → get_elem? vs i ≡ some v → f v ≤ total f vs
  total_at f [] i v e = absurd (some-ne-none v (sym e))
  total_at f (x ∷ vs) zero v e = let s : f x ≡ f v = ap f (some-injective x v e) in omega arith
  total_at f (x ∷ vs) (suc i) v e = let t = total_at f vs i v e in omega arith

  pub total_two : (f : View E P → ℕ) (vs : List (View E P)) (i j : ℕ) (v u : View E P) → get_elem? vs i ≡ some v → get_elem? vs j ≡ some u → j ≢ i → f v + f u ≤ total f vs
  total_two f [] i j v u e e' ne = absurd (some-ne-none v (sym e))
  total_two f (x ∷ vs) zero zero v u e e' ne = absurd (ne refl)
  total_two f (x ∷ vs) zero (suc j) v u e e' ne = let s : f x ≡ f v = ap f (some-injective x v e) in let t = total_at f vs j u e' in omega arith
  total_two f (x ∷ vs) (suc i) zero v u e e' ne = let s : f x ≡ f u = ap f (some-injective x u e') in let t = total_at f vs i v e in omega arith
  total_two f (x ∷ vs) (suc i) (suc j) v u e e' ne = let t = total_two f vs i j v u e e' (λ h. ne (ap suc h)) in omega arith

  pub every_snoc : (Q : ℕ → View E P → Type 0) (vs : List (View E P)) (r : View E P) → ((j : ℕ) → Q j r) → ((j : ℕ) (u : View E P) → get_elem? vs j ≡ some u → Q j u)
      → (j : ℕ) (u : View E P) → get_elem? (vs ++ r ∷ []) j ≡ some u → Q j u
  every_snoc Q vs r here there j u e = ⊎_elim (λ t. there j u t) (λ t. subst (λ (x : View E P). Q j x) t (here j)) (at_snoc vs r u j e)

  pub total_snoc : (f : View E P → ℕ) (vs : List (View E P)) (r : View E P) → total f (vs ++ r ∷ []) ≡ total f vs + f r
  total_snoc f [] r = omega arith
  total_snoc f (x ∷ vs) r = let t = total_snoc f vs r in omega arith

  -- where one view has all that is counted by g, it has all that is counted by a lesser f
  pub total_alone : (f g : View E P → ℕ) (vs : List (View E P)) (i : ℕ) (v : View E P) → ((w : View E P) → f w ≤ g w) → get_elem? vs i ≡ some v → total g vs ≡ g v → total f vs ≡ f v
  total_alone f g [] i v le e all = absurd (some-ne-none v (sym e))
  total_alone f g (x ∷ vs) zero v le e all =
      let s : f x ≡ f v = ap f (some-injective x v e) in
      let s' : g x ≡ g v = ap g (some-injective x v e) in
      let t = total_le f g vs (λ j w e. le w) in omega arith
  total_alone f g (x ∷ vs) (suc i) v le e all =
      let l = le x in
      let a = total_at g vs i v e in
      let t = total_alone f g vs i v le e (omega arith) in omega arith
