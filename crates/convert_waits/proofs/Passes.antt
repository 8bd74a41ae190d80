-- A pass over the threads, each live one of which waits.
use Rattle.std.proofs.Common.{◌≡◌, ◌≢◌, inl, inr, ℕ, sym, ◌∙◌, ap, arith, if◌then◌else◌}
use Rattle.std.specs.Prelude.{Option, Some}
use Rattle.std.proofs.lemmas.Bool.{false≢true, eq-eqb, ne_eqb}
use Rattle.std.proofs.lemmas.Bool.Decides.{eqb_tells}
use Rattle.convert_waits.specs.Rows.{Why, with_wait}
use Rattle.convert_waits.specs.Passes.{PassesBegin, PassesGoOn, PassesSkip, PassesFill}

module _ (waited : ℕ → Option Why) (t : ℕ) (why : Why) where
  wait-here : (n : ℕ) → n ≡ t → with_wait waited t why n ≡ Some why
  wait-here n same = ap (λ b. if b then Some why else waited n) (eq-eqb n t same)

  wait-other : (n : ℕ) → n ≢ t → with_wait waited t why n ≡ waited n
  wait-other n other = ap (λ b. if b then Some why else waited n) (ne_eqb n t other)

pub passes_begin : PassesBegin
passes_begin lives waited u below alive = absurd (omega (arith, below))

pub passes_go_on : PassesGoOn
passes_go_on lives waited n why had u below alive = elim (eqb_tells u n) [
  | inl same ↦ (why, wait-here waited n why u same.1)
  | inr other ↦
      (let ne = other.1 in
      let w = had u (omega (arith, ne, below)) alive in
      (w.0, wait-other waited n why u other.1 ∙ w.1))
]

pub passes_skip : PassesSkip
passes_skip lives waited n had dead u below alive = elim (eqb_tells u n) [
  | inl same ↦ absurd (false≢true (sym (ap lives same.1 ∙ dead) ∙ alive))
  | inr other ↦ (let ne = other.1 in had u (omega (arith, ne, below)) alive)
]

pub passes_fill : PassesFill
passes_fill lives es waited n below claimers had = record { claimers = claimers; all = λ t alive. had t (below t alive) alive }
