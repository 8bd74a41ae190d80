-- Whoever has claimed an object waits for a conversion, where all live threads wait: so none does.
use Rattle.std.proofs.Common.{◌≡◌, ◌⊎◌, inl, inr, ℕ, Bool, true, false, List, refl, sym, ◌∙◌, ap, subst}
use Rattle.std.specs.Prelude.{Option, Some, None}
use Rattle.run_types.specs.declared.wait.On.{On}
use Rattle.run_types.specs.declared.wait.On.TheVariants as on
use Rattle.twin_forms.specs.Table.{Entry, IsClaimed}
use Rattle.convert_words.specs.Scenes.{Scene, AgreesAt}
use Rattle.convert_waits.specs.Waiting.{WaitsForMember, WaitsForForward, Holds, AllHold}
use Rattle.convert_waits.proofs.Waiting.{conversions_never_stick}
use Rattle.convert_waits.specs.Stuck.{HoldsWait, IsPlain, IsStuckAt, IsRecord, StuckRunsWaitPlainly}

-- whose conversion a recorded wait is for
abbrev for_on : Option On → Option ℕ
for_on None = None
for_on (Some (on.Conversion u)) = Some u
for_on (Some o) = None

abbrev of_live : Bool → Option On → Option ℕ
of_live true at = for_on at
of_live false at = None

module _ (plain : ℕ → Option On) (lives : ℕ → Bool) (s : Scene) (es : List Entry) (recorded : ℕ → Option On)
    (agrees : AgreesAt s es) (is : IsRecord plain lives es recorded) (stuck : IsStuckAt plain lives s es recorded) where
  abbrev waits-for : ℕ → Option ℕ
  waits-for t = of_live (lives t) (recorded t)

  why-of : (t u : ℕ) → HoldsWait plain s es t (on.Conversion u) → WaitsForMember s t u ⊎ WaitsForForward es u
  why-of t u (inl member) = inl member
  why-of t u (inr lacks) = inr (record { object = lacks.m; claimed = lacks.claimed; behind = lacks.behind })

  -- a recorded wait that is for a conversion
  told : (t u : ℕ) (o : On) → recorded t ≡ Some o → HoldsWait plain s es t o → for_on (Some o) ≡ Some u → Holds s es t u
  told t u (on.Conversion v) at holds for =
      let same : v ≡ u = (let e : ◌≡◌ {A = Option ℕ} (Some v) (Some u) = for in cc) in
      subst (Holds s es t) same
      (record { below = is.below t v at; why = why-of t v holds; forwarded = is.forwarded t (on.Conversion v) at })
  told t u (on.Monitor v) at holds for = absurd (let no : ◌≡◌ {A = Option ℕ} None (Some u) = for in cc)
  told t u (on.Join v) at holds for = absurd (let no : ◌≡◌ {A = Option ℕ} None (Some u) = for in cc)
  told t u (on.Init v) at holds for = absurd (let no : ◌≡◌ {A = Option ℕ} None (Some u) = for in cc)

  each-holds : (t u : ℕ) (b : Bool) → lives t ≡ b → of_live b (recorded t) ≡ Some u → Holds s es t u
  each-holds t u false alive for = absurd (let no : ◌≡◌ {A = Option ℕ} None (Some u) = for in cc)
  each-holds t u true alive for =
      let w = stuck t alive in
      told t u w.0 w.1 w.2 (sym (ap for_on w.1) ∙ for)

  -- whoever has claimed something waits for a conversion
  for-one : (t n : ℕ) (o : On) → IsClaimed es t n → recorded t ≡ Some o → HoldsWait plain s es t o
      → (u : ℕ) × (for_on (Some o) ≡ Some u)
  for-one t n (on.Conversion u) claimed at holds = (u, refl)
  for-one t n (on.Monitor u) claimed at holds = absurd (is.nothing t (on.Monitor u) at holds n claimed)
  for-one t n (on.Join u) claimed at holds = absurd (is.nothing t (on.Join u) at holds n claimed)
  for-one t n (on.Init u) claimed at holds = absurd (is.nothing t (on.Init u) at holds n claimed)

  at-live : (t : ℕ) (at : Option ℕ) → lives t ≡ true → for_on (recorded t) ≡ at → waits-for t ≡ at
  at-live t at alive for = ap (λ b. of_live b (recorded t)) alive ∙ for

  all-hold : AllHold s es waits-for
  all-hold = record {
    each = λ t u for. each-holds t u (lives t) refl for;
    claimers = λ t n claimed. (
        let c = is.claimers t n claimed in
        let w = stuck t c in
        let one = for-one t n w.0 claimed w.1 w.2 in
        (one.0, at-live t (Some one.0) c (ap for_on w.1 ∙ one.1)));
  }

  none : (t u : ℕ) → waits-for t ≡ Some u → ⊥
  none = conversions_never_stick s es waits-for agrees all-hold

  plainly : (t : ℕ) (o : On) → lives t ≡ true → recorded t ≡ Some o → HoldsWait plain s es t o
      → IsPlain o × (plain t ≡ Some o)
  plainly t (on.Conversion u) alive at holds = absurd (none t u (at-live t (Some u) alive (ap for_on at)))
  plainly t (on.Monitor u) alive at holds = (tt, holds)
  plainly t (on.Join u) alive at holds = (tt, holds)
  plainly t (on.Init u) alive at holds = (tt, holds)

pub stuck_runs_wait_plainly : StuckRunsWaitPlainly
stuck_runs_wait_plainly plain lives s es recorded agrees is stuck t alive =
    let w = stuck t alive in
    let p = plainly plain lives s es recorded agrees is stuck t w.0 alive w.1 w.2 in
    (w.0, w.1, p.0, p.1)
