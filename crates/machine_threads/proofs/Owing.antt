-- A thread that owes a fence has no region open, so nothing is under way in its log.
use Rattle.std.proofs.Common.{◌≡◌, ◌⊎◌, inl, inr, ℕ, zero, suc, ◌<◌, Bool, true, false, List, [], ◌∷◌, ◌++◌, refl, sym, ◌∙◌}
use Rattle.std.proofs.Common.{ap, subst, arith, nat_eq, not, ◌&&◌, ◌||◌, cond, if◌then◌else◌}
use Rattle.std.proofs.lemmas.Bool.{eqb-true, false≢true}
use Rattle.run_history.specs.declared.act.Op.{Op}
use Rattle.run_history.specs.declared.act.Op.TheVariants as op
use Rattle.run_history.specs.Recorded.{Recorded}
use Rattle.run_history.specs.Worlds.{depth_of}
use Rattle.graph_model.specs.Heaps.{has_number}
use Rattle.run_history.specs.Knowing.{Knowledge, Unfenced, after_end, durable_at, fate_of, is_outermost, is_single}
use Rattle.run_history.specs.Knowing.{known_after_op, owes_fence, store_fate, without_fenced}
use Rattle.plain_model.specs.RunLaws.{is_begin}
use Rattle.plain_model.specs.Runs.{is_fenced}
use Rattle.plain_model.proofs.Depths.{DepthAfter, act_depth, one_if}
use Rattle.plain_model.proofs.RunKeeps.{run_keeps}
use Rattle.run_forms.specs.Standing.{IsRun, Launch, known_at, plain_code}
use Rattle.region_log.specs.declared.entry.Underway.TheVariants.{Nothing as Idle}
use Rattle.twin_forms.specs.Table.{Entry}
use Rattle.machine_ends.specs.Passed.{Fencing}
use Rattle.machine_ends.specs.Passed.{Opening, Machine, known_in, layout_in, doing_of, log_of}
use Rattle.machine_ends.specs.Passed.{IsDoing, KeepsRun}
use Rattle.machine_ends.proofs.Passed.{owes_some}

-- ---- what is owed after an act

owed-pushed : (us : List Unfenced) (x : Unfenced) (t : ℕ) → owes_fence (us ++ x ∷ []) t ≡ true
    → (owes_fence us t ≡ true) ⊎ (nat_eq x.thread t ≡ true)
owed-pushed [] x t owes = elim (nat_eq x.thread t) as (λ b. (b || false) ≡ true → (false ≡ true) ⊎ (b ≡ true))
    [ true ↦ λ e. inr refl | false ↦ λ e. absurd (false≢true e) ] owes
owed-pushed (u ∷ us) x t owes = elim (nat_eq u.thread t) as (λ b. (b || owes_fence (us ++ x ∷ []) t) ≡ true
    → ((b || owes_fence us t) ≡ true) ⊎ (nat_eq x.thread t ≡ true))
    [ true ↦ λ e. inl refl | false ↦ λ e. owed-pushed us x t e ] owes

or-later : (b c : Bool) → c ≡ true → (b || c) ≡ true
or-later true c is = refl
or-later false c is = is

or-either : (b c d : Bool) → (c ≡ true → d ≡ true) → (b || c) ≡ true → (b || d) ≡ true
or-either true c d goes is = refl
or-either false c d goes is = goes is

owed-filtered : (us : List Unfenced) (n t : ℕ) → owes_fence (without_fenced us n) t ≡ true → owes_fence us t ≡ true
owed-filtered [] n t owes = owes
owed-filtered (u ∷ us) n t owes = elim (nat_eq u.thread n) as
    (λ c. owes_fence (cond (not c) (u ∷ without_fenced us n) (without_fenced us n)) t ≡ true
    → (nat_eq u.thread t || owes_fence us t) ≡ true) [
      | true ↦ λ e. or-later (nat_eq u.thread t) (owes_fence us t) (owed-filtered us n t e)
      | false ↦ λ e. or-either (nat_eq u.thread t) (owes_fence (without_fenced us n) t) (owes_fence us t)
          (λ rest. owed-filtered us n t rest) e
    ] owes

single-outside : (t : ℕ) (durable : Bool) (depth : ℕ) (closing : Bool)
    → is_single (store_fate t durable depth closing) ≡ true → depth ≡ 0
single-outside t false depth closing e = absurd (false≢true e)
single-outside t true zero closing e = refl
single-outside t true (suc depth) true e = absurd (false≢true e)
single-outside t true (suc depth) false e = absurd (false≢true e)

unfenced-end : (known : Knowledge) (t : ℕ) (outermost : Bool) → (after_end known t outermost).unfenced ≡ known.unfenced
unfenced-end known t true = refl
unfenced-end known t false = refl

module _ (known : Knowledge) (u : ℕ) (named : List ℕ) (t : ℕ) where
  -- It was owed before, or the act is a store outside regions.
  abbrev Was : Op → Type 0
  Was o = (owes_fence known.unfenced t ≡ true) ⊎ ((is_begin o ≡ false) × (depth_of known.world t ≡ 0))

  was : (o : Op) → owes_fence (known_after_op known u named o).unfenced t ≡ true → Was o
  unfolding known_after_op
  was op.Fenced owes = inl (owed-filtered known.unfenced u t owes)
  was (op.Stored place value) owes = by (is_single (fate_of known u place)) refl owes
    where
      by : (single : Bool) → is_single (fate_of known u place) ≡ single
          → owes_fence (if single then known.unfenced ++ record { thread = u; place = place } ∷ [] else known.unfenced) t
          ≡ true → Was (op.Stored place value)
      by false is owes = inl owes
      by true is owes = elim (owed-pushed known.unfenced (record { thread = u; place = place }) t owes) [
        | inl before ↦ inl before
        | inr own ↦ inr (
          refl,
          ap (depth_of known.world) (sym (eqb-true u t own))
              ∙ single-outside u (durable_at known place) (depth_of known.world u) (has_number known.closing u) is,
        )
      ]
  was op.End owes = inl (ap (λ us. owes_fence us t) (sym (unfenced-end known u (is_outermost known u))) ∙ owes)
  was o owes = inl owes

  -- an act that isn't the thread's Begin takes it into no region
  stays-outside : (o : Op) → DepthAfter known u named o t → (nat_eq u t && is_begin o) ≡ false
      → depth_of known.world t ≡ 0 → depth_of (known_after_op known u named o).world t ≡ 0
  stays-outside o depth none outside =
      let none_more : one_if (nat_eq u t && is_begin o) ≡ 0 = ap one_if none in
      omega (arith, depth, none_more, outside)

  -- whoever owes a fence begins no region
  begins-none : (o : Op) → is_fenced o ≡ owes_fence known.unfenced u → owes_fence known.unfenced t ≡ true
      → (nat_eq u t && is_begin o) ≡ false
  begins-none op.Begin fence owes = elim (nat_eq u t) as (λ b. nat_eq u t ≡ b → (b && true) ≡ false) [
    | true ↦ λ own. absurd (false≢true (fence ∙ ap (owes_fence known.unfenced) (eqb-true u t own) ∙ owes))
    | false ↦ λ other. refl
  ] refl
  begins-none o fence owes = elim (nat_eq u t) as (λ b. (b && false) ≡ false) [ true ↦ refl | false ↦ refl ]

-- ---- so it is after each run

abbrev OwesOutside : Knowledge → Type 0
OwesOutside known = (t : ℕ) → owes_fence known.unfenced t ≡ true → depth_of known.world t ≡ 0

module _ (launch : Launch) where
  owed-outside : (acts : List Recorded) → IsRun launch acts → OwesOutside (known_at launch acts)
  owed-outside acts run = run_keeps launch.set launch.main launch.opening (plain_code launch)
      (λ known before. OwesOutside known)
      (λ known frames Now before a may all t owes.
      let depth = act_depth launch.set launch.main launch.opening (plain_code launch) known frames Now a may t in
      elim (was known a.act.thread a.named t a.act.op owes) [
        | inl before ↦ stays-outside known a.act.thread a.named t a.act.op depth
            (begins-none known a.act.thread a.named t a.act.op may.fence before) (all t before)
        | inr stored ↦ stays-outside known a.act.thread a.named t a.act.op depth
            (no-begin (nat_eq a.act.thread t) (is_begin a.act.op) stored.0) stored.1
      ]) (λ t owes. absurd (false≢true owes)) acts run
    where
      no-begin : (own begin : Bool) → begin ≡ false → (own && begin) ≡ false
      no-begin true begin none = none
      no-begin false begin none = refl

-- ---- of a machine

-- While its durable store is fenced nothing is under way in a thread's log.
pub fencing-idle : (o : Opening) (t : ℕ) (m : Machine) (es : List Entry) → KeepsRun o m es → IsRun o.launch m.acts
    → t < 64 → doing_of m t ≡ Fencing → (log_of m t).underway ≡ Idle
fencing-idle o t m es k run below fencing =
    let owed = (subst (IsDoing (known_in o m) (layout_in o es) t) fencing (k.asked.doing t)).1 in
    let owes : owes_fence (known_in o m).unfenced t ≡ true = owes_some (known_in o m).unfenced t owed.0 owed.1 in
    let log = k.asked.regions.each t below in
    (log.guards.outside (log.guards.depth ∙ ap (depth_of (known_in o m).world) log.thread
    ∙ owed-outside o.launch m.acts run t owes)).1
