-- Of each thread at most one store outside regions isn't fenced.
use Rattle.std.proofs.Common.{◌≡◌, ℕ, suc, ◌+◌, ◌≤◌, Bool, true, false, List, [], ◌∷◌, ◌++◌, refl, sym, ◌∙◌, subst, arith}
use Rattle.std.proofs.Common.{nat_eq, ◌||◌, if◌then◌else◌}
use Rattle.std.proofs.lemmas.Bool.{eqb-true, false≢true, eq-eqb}
use Rattle.ap_base.specs.declared.place.Place.{Place}
use Rattle.graph_model.specs.declared.types.Graph.{Graph}
use Rattle.graph_model.specs.Heaps.{has_number}
use Rattle.run_history.specs.declared.act.Op.{Op}
use Rattle.run_history.specs.declared.act.Op.TheVariants as op
use Rattle.run_history.specs.Recorded.{Recorded}
use Rattle.run_history.specs.Worlds.{depth_of}
use Rattle.run_history.specs.Knowing.{Fate, Sure, Open, Closing, Single, Mark, Knowledge, known_after_op, after_end}
use Rattle.run_history.specs.Knowing.{is_outermost, each_fate, fenced, closed, ended, is_single, fate_of, durable_at, Unfenced}
use Rattle.run_history.specs.Knowing.{owes_fence, without_fenced}
use Rattle.run_history.proofs.Grown.{owes_fence-without, store_fate-single}
use Rattle.plain_model.specs.Facts.{SetFacts}
use Rattle.plain_model.specs.Codes.{Code}
use Rattle.plain_model.specs.Runs.{IsPlainRun, known_of, is_fenced}
use Rattle.plain_model.specs.RunLaws.{is_single_of, singles}
use Rattle.plain_model.proofs.RunKeeps.{run_keeps}
use Rattle.plain_model.proofs.Depths.{one_if}

singles-push : (t : ℕ) (ms : List Mark) (m : Mark) → singles t (ms ++ m ∷ []) ≡ singles t ms + one_if
    (is_single_of t m.fate)
singles-push t [] m = elim (is_single_of t m.fate) as (λ b. (if b then 1 else 0)
    ≡ 0 + one_if b) [ true ↦ refl | false ↦ refl ]
singles-push t (x ∷ ms) m =
    let rest = singles-push t ms m in
    elim (is_single_of t x.fate) as
    (λ b. (if b then suc (singles t (ms ++ m ∷ [])) else singles t (ms ++ m ∷ []))
    ≡ (if b then suc (singles t ms) else singles t ms) + one_if (is_single_of t m.fate)) [
      | true ↦ omega (arith, rest)
      | false ↦ rest
    ]

-- a change of fates that keeps which are single stores of the thread
singles-each : (t : ℕ) (f : Fate → Fate) → ((fate : Fate) → is_single_of t (f fate) ≡ is_single_of t fate)
    → (ms : List Mark)
    → singles t (each_fate f ms) ≡ singles t ms
singles-each t f same [] = refl
singles-each t f same (m ∷ ms) = rw (same m.fate, singles-each t f same ms) refl

singles-none : (t : ℕ) (f : Fate → Fate) → ((fate : Fate) → is_single_of t (f fate) ≡ false)
    → (ms : List Mark)
    → singles t (each_fate f ms) ≡ 0
singles-none t f none [] = refl
singles-none t f none (m ∷ ms) = rw (none m.fate) (singles-none t f none ms)

if_single : (t : ℕ) (b : Bool) (x y : Fate) (is : Bool) → is_single_of t x ≡ is → is_single_of t y ≡ is
    → is_single_of t (if b then x else y) ≡ is
if_single t true x y is this that = this
if_single t false x y is this that = that

closed-single : (u t : ℕ) (fate : Fate) → is_single_of t (closed u fate) ≡ is_single_of t fate
closed-single u t Sure = refl
closed-single u t (Open v) = if_single t (nat_eq v u) (Closing v) (Open v) false refl refl
closed-single u t (Closing v) = refl
closed-single u t (Single v) = refl

ended-single : (u t : ℕ) (fate : Fate) → is_single_of t (ended u fate) ≡ is_single_of t fate
ended-single u t Sure = refl
ended-single u t (Open v) = if_single t (nat_eq v u) Sure (Open v) false refl refl
ended-single u t (Closing v) = if_single t (nat_eq v u) Sure (Closing v) false refl refl
ended-single u t (Single v) = refl

fenced-single : (u t : ℕ) → nat_eq t u ≡ false → (fate : Fate) → is_single_of t (fenced u fate)
    ≡ is_single_of t fate
fenced-single u t other Sure = refl
fenced-single u t other (Open v) = refl
fenced-single u t other (Closing v) = refl
fenced-single u t other (Single v) =
    elim (nat_eq v u) as (λ b. nat_eq v u ≡ b → is_single_of t (if b then Sure else Single v) ≡ nat_eq v t) [
      | true ↦ λ same. rw (eqb-true v u same) (sym (flipped u t other))
      | false ↦ λ differ. refl
    ] refl
  where
    flipped : (u t : ℕ) → nat_eq t u ≡ false → nat_eq u t ≡ false
    flipped u t other = elim (nat_eq u t) as (λ b. nat_eq u t ≡ b → b ≡ false) [
      | true ↦ λ same. absurd (false≢true (sym other ∙ eq-eqb t u (sym (eqb-true u t same))))
      | false ↦ λ differ. refl
    ] refl

fenced-own : (t : ℕ) (fate : Fate) → is_single_of t (fenced t fate) ≡ false
fenced-own t Sure = refl
fenced-own t (Open v) = refl
fenced-own t (Closing v) = refl
fenced-own t (Single v) = elim (nat_eq v t) as (λ b. nat_eq v t ≡ b
    → is_single_of t (if b then Sure else Single v) ≡ false) [
      | true ↦ λ same. refl
      | false ↦ λ differ. differ
    ] refl

owes-pushed : (us : List Unfenced) (new : Unfenced) (t : ℕ) → owes_fence us t ≡ true → owes_fence (us ++ new ∷ []) t ≡ true
owes-pushed [] new t has = absurd (false≢true has)
owes-pushed (u ∷ us) new t has = elim (nat_eq u.thread t) as (λ b. (b || owes_fence us t) ≡ true
    → (b || owes_fence (us ++ new ∷ []) t) ≡ true) [
      | true ↦ λ h. refl
      | false ↦ λ h. owes-pushed us new t h
    ] has

owes-own : (us : List Unfenced) (new : Unfenced) → owes_fence (us ++ new ∷ []) new.thread ≡ true
owes-own [] new = rw (eq-eqb new.thread new.thread refl) refl
owes-own (u ∷ us) new = elim (nat_eq u.thread new.thread) as (λ b. (b || owes_fence (us ++ new ∷ []) new.thread)
    ≡ true) [ true ↦ refl | false ↦ owes-own us new ]

abbrev stored_by : ℕ → Place → Unfenced
stored_by u place = record { thread = u; place = place }

abbrev Owed : List Unfenced → List Mark → Type 0
Owed unfenced ms = (t : ℕ) → singles t ms ≤ one_if (owes_fence unfenced t)

sure_owed : (unfenced : List Unfenced) (ms : List Mark) (o : Op) → Owed unfenced ms
    → Owed unfenced (ms ++ record { fate = Sure; op = o } ∷ [])
sure_owed unfenced ms o owed t =
    let more = singles-push t ms (record { fate = Sure; op = o }) in let was = owed t in
    omega (arith, more, was)

each_owed : (unfenced : List Unfenced) (ms : List Mark) (f : Fate → Fate)
    → ((t : ℕ) (fate : Fate) → is_single_of t (f fate) ≡ is_single_of t fate) → Owed unfenced ms
    → Owed unfenced (each_fate f ms)
each_owed unfenced ms f same owed t = rw (singles-each t f (same t) ms) (owed t)

stored_owed : (unfenced : List Unfenced) (ms : List Mark) (u : ℕ) (place : Place) (o : Op) (fate : Fate)
    → (is_single fate ≡ true → fate ≡ Single u)
    → owes_fence unfenced u ≡ false → Owed unfenced ms
    → Owed (if is_single fate then unfenced ++ stored_by u place ∷ [] else unfenced) (ms ++ record { fate = fate; op = o }
    ∷ [])
stored_owed unfenced ms u place o Sure own none owed t = sure_owed unfenced ms o owed t
stored_owed unfenced ms u place o (Open v) own none owed t =
    let more = singles-push t ms (record { fate = Open v; op = o }) in let was = owed t in
    omega (arith, more, was)
stored_owed unfenced ms u place o (Closing v) own none owed t =
    let more = singles-push t ms (record { fate = Closing v; op = o }) in let was = owed t in
    omega (arith, more, was)
stored_owed unfenced ms u place o (Single v) own none owed t =
    let is : Single v ≡ Single u = own refl in
    let same : v ≡ u = cc in
    rw (singles-push t ms (record { fate = Single v; op = o }), same)
    (elim (nat_eq u t) as (λ b. nat_eq u t ≡ b
    → singles t ms + one_if b ≤ one_if (owes_fence (unfenced ++ stored_by u place ∷ []) t)) [
      | true ↦ λ e.
          let was : singles t ms ≤ one_if (owes_fence unfenced t) = owed t in
          let nothing : owes_fence unfenced t ≡ false = subst (λ n. owes_fence unfenced n ≡ false)
          (eqb-true u t e) none in
          let zero_were : singles t ms ≤ 0 = rw nothing at was in
          let there : owes_fence (unfenced ++ stored_by u place ∷ []) t ≡ true =
          subst (λ n. owes_fence (unfenced ++ stored_by u place ∷ []) n ≡ true) (eqb-true u t e) (owes-own unfenced (stored_by u place)) in
          rw there (omega (arith, zero_were))
      | false ↦ λ e. still (owes_fence unfenced t) refl (owed t)
    ] refl)
  where
    still : (b : Bool) → owes_fence unfenced t ≡ b → singles t ms ≤ one_if b
        → singles t ms + 0 ≤ one_if (owes_fence (unfenced ++ stored_by u place ∷ []) t)
    still true has was = rw (owes-pushed unfenced (stored_by u place) t has) (omega (arith, was))
    still false has was = omega (arith, was)

fenced_owed : (unfenced : List Unfenced) (ms : List Mark) (u : ℕ) → Owed unfenced ms
    → Owed (without_fenced unfenced u) (each_fate (fenced u) ms)
fenced_owed unfenced ms u owed t = elim (nat_eq t u) as (λ b. nat_eq t u ≡ b
    → singles t (each_fate (fenced u) ms) ≤ one_if (owes_fence (without_fenced unfenced u) t)) [
      | true ↦ λ same.
          let none : singles u (each_fate (fenced u) ms) ≡ 0 = singles-none u (fenced u) (fenced-own u) ms in
          let own : singles t (each_fate (fenced u) ms) ≡ 0 =
          subst (λ n. singles n (each_fate (fenced u) ms) ≡ 0) (sym (eqb-true t u same)) none in
          omega (arith, own)
      | false ↦ λ other.
          rw (singles-each t (fenced u) (fenced-single u t other) ms, owes_fence-without unfenced u t other)
          (owed t)
    ] refl

end_owed : (known : Knowledge) (u : ℕ) (outermost : Bool) → Owed known.unfenced known.marks
    → Owed (after_end known u outermost).unfenced (after_end known u outermost).marks
end_owed known u true owed = sure_owed known.unfenced (each_fate (ended u) known.marks) op.End
    (each_owed known.unfenced known.marks (ended u) (λ t fate. ended-single u t fate) owed)
end_owed known u false owed = sure_owed known.unfenced known.marks op.End owed

abbrev OwedBy : Knowledge → Type 0
OwedBy known = Owed known.unfenced known.marks

owed_after : (known : Knowledge) (u : ℕ) (named : List ℕ) (o : Op) → is_fenced o ≡ owes_fence known.unfenced u
    → OwedBy known → OwedBy (known_after_op known u named o)
unfolding known_after_op
owed_after known u named op.Closing fence owed t = sure_owed known.unfenced
    (each_fate (closed u) known.marks) op.Closing
    (each_owed known.unfenced known.marks (closed u) (λ n fate. closed-single u n fate) owed) t
owed_after known u named op.Fenced fence owed t =
    sure_owed (without_fenced known.unfenced u) (each_fate (fenced u) known.marks) op.Fenced
    (fenced_owed known.unfenced known.marks u owed) t
owed_after known u named (op.Stored place value) fence owed t =
    stored_owed known.unfenced known.marks u place (op.Stored place value) (fate_of known u place)
    (store_fate-single u (durable_at known place) (depth_of known.world u) (has_number known.closing u))
    (sym fence) owed t
owed_after known u named op.End fence owed t = end_owed known u (is_outermost known u) owed t
owed_after known u named o fence owed t = sure_owed known.unfenced known.marks o owed t

at_most_one : (b : Bool) (n : ℕ) → n ≤ one_if b → n ≤ 1
at_most_one true n less = less
at_most_one false n less = omega (arith, less)

module _ (set : SetFacts) (main : ℕ) (opening : Graph) {Frames : Type 0}
    (code : Code set main opening Frames) where
  pub one_store_is_unfenced : (acts : List Recorded) (t : ℕ) → IsPlainRun set main opening code acts
      → singles t (known_of set main opening code acts).marks ≤ 1
  one_store_is_unfenced acts t run =
      let known = known_of set main opening code acts in
      at_most_one (owes_fence known.unfenced t) (singles t known.marks)
      (run_keeps set main opening code (λ k before. OwedBy k)
      (λ k frames Now before a may owed. owed_after k a.act.thread a.named a.act.op may.fence owed)
      (λ u. omega arith) acts run t)
