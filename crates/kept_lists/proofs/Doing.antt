-- Kept operations one after another.
use Rattle.std.proofs.Common.{◌≡◌, ℕ, zero, suc, ◌+◌, ◌<◌, ◌≤◌, Bool, true, false, List, [], ◌∷◌, map, length, drop, get_or, Option, Some, None, refl, sym, ◌∙◌, ap, subst, arith, if◌then◌else◌}
use Rattle.std.specs.Prelude.{slice_get}
use Rattle.graph_model.specs.declared.types.Heap.{Heap}
use Rattle.run_history.specs.declared.act.Act.{Act}
use Rattle.run_history.specs.declared.act.Op.{Op}
use Rattle.run_history.specs.Recorded.{Recorded}
use Rattle.run_history.specs.Worlds.{fits, heap_after, heap_after_op}
use Rattle.run_history.specs.Knowing.{Fate, Mark}
use Rattle.run_history.specs.Kept.{kept, survives}
use Rattle.kept_lists.specs.declared.doubts.Doubt.{Doubt}
use Rattle.kept_lists.specs.declared.doubts.Doubt.TheVariants as doubt
use Rattle.kept_lists.specs.declared.doubts.Last.{Last}
use Rattle.kept_lists.specs.Doubts.{fate_now, last_of, marks_from}
use Rattle.audit_verdicts.specs.Picked.{has_bit, kept_by}
use Rattle.kept_lists.specs.Fitting.{FitEach}

abbrev pub mark_at : List Last → Act → ℕ → Doubt → Mark
mark_at lasts a k d = record { fate = fate_now (last_of lasts a.thread) k a.thread d; op = a.op }

-- the marks from act j on
pub marks-drop : (lasts : List Last) (i j k : ℕ) (xs : List Recorded) (ds : List Doubt) (a : Act) → slice_get (map (λ (r : Recorded). r.act) xs) j ≡ Some a
    → length ds ≡ length xs → k ≡ i + j
    → drop j (marks_from lasts i xs ds) ≡ mark_at lasts a k (get_or ds j doubt.Never) ∷ drop (suc j) (marks_from lasts i xs ds)
marks-drop lasts i j k [] ds a is long at = absurd (none j is)
  where
    none : (n : ℕ) → slice_get (map (λ (r : Recorded). r.act) []) n ≡ Some a → ⊥
    none zero e = let no : None ≡ Some a = e in cc
    none (suc n) e = let no : None ≡ Some a = e in cc
marks-drop lasts i j k (b ∷ xs) [] a is long at = absurd (omega (arith, long))
marks-drop lasts i zero k (b ∷ xs) (d ∷ ds) a is long at =
    let same : b.act ≡ a = (let e : Some b.act ≡ Some a = is in cc) in
    let here : k ≡ i = omega (arith, at) in
    ap (λ x. mark_at lasts x i d ∷ marks_from lasts (suc i) xs ds) same
    ∙ ap (λ n. mark_at lasts a n d ∷ marks_from lasts (suc i) xs ds) (sym here)
marks-drop lasts i (suc j) k (b ∷ xs) (d ∷ ds) a is long at = marks-drop lasts (suc i) j k xs ds a is (omega (arith, long)) (omega (arith, at))

module _ (keep : ℕ) (marks : List Mark) (m : Mark) (rest : List Mark) (heap goal : Heap) (is : marks ≡ m ∷ rest) where
  -- the next operation is kept
  pub kept-yes : survives (has_bit keep) (has_bit keep) m.fate ≡ true → FitEach heap (kept_by keep marks) → heap_after heap (kept_by keep marks) ≡ goal
      → (fits heap m.op ≡ true) × FitEach (heap_after_op heap m.op) (kept_by keep rest) × (heap_after (heap_after_op heap m.op) (kept_by keep rest) ≡ goal)
  kept-yes e fit so =
      let same : kept_by keep marks ≡ m.op ∷ kept_by keep rest = ap (kept_by keep) is ∙ ap (λ b. if b then m.op ∷ kept_by keep rest else kept_by keep rest) e in
      let fit_now = subst (FitEach heap) same fit in
      (fit_now.0, fit_now.1, sym (ap (heap_after heap) same) ∙ so)

  -- or it isn't
  pub kept-no : survives (has_bit keep) (has_bit keep) m.fate ≡ false → FitEach heap (kept_by keep marks) → heap_after heap (kept_by keep marks) ≡ goal
      → FitEach heap (kept_by keep rest) × (heap_after heap (kept_by keep rest) ≡ goal)
  kept-no e fit so =
      let same : kept_by keep marks ≡ kept_by keep rest = ap (kept_by keep) is ∙ ap (λ b. if b then m.op ∷ kept_by keep rest else kept_by keep rest) e in
      (subst (FitEach heap) same fit, sym (ap (heap_after heap) same) ∙ so)

pub no-act : (xs : List Recorded) (i : ℕ) → slice_get (map (λ (r : Recorded). r.act) xs) i ≡ None → i < length xs → ⊥
no-act [] i is lt = omega (arith, lt)
no-act (b ∷ xs) zero is lt = let no : Some b.act ≡ None = is in cc
no-act (b ∷ xs) (suc i) is lt = no-act xs i is (omega (arith, lt))

pub drop-past : (ms : List Mark) (n : ℕ) → length ms ≤ n → drop n ms ≡ []
drop-past [] zero le = refl
drop-past [] (suc n) le = refl
drop-past (m ∷ ms) zero le = absurd (omega (arith, le))
drop-past (m ∷ ms) (suc n) le = drop-past ms n (omega (arith, le))

pub marks-length : (lasts : List Last) (i : ℕ) (xs : List Recorded) (ds : List Doubt) → length ds ≡ length xs → length (marks_from lasts i xs ds) ≡ length xs
marks-length lasts i [] ds long = refl
marks-length lasts i (a ∷ xs) [] long = absurd (omega (arith, long))
marks-length lasts i (a ∷ xs) (d ∷ ds) long = ap suc (marks-length lasts (suc i) xs ds (omega (arith, long)))
