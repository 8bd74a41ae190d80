-- The heads of objects tell how many lines they have.
use Rattle.std.proofs.Common.{◌≡◌, inl, inr, ℕ, ◌+◌, ◌*◌, ◌/◌, ◌<◌, List, length, refl, sym, ◌∙◌, ap, subst, arith}
use Rattle.std.specs.Prelude.{◌^◌, slice_index}
use Rattle.twin_forms.specs.Table.{Entry, entry, Lies, lines_of, InP}
use Rattle.twin_forms.specs.Moves.{SameHeap}
use Rattle.twin_forms.specs.Sights.{Twin, view_of}
use Rattle.twin_forms.proofs.Led.{same_or_not, odd_old}
use Rattle.convert_words.specs.declared.step.ConvertStep.{ConvertStep}
use Rattle.convert_words.specs.declared.step.ConvertStep.TheVariants as step
use Rattle.convert_words.specs.Scenes.{Scene}
use Rattle.convert_words.specs.Converting.{Says}
use Rattle.convert_words.proofs.Basics.{young}
use Rattle.converter.specs.Laws.{Tells}
use Rattle.machine_laws.proofs.AskTables.{same-durable}
use Rattle.machine_ends.specs.Work.{lines_at}

module _ (heap : Twin) (es : List Entry) (h : Lies (view_of heap) es) where
  -- an object of the space has its head there
  pub told-lines : (n : ℕ) → n < length es → (entry es n).stage < 3
      → lines_at heap.space (entry es n).at ≡ lines_of (entry es n)
  told-lines n there old =
      let head = (h.sits n there).head old in
      let shape = h.table.shape_in n there in
      let few = h.table.few_shapes in
      let half : slice_index heap.space.words ((entry es n).at + 1) / 2 ^ 32 ≡ (entry es n).slots
      = omega (arith, head, shape, few) in
      ap (λ k. k / 8 + 1) half

  pub tells : Tells (lines_at heap.space) es
  tells t n c = told-lines n c.0 (young (view_of heap) es t n h c)

  -- They tell so of objects that are claimed later, while what is durable stays so.
  pub tells-after : (heap' : Twin) (es' : List Entry) → SameHeap (view_of heap) es (view_of heap') es'
      → ((n : ℕ) → InP es n → InP es' n) → Tells (lines_at heap.space) es'
  tells-after heap' es' shows keeps t n c =
      let there : n < length es = (let lt = c.0 in let long = shows.long in omega (arith, lt, long)) in
      let old : (entry es n).stage < 3 = elim (same_or_not (entry es n).stage 3) [
        | inr other ↦ (let most = h.table.stages n there in omega (arith, most, other))
        | inl three ↦ absurd (
            let p = keeps n (there, omega (arith, three), h.table.born n there three) in
            let free = p.2 in
            let own = c.1 in
            omega (arith, free, own))
      ] in
      let at = (odd_old (entry es' n) (entry es n).at
      (shows.led n (2 * (entry es n).at + 1) there (inl (old, refl)))).1 in
      ap (lines_at heap.space) at ∙ told-lines n there old
      ∙ sym (ap (λ k. k / 8 + 1) (shows.slots n there))

-- ---- what is durable stays so

module _ (t : ℕ) (s s' : Scene) (es es' : List Entry) (h : Lies (view_of s.heap) es)
    (h' : Lies (view_of s'.heap) es') where
  -- two tables of one scene
  durable-still : s' ≡ s → (n : ℕ) → InP es n → InP es' n
  durable-still same n p = same-durable (view_of s.heap) es es' h
      (subst (λ (x : Scene). Lies (view_of x.heap) es') same h') n p

  pub durable-after : (answer : ConvertStep) → Says answer t s s' es es' → (n : ℕ) → InP es n → InP es' n
  durable-after (step.Sealed set) says n p = (says.durable n).1 (inl p)
  durable-after (step.Wait u) says n p = durable-still says.1 n p
  durable-after (step.Full need left) says n p = durable-still says.1 n p
  durable-after step.Claimed says n p = (says.1 n).1 p
  durable-after step.Touched says n p = (says.1.0 n).1 p
  durable-after step.WroteBack says n p = (says.1.0 n).1 p
  durable-after step.Fenced says n p = (says.1.0 n).1 p
  durable-after step.CopiedLine says n p = (says.1.0 n).1 p
  durable-after step.Forwarded says n p = (says.1.0 n).1 p
  durable-after step.Repaired says n p = (says.1.0 n).1 p
