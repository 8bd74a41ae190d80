-- Kept lists fit.
use Rattle.std.proofs.Common.{◌≡◌, ℕ, suc, Bool, true, false, List, [], ◌∷◌, ◌++◌, length, refl, sym, ◌∙◌, ap, subst, arith, if◌then◌else◌}
use Rattle.graph_model.specs.declared.types.Heap.{Heap}
use Rattle.graph_model.specs.declared.types.Shape.{Shape}
use Rattle.graph_model.specs.Heaps.{IsSound, shape_at}
use Rattle.run_history.specs.declared.act.Op.{Op}
use Rattle.run_history.specs.declared.act.Op.TheVariants as op
use Rattle.run_history.specs.Recorded.{Recorded}
use Rattle.run_history.specs.Sizes.{SameSizes}
use Rattle.run_history.specs.Worlds.{fits, has_place, heap_after, heap_after_op}
use Rattle.run_history.specs.Knowing.{Fate, Sure, Mark, Knowledge, known_after}
use Rattle.run_history.specs.Kept.{kept, survives}
use Rattle.run_history.proofs.CheckedHeaps.{checked-sound}
use Rattle.run_history.proofs.Sizes.{same_has, sizes_op, sizes_refl, sizes_sym, sizes_trans, stored-sizes}
use Rattle.kept_lists.specs.declared.doubts.Doubt.{Doubt}
use Rattle.kept_lists.specs.declared.doubts.Doubt.TheVariants as doubt
use Rattle.kept_lists.specs.declared.doubts.Last.{Last}
use Rattle.kept_lists.specs.declared.doubts.Doubts.{Doubts}
use Rattle.kept_lists.specs.Doubts.{StandsFor, fate_now, last_of, marks_from}
use Rattle.audit_verdicts.specs.Picked.{has_bit, kept_by}
use Rattle.kept_lists.specs.Fitting.{AreOfStores, FitEach, IsOfStore, ops_of}

-- what fits one heap fits another of the same sizes
fits-alike : (h k : Heap) (o : Op) → SameSizes h k → fits k o ≡ fits h o
fits-alike h k (op.Alloc n shape count) s = rw (s.shapes, s.objects) refl
fits-alike h k (op.Throw n class) s = rw (s.shapes, s.objects) refl
fits-alike h k (op.Stored place value) s = rw (same_has h k place s, s.objects) refl
fits-alike h k o s = refl

module _ (lasts : List Last) (keep : ℕ) where
  abbrev left : ℕ → List Recorded → List Doubt → List Op
  left i xs ds = kept_by keep (marks_from lasts i xs ds)

  -- a dropped act is a store
  dropped : (last : Last) (i t : ℕ) (o : Op) (d : Doubt) (h k : Heap) → IsOfStore o d → SameSizes h k
      → survives (has_bit keep) (has_bit keep) (fate_now last i t d) ≡ false → SameSizes (heap_after_op h o) k
  dropped last i t (op.Stored place value) d h k of s e = sizes_trans (sizes_sym (stored-sizes h place value)) s
  dropped last i t o doubt.Never h k of s e = absurd (let no : true ≡ false = e in cc)
  dropped last i t o d h k of s e = absurd of

  pub left-fits : (i : ℕ) (xs : List Recorded) (ds : List Doubt) (h k : Heap) → AreOfStores xs ds → SameSizes h k → FitEach h (ops_of xs) → FitEach k (left i xs ds)
  left-fits i [] ds h k of s fit = tt
  left-fits i (a ∷ xs) [] h k of s fit = tt
  left-fits i (a ∷ xs) (d ∷ ds) h k of s fit =
      elim (survives (has_bit keep) (has_bit keep) (fate_now (last_of lasts a.act.thread) i a.act.thread d)) as (λ b.
      survives (has_bit keep) (has_bit keep) (fate_now (last_of lasts a.act.thread) i a.act.thread d) ≡ b
      → FitEach k (if b then a.act.op ∷ left (suc i) xs ds else left (suc i) xs ds)) [
        | true ↦ λ e. (
          fits-alike h k a.act.op s ∙ fit.0,
          left-fits (suc i) xs ds (heap_after_op h a.act.op) (heap_after_op k a.act.op) of.1 (sizes_op a.act.op h k s) fit.1,
        )
        | false ↦ λ e. left-fits (suc i) xs ds (heap_after_op h a.act.op) k of.1
            (dropped (last_of lasts a.act.thread) i a.act.thread a.act.op d h k of.0 s e) fit.1
      ] refl

pub kept-lists-fit : (first : Knowledge) (acts : List Recorded) (d : Doubts) (keep : ℕ) → StandsFor first acts d → AreOfStores acts d.doubts.items
    → FitEach first.world.heap (ops_of acts) → FitEach first.world.heap (kept_by keep (known_after first acts).marks)
kept-lists-fit first acts d keep s of fit =
    subst (λ ms. FitEach first.world.heap (kept_by keep ms)) (sym s.marks)
    (left-fits d.lasts.items keep 0 acts d.doubts.items first.world.heap first.world.heap of (sizes_refl first.world.heap) fit)

pub fitting-sound : (heap : Heap) (os : List Op) → IsSound heap → FitEach heap os → IsSound (heap_after heap os)
fitting-sound heap [] sound fit = sound
fitting-sound heap (o ∷ os) sound fit = fitting-sound (heap_after_op heap o) os
    (subst (λ b. IsSound (if b then heap_after_op heap o else heap)) fit.0 (checked-sound heap o sound)) fit.1
