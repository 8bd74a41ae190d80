-- A fence was made: the stores of the threads that waited for it are kept.
use Rattle.stop_theorem.proofs.Acting.{order_by}
use Rattle.std.proofs.Common.{◌≡◌, inl, inr, ⊎_elim, ℕ, true, [], ◌∷◌, Option, Some, None, refl, sym, subst, slice_index}
use Rattle.graph_model.specs.declared.types.Heap.{Heap}
use Rattle.line_image.specs.Trace.{Trace, Outcome, MayLeave, newest, versions, did}
use Rattle.line_image.specs.declared.effect.Done.TheVariants.{Fenced}
use Rattle.line_memory.specs.Memory.{Memory, shown, CanLeaveAll, MadeFence, ReadsWord}
use Rattle.run_history.specs.declared.act.Op.TheVariants as op
use Rattle.run_history.specs.Knowing.{Knowledge, next_known, Sure, known_after_op, fenced, each_fate}
use Rattle.stop_theorem.specs.Orderly.{IsOrderly, LosesStores}
use Rattle.stop_theorem.specs.Choices.{Threads, NoThread, without_thread}
use Rattle.run_history.proofs.Sizes.{sizes_refl}
use Rattle.stop_theorem.proofs.Having.{having_fenced}
use Rattle.stop_theorem.proofs.Marks.{all_front, all_sure, all_each, fenced_kept}
use Rattle.stop_theorem.specs.Stops.{IsAfterFence, Stands, named_in, regions_of, keeps_of, IsCovered}
use Rattle.stop_theorem.specs.Layouts.{Layout, place_line, place_word, SamePlaces}
use Rattle.stop_theorem.proofs.Places.{keeps_same, covered_act, stands_act}
use Rattle.stop_theorem.proofs.Acting.{changed, keeps_more, act_of, without_fewer, none_fewer}
use Rattle.stop_theorem.specs.StoreLaws.{FencesKeep}

-- after a fence a stop leaves what a read gives, or what is shown later
pub after_fence : (old new : Memory) (c : Outcome) → MadeFence old new → CanLeaveAll new c
    → IsAfterFence new c
after_fence old new c made left l w below =
    ⊎_elim (λ (is : c l w ≡ shown new l w). inl is)
    (λ (may : MayLeave new.image.trace l w (c l w)). inr (subst (λ o. ReadsWord o l w (c l w)) (sym made)
    (by_history old.image.trace (subst (λ o. MayLeave o l w (c l w)) made may))))
    (left l w)
  where
    by_history : (o : Option Trace) → MayLeave (did Fenced new.image.calls o) l w (c l w)
        → ReadsWord (did Fenced new.image.calls o) l w (c l w)
    by_history None may = tt
    by_history (Some h) may = ⊎_elim (λ (is : c l w ≡ slice_index (newest (versions h l)) w). is)
        (λ no. absurd no) may

module _ (first : Heap) (known : Knowledge) (lay : Layout) (m : Memory) where
  -- A fence was made, and then thread t's store is fenced.
  pub stands_fenced : (Waits : Threads) (t at : ℕ) → Stands first known lay Waits m
      → IsOrderly first (next_known known (act_of t at op.Fenced [])) → Waits t ≡ true
      → ((c : Outcome) → CanLeaveAll m c → IsAfterFence m c)
      → Stands first (next_known known (act_of t at op.Fenced [])) lay (without_thread t Waits) m
  unfolding known_after_op
  stands_fenced Waits t at s orderly waits made =
      let next = next_known known (act_of t at op.Fenced []) in
      let same : SamePlaces known next = record { durable = refl; sizes = sizes_refl known.world.heap } in
      let places = keeps_same lay known next same in
      let lost = all_front LosesStores (each_fate (fenced t) known.marks)
      (record { fate = Sure; op = op.Fenced } ∷ []) orderly.lost in
      let to : (K' : Threads) → ((u : ℕ) → K' u ≡ true → Waits u ≡ true) → (c : Outcome)
      → IsCovered first known lay Waits c → IsCovered first next lay K' c = λ K' fewer c covered.
      covered_act first known next lay Waits K' c places (λ p u line word old guard below is. guard)
      (λ p is none free. all_sure (regions_of c) p op.Fenced (each_fate (fenced t) known.marks)
      (all_each (regions_of c) p (fenced t) (fenced_kept t (regions_of c)) known.marks free))
      (λ p v is has.
      changed first known lay m (regions_of c) Waits K' (fenced t) op.Fenced p v
      (named_in c (place_line lay known.world.heap p)
      (place_word known.world.heap p)) s.orderly lost is refl fewer
      (having_fenced first known.marks (regions_of c)
      (keeps_of Waits (named_in c (place_line lay known.world.heap p) (place_word known.world.heap p))) p v t
      (keeps_more Waits (named_in c (place_line lay known.world.heap p)
      (place_word known.world.heap p)) t waits) has))
      covered in
      stands_act first known next lay Waits (without_thread t Waits) m places s orderly s.shows
      (λ c left covered. to NoThread (none_fewer Waits) c (s.fenced c left (made c left)))
      (λ c left after covered. to (without_thread t Waits) (without_fewer t Waits) c covered)

pub fences_keep : FencesKeep
fences_keep first known lay Waits m t at s waits made = stands_fenced first known lay m Waits t at s
    (order_by first known t at [] op.Fenced s.orderly tt) waits made
