-- A region becomes closing, and ends.
use Rattle.std.proofs.Common.{◌≡◌, inl, inr, ℕ, ◌==◌, true, false, [], ◌∷◌, Some, None, refl, sym, ◌∙◌, ap, subst, nat_eq}
use Rattle.std.proofs.Common.{nat_lt}
use Rattle.std.proofs.lemmas.Bool.{cases_Bool, eqb-true, and_parts}
use Rattle.graph_model.specs.declared.types.Heap.{Heap}
use Rattle.line_image.specs.Trace.{Outcome}
use Rattle.line_memory.specs.Memory.{Memory, CanLeaveAll}
use Rattle.image_layout.specs.Places.{logs}
use Rattle.image_meaning.specs.Logs.{log_count, log_of, first_logged, old_word}
use Rattle.run_history.specs.declared.act.Op.TheVariants as op
use Rattle.run_history.specs.Knowing.{Sure, Knowledge, closed, ended, each_fate, is_outermost, known_after_op, next_known}
use Rattle.run_history.specs.Knowing.{after_end}
use Rattle.run_history.proofs.KeptLists.{OfEach}
use Rattle.stop_theorem.specs.Choices.{Threads, NoThread}
use Rattle.stop_theorem.specs.Orderly.{LosesStores, IsOrderly, NotOpen}
use Rattle.run_history.proofs.Sizes.{sizes_refl}
use Rattle.stop_theorem.proofs.Having.{having_closed, having_ended}
use Rattle.stop_theorem.proofs.Marks.{all_front, all_sure, all_each, closed_kept, ended_kept, still_guarded_by}
use Rattle.stop_theorem.specs.Layouts.{Layout, place_line, place_word, SamePlaces}
use Rattle.stop_theorem.specs.Stops.{regions_of, named_in, keeps_of, IsCovered, Stands}
use Rattle.stop_theorem.proofs.Places.{keeps_same, covered_act, stands_act}
use Rattle.stop_theorem.proofs.Acting.{changed, act_of}

module _ (first : Heap) (known : Knowledge) (lay : Layout) (m : Memory) where
  -- The region of thread t becomes closing, while its log counts entries.
  pub stands_closing : (Waits : Threads) (t at : ℕ) → Stands first known lay Waits m
      → IsOrderly first (next_known known (act_of t at op.Closing []))
      → ((c : Outcome) → CanLeaveAll m c → regions_of c t ≡ false)
      → Stands first (next_known known (act_of t at op.Closing [])) lay Waits m
  unfolding known_after_op
  stands_closing Waits t at s orderly counts =
      let next = next_known known (act_of t at op.Closing []) in
      let same : SamePlaces known next = record { durable = refl; sizes = sizes_refl known.world.heap } in
      let places = keeps_same lay known next same in
      let lost = all_front LosesStores (each_fate (closed t) known.marks)
      (record { fate = Sure; op = op.Closing } ∷ []) orderly.lost in
      let to : (K : Threads) (c : Outcome) → regions_of c t ≡ false → IsCovered first known lay K c
      → IsCovered first next lay K c = λ K c kept covered.
      covered_act first known next lay K K c places (λ p u line word old guard below is. guard)
      (λ p is none free. all_sure (regions_of c) p op.Closing (each_fate (closed t) known.marks)
      (all_each (regions_of c) p (closed t) (closed_kept t (regions_of c)) known.marks free))
      (λ p v is has.
      changed first known lay m (regions_of c) K K (closed t) op.Closing p v
      (named_in c (place_line lay known.world.heap p) (place_word known.world.heap p)) s.orderly lost is refl
      (λ u e. e)
      (having_closed first known.marks (regions_of c)
      (keeps_of K (named_in c (place_line lay known.world.heap p)
      (place_word known.world.heap p))) p v t kept has))
      covered in
      stands_act first known next lay Waits Waits m places s orderly s.shows
      (λ c left covered. to NoThread c (counts c left) covered)
      (λ c left after covered. to Waits c (counts c left) covered)

  no_log : (c : Outcome) (t line word old : ℕ) → regions_of c t ≡ true
      → old_word (log_of c t) line word ≡ Some old → ⊥
  no_log c t line word old is some =
      let none : log_count c t ≡ 0 = eqb-true (log_count c t) 0
      (and_parts (nat_lt t logs) (log_count c t == 0) is).1 in
      let wrong : None ≡ Some old = sym (ap (λ k. old_word (first_logged c t k) line word) none) ∙ some in cc

  -- The region of thread t ends, once its log counts nothing.
  pub stands_end : (Waits : Threads) (t at : ℕ) → Stands first known lay Waits m
      → IsOrderly first (next_known known (act_of t at op.End []))
      → is_outermost known t ≡ true → OfEach (NotOpen t) known.marks
      → ((c : Outcome) → CanLeaveAll m c → regions_of c t ≡ true)
      → Stands first (next_known known (act_of t at op.End [])) lay Waits m
  unfolding known_after_op
  stands_end Waits t at s orderly outermost not_open counts =
      let next : Knowledge = record (after_end known t true) { at = at } in
      let is : next_known known (act_of t at op.End []) ≡ next = ap
      (λ b. record (after_end known t b) { at = at }) outermost in
      let ordered : IsOrderly first next = subst (λ (k : Knowledge). IsOrderly first k) is orderly in
      let same : SamePlaces known next = record { durable = refl; sizes = sizes_refl known.world.heap } in
      let places = keeps_same lay known next same in
      let lost = all_front LosesStores (each_fate (ended t) known.marks)
      (record { fate = Sure; op = op.End } ∷ []) ordered.lost in
      let to : (K : Threads) (c : Outcome) → regions_of c t ≡ true → IsCovered first known lay K c
      → IsCovered first next lay K c = λ K c kept covered.
      covered_act first known next lay K K c places
      (λ p u line word old guard below named. still_guarded_by known.guards t u p
      (elim (cases_Bool (nat_eq u t)) [
        | inl mine ↦ absurd (no_log c t line word old kept
            (subst (λ k. old_word (log_of c k) line word ≡ Some old) (eqb-true u t mine) named))
        | inr other ↦ other
      ]) guard)
      (λ p is none free. all_sure (regions_of c) p op.End (each_fate (ended t) known.marks)
      (all_each (regions_of c) p (ended t) (ended_kept t (regions_of c)) known.marks free))
      (λ p v is has.
      changed first known lay m (regions_of c) K K (ended t) op.End p v
      (named_in c (place_line lay known.world.heap p) (place_word known.world.heap p)) s.orderly lost is refl
      (λ u e. e)
      (having_ended first known.marks (regions_of c)
      (keeps_of K (named_in c (place_line lay known.world.heap p)
      (place_word known.world.heap p))) p v t kept not_open has))
      covered in
      subst (λ (k : Knowledge). Stands first k lay Waits m) (sym is)
      (stands_act first known next lay Waits Waits m places s ordered s.shows
      (λ c left covered. to NoThread c (counts c left) covered)
      (λ c left after covered. to Waits c (counts c left) covered))
