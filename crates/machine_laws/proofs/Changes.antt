-- What each change of a machine's memory keeps of the threads' logs.
use Rattle.std.proofs.Common.{◌≡◌, ◌⊎◌, inl, inr, ℕ, ◌+◌, ◌<◌, true, List, length, Some, sym, ◌∙◌, ap, subst, arith}
use Rattle.ap_base.specs.declared.place.Place.{Place}
use Rattle.ap_base.specs.declared.place.Spot.{Spot}
use Rattle.line_memory.specs.Memory.{Memory}
use Rattle.line_memory.specs.Moments.{KeepsShown}
use Rattle.run_history.specs.Knowing.{guard_of}
use Rattle.stop_theorem.specs.Layouts.{is_kept_place}
use Rattle.stop_theorem.specs.InvariantEvents.{line_at, word_at}
use Rattle.region_log.specs.declared.entry.Underway.TheVariants.{Nothing as Idle}
use Rattle.region_log.specs.Guarding.{IsGuarded}
use Rattle.region_log.specs.Made.{IsOfLog}
use Rattle.region_events.specs.Guards.{IsWordOf, IsGuardedPlace}
use Rattle.twin_forms.specs.Table.{Entry, entry, InP, lines_of}
use Rattle.twin_forms.specs.Moves.{ChangesLine}
use Rattle.twin_forms.specs.Sights.{AllKnown}
use Rattle.twin_heap.specs.Here.{StoresAt}
use Rattle.machine_forms.specs.Machines.{Opening, Machine, known_in, memory_of, log_of, layout_in}
use Rattle.machine_forms.specs.Keeping.{KeepsRun}
use Rattle.machine_laws.proofs.Logs.{whole-now}
use Rattle.machine_laws.proofs.Memories.{KeepsWhole, Stores, call-keeps, store-keeps, log-off, idle-keeps}
use Rattle.machine_laws.proofs.Places.{place-off-logs, place-off-copies, places-apart}

module _ (o : Opening) (m : Machine) (es : List Entry) (k : KeepsRun o m es) (new : Memory) (t : ℕ)
    (lt : t < 64) where
  pub whole-same : new ≡ memory_of m → KeepsWhole (log_of m t) new
  whole-same same = subst (KeepsWhole (log_of m t)) (sym same) (whole-now o m es k t lt)

  pub whole-call : KeepsShown (memory_of m) new → AllKnown new → KeepsWhole (log_of m t) new
  whole-call keeps known =
      call-keeps (log_of m t) (memory_of m) new keeps k.heap.known known (whole-now o m es k t lt)

  own-log : (log_of m t).thread ≡ t
  own-log = (k.asked.regions.each t lt).thread

  guarded-at : (spot : Spot) → IsGuarded (log_of m t) spot
      → (p : Place) × IsWordOf (known_in o m) (layout_in o es) spot p
      × IsGuardedPlace (known_in o m) (log_of m t).thread p
  guarded-at spot is = (k.asked.regions.each t lt).guards.places spot is

  -- a store to a line of an object that isn't durable
  pub whole-line : (n c : ℕ) → n < length es → 0 < (entry es n).stage → (InP es n → ⊥)
      → c < lines_of (entry es n) → ChangesLine ((entry es n).line + c) (memory_of m) new
      → KeepsWhole (log_of m t) new
  whole-line n c there placed out inside changes =
      store-keeps (λ l w. l ≡ (entry es n).line + c) (memory_of m) new
      (record { size = changes.size; image = changes.same.image; others = λ l w off. changes.others l w off })
      (log_of m t) off-log apart (whole-now o m es k t lt)
    where
      off-log : (l w : ℕ) → IsOfLog (log_of m t).thread l → l ≡ (entry es n).line + c → ⊥
      off-log l w of_log is =
          let low = k.heap.low n there placed in let under = of_log.below in let own = own-log in
          omega (arith, low, under, own, lt, is)

      apart : (spot : Spot) → IsGuarded (log_of m t) spot → spot.line ≡ (entry es n).line + c → ⊥
      apart spot guarded is =
          let at = guarded-at spot guarded in
          place-off-copies o m es k at.0 n c at.2.is_kept there placed out inside (sym at.1.line ∙ is)

  -- a store to a kept place that the thread's region hasn't guarded, or for which it has nothing under way
  module _ (p : Place) (kept : is_kept_place (known_in o m) p ≡ true) (w : ℕ)
      (at : StoresAt (line_at (layout_in o es) (known_in o m) p) (word_at (known_in o m) p) w (memory_of m)
      new)
    where
      IsThere : ℕ → ℕ → Type 0
      IsThere l x = (l ≡ line_at (layout_in o es) (known_in o m) p) × (x ≡ word_at (known_in o m) p)

      stores : Stores IsThere (memory_of m) new
      unfolding IsThere
      stores = record {
        size = at.changes.size;
        image = at.changes.same.image;
        others = λ l x off. at.others l x (λ e f. off (e, f));
      }

      off-log : (l x : ℕ) → IsOfLog (log_of m t).thread l → IsThere l x → ⊥
      unfolding IsThere
      off-log l x of_log is = place-off-logs o m es k p t kept lt
          (subst (λ u. IsOfLog u (line_at (layout_in o es) (known_in o m) p)) own-log
          (subst (IsOfLog (log_of m t).thread) is.0 of_log))

      apart : (guard_of (known_in o m).guards p ≡ Some t → ⊥) → (spot : Spot) → IsGuarded (log_of m t) spot
          → IsThere spot.line spot.word → ⊥
      unfolding IsThere
      apart not_own spot guarded is =
          let at_place = guarded-at spot guarded in
          let same = places-apart o m es k at_place.0 p at_place.2.is_kept kept (sym at_place.1.line ∙ is.0)
          (sym at_place.1.word ∙ is.1) in
          not_own (ap (λ q. guard_of (known_in o m).guards q) (sym same) ∙ at_place.2.guard
          ∙ ap (λ u. Some u) own-log)

      pub whole-word : ((log_of m t).underway ≡ Idle) ⊎ (guard_of (known_in o m).guards p ≡ Some t → ⊥)
          → KeepsWhole (log_of m t) new
      whole-word (inl idle) = idle-keeps (log_of m t) new idle
          (log-off IsThere (memory_of m) new stores (log_of m t) off-log (whole-now o m es k t lt).keeps)
      whole-word (inr not_own) = store-keeps IsThere (memory_of m) new stores (log_of m t) off-log
          (apart not_own) (whole-now o m es k t lt)
