-- Stores to words that nothing durable depends on.
use Rattle.std.proofs.Common.{◌≡◌, ◌≢◌, inl, inr, ℕ, ◌+◌, ◌*◌, ◌/◌, ◌<◌, true, false, length, sym, ◌∙◌, ap, subst, arith}
use Rattle.std.proofs.lemmas.Bool.{true≢false}
use Rattle.ap_base.specs.declared.place.Place.{Place}
use Rattle.ap_base.specs.declared.place.Place.TheVariants.{Static, Slot}
use Rattle.graph_model.specs.Heaps.{has_number, values_of, is_kept_slot}
use Rattle.line_memory.specs.Memory.{Memory, shown}
use Rattle.image_layout.specs.Places.{first_object_line, lines_of, object_line, object_word}
use Rattle.image_meaning.specs.Laws.{WordsLieApart}
use Rattle.image_meaning.proofs.Apart.{words-apart}
use Rattle.run_history.specs.Knowing.{Knowledge}
use Rattle.stop_theorem.specs.Layouts.{Layout, Lies, is_kept_place}
use Rattle.stop_theorem.specs.InvariantEvents.{IsFreeWord, line_at, word_at, ShowsKnown}
use Rattle.stop_theorem.proofs.KeptPlaces.{slot_parts, root_parts, lies_there}
use Rattle.stop_theorem.proofs.Stored.{root_below}
use Rattle.stop_theorem.specs.Running.{known_at, FreeStored}
use Rattle.stop_theorem.specs.GivenCopies.{IsFreeLine, FreeStoresAreEvents}

module _ (known : Knowledge) (lay : Layout) (m : Memory) (shows : ShowsKnown lay known m) where
  -- a root slot lies before the objects
  root_low : (s : ℕ) → is_kept_place known (Static s) ≡ true
      → line_at lay known (Static s) < first_object_line
  root_low s kept =
      let below = root_below known.world.heap.roots s (root_parts known s kept).0 in
      let few = shows.few in
      omega (arith, below, few)

  -- ---- a line that no durable object has

  module _ (line word : ℕ) (free : IsFreeLine known lay line) where
    -- it is none of an object's
    not_of : (n i : ℕ) → has_number known.durable n ≡ true
        → i < 8 * lines_of (length (values_of known.world.heap n))
        → line ≡ lay.line_of n + i / 8 → ⊥
    not_of n i durable inside line_is = elim (free.apart n durable) [
      | inl before ↦ absurd (omega (arith, before, line_is))
      | inr behind ↦ absurd (omega (arith, behind, line_is, inside))
    ]

    not_at : (p : Place) → is_kept_place known p ≡ true → line ≡ line_at lay known p → word ≢ word_at known p
    not_at (Static s) kept line_is word_is =
        let before = root_low s kept in
        let low = free.low in
        absurd (omega (arith, before, low, line_is))
    not_at (Slot n i) kept line_is word_is =
        let slot = slot_parts known n i kept in
        let inside = slot.inside in
        not_of n (i + 1) slot.durable (omega (arith, inside)) line_is

    free_line : IsFreeWord known lay line word
    free_line = record {
      low = free.low;
      no_head = λ n durable line_is word_is. not_of n 0 durable (omega arith) (omega (arith, line_is));
      no_place = not_at;
    }

  -- ---- a slot that isn't kept

  module _ (n i : ℕ) (durable : has_number known.durable n ≡ true)
      (inside : i < length (values_of known.world.heap n))
      (unkept : is_kept_slot known.world.heap n i ≡ false) where
    abbrev apart : WordsLieApart (Lies lay known) known.world.heap
    apart = words-apart (Lies lay known) lay.directory lay.size (shown m) known.world.heap shows

    not_kept : (p : Place) → is_kept_place known p ≡ true
        → object_line (lay.line_of n) i ≡ line_at lay known p
        → object_word i ≢ word_at known p
    not_kept (Static s) kept line_is word_is =
        let before = root_low s kept in
        let low = (shows.objects (lay.line_of n) n (lies_there lay known n durable)).low in
        absurd (omega (arith, before, low, line_is))
    not_kept (Slot o j) kept line_is word_is =
        let slot = slot_parts known o j kept in
        let same = apart.slots (lay.line_of n) (lay.line_of o) n o i j (lies_there lay known n durable)
        (lies_there lay known o slot.durable) inside slot.inside line_is word_is in
        true≢false (sym slot.mark ∙ ap (λ k. is_kept_slot known.world.heap k j) (sym same.0)
        ∙ ap (λ k. is_kept_slot known.world.heap n k) (sym same.1) ∙ unkept)

    free_slot : IsFreeWord known lay (object_line (lay.line_of n) i) (object_word i)
    free_slot = record {
      low = (let low = (shows.objects (lay.line_of n) n (lies_there lay known n durable)).low in
          omega (arith, low));
      no_head = λ o is line_is word_is. apart.heads (lay.line_of n) (lay.line_of o) n o i
          (lies_there lay known n durable) (lies_there lay known o is) inside line_is word_is;
      no_place = not_kept;
    }

    slot_in_image : object_line (lay.line_of n) i < lay.size
    slot_in_image =
        let high = (shows.objects (lay.line_of n) n (lies_there lay known n durable)).high in
        omega (arith, high, inside)

pub free_stores : FreeStoresAreEvents
free_stores = record {
  lines = λ first s new line word x shows free inside puts.
      FreeStored s new line word x puts inside
      (free_line (known_at first s) s.layout s.memory shows line word free);
  unkept = λ first s new n i x shows durable inside unmarked size puts.
      FreeStored s new (object_line (s.layout.line_of n) i) (object_word i) x puts
      (subst (λ k. object_line (s.layout.line_of n) i < k) (sym size)
      (slot_in_image (known_at first s) s.layout s.memory shows n i durable inside unmarked))
      (free_slot (known_at first s) s.layout s.memory shows n i durable inside unmarked);
}
