-- Distinct places lie at distinct words.
use Rattle.std.proofs.Common.{◌≡◌, ◌≢◌, ℕ, true, map, sym, ◌∙◌, ap, arith, slice_index_or}
use Rattle.ap_base.specs.declared.place.Place.{Place}
use Rattle.ap_base.specs.declared.place.Place.TheVariants.{Static, Slot}
use Rattle.graph_model.specs.declared.types.Root.{Root}
use Rattle.graph_model.specs.Heaps.{has_number}
use Rattle.image_meaning.specs.Checks.{Words}
use Rattle.image_meaning.specs.Corresponds.{Corresponds}
use Rattle.image_meaning.specs.Laws.{WordsLieApart}
use Rattle.image_meaning.proofs.Apart.{words-apart}
use Rattle.run_history.specs.Knowing.{Knowledge}
use Rattle.stop_theorem.specs.Layouts.{Layout, Lies, HasRootSlots, root_number, place_line, place_word, is_kept_place}
use Rattle.stop_theorem.proofs.Held.{root_is}
use Rattle.stop_theorem.proofs.KeptPlaces.{slot_parts, root_parts, lies_there}

module _ (known : Knowledge) (lay : Layout) (words : Words)
    (k : Corresponds (Lies lay known) lay.directory lay.size words known.world.heap) where
  abbrev apart : WordsLieApart (Lies lay known) known.world.heap
  apart = words-apart (Lies lay known) lay.directory lay.size words known.world.heap k

  -- a root slot lies among no objects
  root_apart : (s n i : ℕ) → is_kept_place known (Static s) ≡ true → is_kept_place known (Slot n i) ≡ true
      → place_line lay known.world.heap (Static s) ≢ place_line lay known.world.heap (Slot n i)
  root_apart s n i is_root_kept is_slot line =
      let root = root_is known.world.heap.roots s (root_parts known s is_root_kept).0 in
      let few = k.few in
      apart.at_roots (root_number known.world.heap.roots s) (lay.line_of n) n i (omega (arith, few, root.0))
      (lies_there lay known n (slot_parts known n i is_slot).durable) line

  pub places_apart : HasRootSlots known.world.heap → (p q : Place) → is_kept_place known p ≡ true
      → is_kept_place known q ≡ true
      → place_line lay known.world.heap p ≡ place_line lay known.world.heap q
      → place_word known.world.heap p ≡ place_word known.world.heap q → p ≡ q
  places_apart roots (Static s) (Static u) is_p is_q line word =
      let a = root_is known.world.heap.roots s (root_parts known s is_p).0 in
      let b = root_is known.world.heap.roots u (root_parts known u is_q).0 in
      let same : root_number known.world.heap.roots s ≡ root_number known.world.heap.roots u =
      omega (arith, line, word) in
      ap (λ x. Static x) (sym a.1 ∙ ap (λ r. slice_index_or
      (map (λ (root : Root). root.at) known.world.heap.roots) r 0) same ∙ b.1)
  places_apart roots (Static s) (Slot n i) is_p is_q line word = absurd (root_apart s n i is_p is_q line)
  places_apart roots (Slot n i) (Static s) is_p is_q line word =
      absurd (root_apart s n i is_q is_p (sym line))
  places_apart roots (Slot n i) (Slot m j) is_p is_q line word =
      let a = slot_parts known n i is_p in
      let b = slot_parts known m j is_q in
      let both = apart.slots (lay.line_of n) (lay.line_of m) n m i j (lies_there lay known n a.durable)
      (lies_there lay known m b.durable)
      a.inside b.inside line word in
      ap (λ x. Slot x i) both.0 ∙ ap (λ x. Slot m x) both.1

  pub heads_apart : (p : Place) (n : ℕ) → is_kept_place known p ≡ true → has_number known.durable n ≡ true
      → place_line lay known.world.heap p ≡ lay.line_of n → place_word known.world.heap p ≢ 0
  heads_apart (Static s) n is durable line word =
      let a = root_is known.world.heap.roots s (root_parts known s is).0 in
      let low = (k.objects (lay.line_of n) n (lies_there lay known n durable)).low in
      absurd (let few = k.few in omega (arith, line, low, a.0, few))
  heads_apart (Slot m i) n is durable line word =
      let a = slot_parts known m i is in
      apart.heads (lay.line_of m) (lay.line_of n) m n i (lies_there lay known m a.durable)
      (lies_there lay known n durable) a.inside line word
