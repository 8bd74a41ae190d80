-- What is covered stands for a graph that the acts allow.
use Rattle.std.proofs.Common.{◌≡◌, ℕ, ◌==◌, Bool, true, false, List, refl, sym, ◌∙◌, ap, subst}
use Rattle.std.proofs.lemmas.Bool.{true≢false, eqb-true, and_parts}
use Rattle.ap_base.specs.declared.place.Place.{Place}
use Rattle.ap_base.specs.declared.place.Place.TheVariants.{Static, Slot}
use Rattle.graph_model.specs.declared.types.Heap.{Heap}
use Rattle.graph_model.specs.Heaps.{has_number, object_at, shape_at, value_at}
use Rattle.graph_model.specs.Canon.{canon_of}
use Rattle.line_image.specs.Trace.{Outcome}
use Rattle.line_memory.specs.Memory.{Memory, shown, CanLeaveAll}
use Rattle.image_layout.specs.Places.{slot_line, slot_word}
use Rattle.image_meaning.specs.Logs.{put_back}
use Rattle.image_meaning.specs.Objects.{kind_of, object_slot}
use Rattle.image_meaning.specs.Corresponds.{Holds, HoldsReference, Corresponds, root_static}
use Rattle.image_meaning.proofs.Opened.{stands}
use Rattle.run_history.specs.Recorded.{Recorded}
use Rattle.run_history.specs.Knowing.{Knowledge, known_after}
use Rattle.run_history.proofs.KeptLists.{remains}
use Rattle.stop_theorem.specs.Choices.{left_heap, Threads, NoThread}
use Rattle.run_history.specs.Sizes.{SameSizes}
use Rattle.stop_theorem.proofs.Agree.{left_same}
use Rattle.stop_theorem.proofs.Having.{left_sizes}
use Rattle.stop_theorem.proofs.Joint.{choice, joint}
use Rattle.stop_theorem.specs.Layouts.{Layout, Lies, place_line, place_word, place_kind, is_kept_place}
use Rattle.stop_theorem.specs.Stops.{regions_of, PlaceIsCovered, IsCovered, Stands, IsAllowedImage}
use Rattle.stop_theorem.proofs.KeptPlaces.{slot_kept, root_kept}
use Rattle.stop_theorem.proofs.Rebuilt.{rebuilt}

-- where an object lies
pub lies_parts : (lay : Layout) (known : Knowledge) (line n : ℕ) → Lies lay known line n
    → (has_number known.durable n ≡ true) × (lay.line_of n ≡ line)
lies_parts lay known line n is =
    let parts = and_parts (has_number known.durable n) (lay.line_of n == line) is in
    (parts.0, eqb-true (lay.line_of n) line parts.1)

module _ (first : Heap) (known : Knowledge) (lay : Layout) (Waits Keeps : Threads) (m : Memory) (c : Outcome)
    (s : Stands first known lay Waits m) (covered : IsCovered first known lay Keeps c) where
  abbrev FitsAt : Place → Type 0
  FitsAt p = PlaceIsCovered first known lay Keeps c p

  chosen : (p : Place) (b : Bool) → (b ≡ true → FitsAt p) → ℕ → Bool
  chosen p true f = (f refl).has.singles
  chosen p false f = λ t. true

  chosen_has : (p : Place) (b : Bool) (f : b ≡ true → FitsAt p) → b ≡ true → (at : FitsAt p)
      × (chosen p b f ≡ at.has.singles)
  unfolding chosen
  chosen_has p true f is = (f refl, refl)
  chosen_has p false f is = absurd (true≢false (sym is))

  -- the choice at each place
  at_place : Place → ℕ → Bool
  at_place p = chosen p (is_kept_place known p) (covered.places p)

  abbrev regions : ℕ → Bool
  regions = regions_of c

  pub singles : ℕ → Bool
  singles = choice at_place known.marks

  pub left : Heap
  left = left_heap first known.marks regions singles

  -- each durable place holds what is left by that one choice
  place_left : (p : Place) → is_kept_place known p ≡ true
      → Holds (Lies lay known) (place_kind known.world.heap p)
      (put_back c (place_line lay known.world.heap p) (place_word known.world.heap p)) (value_at left p)
  unfolding at_place singles left
  place_left p is =
      let found = chosen_has p (is_kept_place known p) (covered.places p) is in
      let at = found.0 in
      let agree = left_same p regions singles regions (at_place p) known.marks s.orderly.lost
      (joint at_place regions p known.marks s.orderly.singles) first in
      let value : at.value ≡ value_at left p =
      at.has.is ∙ ap (λ (choices : ℕ → Bool). value_at (left_heap first known.marks regions choices) p)
      (sym found.1) ∙ agree.value in
      subst (λ v. Holds (Lies lay known) (place_kind known.world.heap p)
      (put_back c (place_line lay known.world.heap p) (place_word known.world.heap p)) v) value at.holds

  sizes : SameSizes known.world.heap left
  unfolding left
  sizes = subst (λ h. SameSizes h left) (sym s.orderly.heap)
      (left_sizes first regions singles known.marks s.orderly.lost)

  pub corresponds : Corresponds (Lies lay known) lay.directory lay.size (put_back c) left
  corresponds = rebuilt (Lies lay known) lay.directory lay.size (shown m)
      (put_back c) known.world.heap left s.shows sizes
      (λ line n y.
      let parts = lies_parts lay known line n y in
      ap (λ l. put_back c l 0) (sym parts.1) ∙ covered.heads n parts.0 ∙ sym (s.heads n parts.0)
      ∙ ap (λ l. shown m l 0) parts.1)
      (λ line n i y below mark.
      let parts = lies_parts lay known line n y in
      subst (λ l. Holds (Lies lay known) (kind_of
      (shape_at known.world.heap (object_at known.world.heap n).shape) i) (object_slot (put_back c) l i)
      (value_at left (Slot n i))) parts.1
      (place_left (Slot n i) (slot_kept known n i mark parts.0 (s.shows.objects line n y).there below)))
      (λ r below.
      subst (λ k. HoldsReference (Lies lay known) (put_back c (slot_line k) (slot_word k))
      (value_at left (Static (root_static known.world.heap r)))) (s.roots.numbers r below)
      (place_left (Static (root_static known.world.heap r))
      (root_kept known (root_static known.world.heap r) (s.roots.roots r below) (s.roots.statics r below))))
      covered.unused

pub allowed : (first : Knowledge) (acts : List Recorded) (lay : Layout) (Waits Keeps : Threads) (m : Memory)
    (c : Outcome)
    → Stands first.world.heap (known_after first acts) lay Waits m
    → IsCovered first.world.heap (known_after first acts) lay Keeps c
    → IsAllowedImage first lay.size lay.directory acts c
unfolding left
allowed first acts lay Waits Keeps m c s covered =
    let known = known_after first acts in
    let heap = left first.world.heap known lay Waits Keeps m c s covered in
    record {
      opens = covered.opens;
      graph = canon_of heap;
      stands = stands (Lies lay known) lay.size c lay.directory heap covered.opens
          (corresponds first.world.heap known lay Waits Keeps m c s covered);
      allowed = remains first.world.heap known.marks (canon_of heap) (regions_of c)
          (singles first.world.heap known lay Waits Keeps m c s covered) refl;
    }

pub allowed_now : (first : Knowledge) (acts : List Recorded) (lay : Layout) (Waits : Threads) (m : Memory)
    (c : Outcome)
    → Stands first.world.heap (known_after first acts) lay Waits m → CanLeaveAll m c
    → IsAllowedImage first lay.size lay.directory acts c
allowed_now first acts lay Waits m c s left = allowed first acts lay Waits NoThread m c s (s.leaves c left)
