-- A run starts over an image that stands for the graph that is durable at first.
use Rattle.ap_base.specs.declared.place.Place.{Place}
use Rattle.ap_base.specs.declared.place.Place.TheVariants.{Static, Slot}
use Rattle.image_layout.specs.Places.{logs, log_head_line, directory_line, directory_word}
use Rattle.image_meaning.specs.Logs.{is_log_line}
use Rattle.image_meaning.proofs.Standing.{use-within}
use Rattle.stop_theorem.specs.Layouts.{is_kept_place}
use Rattle.stop_theorem.specs.InvariantEvents.{ShowsKnown, line_at, word_at}
use Rattle.stop_theorem.proofs.Stored.{root_below}
use Rattle.std.proofs.Common.{◌≡◌, ◌≢◌, inl, inr, ℕ, zero, suc, ◌<◌, ◌≤◌, ◌==◌, Bool, true, false, ◌||◌, List, [], ◌∷◌, ◌++◌}
use Rattle.std.proofs.Common.{length, refl, sym, ◌∙◌, ap, arith, nat_eq, slice_index_or}
use Rattle.std.proofs.lemmas.Bool.{cases_Bool, cases_eq, true≢false, and_parts, eqb-true, eq-eqb}
use Rattle.std.proofs.lemmas.List.{length-map}
use Rattle.graph_model.specs.declared.types.Graph.{Graph}
use Rattle.graph_model.specs.Heaps.{has_number}
use Rattle.line_memory.specs.Memory.{Memory, shown, IsDurable}
use Rattle.image_layout.specs.Places.{slot_line, slot_word, object_line, object_word}
use Rattle.image_meaning.specs.Logs.{put_back, NoneLogged}
use Rattle.image_meaning.specs.Meaning.{StandsFor, node_at}
use Rattle.image_meaning.specs.Corresponds.{Corresponds}
use Rattle.image_meaning.specs.Opening.{HoldsGraph, found_at}
use Rattle.image_meaning.proofs.Changes.{corresponds-same, corresponds-along}
use Rattle.image_meaning.proofs.Logs.{put_back-none, not_log_after, not_log_before}
use Rattle.image_meaning.proofs.Standings.{standing-found}
use Rattle.run_history.specs.Knowing.{Knowledge}
use Rattle.plain_model.specs.First.{numbers_to}
use Rattle.stop_theorem.specs.Layouts.{Layout, Lies, HasRootSlots}
use Rattle.stop_theorem.specs.Starts.{Starts}
use Rattle.stop_theorem.proofs.KeptPlaces.{slot_parts, root_parts, lies_there}

-- ---- the numbers below one

has_push : (ns : List ℕ) (k n : ℕ) → has_number (ns ++ k ∷ []) n ≡ (has_number ns n || nat_eq k n)
has_push [] k n = elim (nat_eq k n) as (λ b. (b || false) ≡ b) [ true ↦ refl | false ↦ refl ]
has_push (m ∷ ns) k n = elim (nat_eq m n) as (λ b.
    (b || has_number (ns ++ k ∷ []) n) ≡ ((b || has_number ns n) || nat_eq k
    n)) [ true ↦ refl | false ↦ has_push ns k n ]

numbers_below : (k n : ℕ) → has_number (numbers_to k) n ≡ true → n < k
numbers_below zero n is = absurd (true≢false (sym is))
numbers_below (suc k) n is = elim (cases_Bool (has_number (numbers_to k) n)) [
  | inl before ↦ (let below = numbers_below k n before in omega (arith, below))
  | inr isnt ↦ (
      let last : nat_eq k n ≡ true = (let both : (has_number (numbers_to k) n || nat_eq k n) ≡ true = sym
      (has_push (numbers_to k) k n) ∙ is in rw isnt at both) in
      let same = eqb-true k n last in
      omega (arith, same))
]

below_numbers : (k n : ℕ) → n < k → has_number (numbers_to k) n ≡ true
below_numbers zero n below = absurd (omega (arith, below))
below_numbers (suc k) n below = has_push (numbers_to k) k n ∙ elim (cases_eq k n) [
  | inl same ↦ rw (eq-eqb k n same) (or_true (has_number (numbers_to k) n))
  | inr ne ↦ rw (below_numbers k n (omega (arith, below, ne))) refl
]
  where
    or_true : (b : Bool) → (b || true) ≡ true
    or_true true = refl
    or_true false = refl

-- ---- words that are durable

-- each word outside the logs
abbrev pub DurableOutside : Memory → Type 0
DurableOutside m = (l w : ℕ) → l < m.size → is_log_line l ≡ false → IsDurable m l w

head_durable : (known : Knowledge) (lay : Layout) (m : Memory) → m.size ≡ lay.size → ShowsKnown lay known m
    → DurableOutside m
    → (n : ℕ) → has_number known.durable n ≡ true → IsDurable m (lay.line_of n) 0
head_durable known lay m size shows durable n is =
    let o = shows.objects (lay.line_of n) n (lies_there lay known n is) in
    durable (lay.line_of n) 0 (let high = o.high in omega (arith, high, size))
    (not_log_after (lay.line_of n) o.low)

place_durable : (known : Knowledge) (lay : Layout) (m : Memory) → m.size ≡ lay.size → 32768 ≤ m.size
    → ShowsKnown lay known m
    → DurableOutside m → (p : Place) → is_kept_place known p ≡ true
    → IsDurable m (line_at lay known p) (word_at known p)
place_durable known lay m size big shows durable (Static n) is =
    let root = (root_parts known n is).0 in
    let below = root_below known.world.heap.roots n root in
    let few = shows.few in
    durable (line_at lay known (Static n)) (word_at known (Static n)) (omega (arith, below, few, big))
    (not_log_before (line_at lay known (Static n)) (omega (arith, below, few)))
place_durable known lay m size big shows durable (Slot n i) is =
    let slot = slot_parts known n i is in
    let inside = slot.inside in
    let o = shows.objects (lay.line_of n) n (lies_there lay known n slot.durable) in
    durable (line_at lay known (Slot n i)) (word_at known (Slot n i))
    (let high = o.high in omega (arith, high, inside, size))
    (not_log_after (line_at lay known (Slot n i)) (let low = o.low in omega (arith, low)))

-- A run starts over a memory whose image stands for the graph that is durable at first.
pub starts_found : (known : Knowledge) (m : Memory) (graph : Graph) → known.marks ≡ []
    → known.durable ≡ numbers_to (length graph.nodes) → HoldsGraph known.world.heap graph
    → HasRootSlots known.world.heap → 32768 ≤ m.size → shown m 0 0 ≢ 0 → StandsFor m.size (shown m) graph
    → NoneLogged (shown m)
    → DurableOutside m → ((t : ℕ) → t < logs → IsDurable m (log_head_line t) 0)
    → (lay : Layout) × (lay.size ≡ m.size) × Starts known lay m
starts_found known m graph no_marks durables holds roots big used stand unlogged durable counts =
    let found = standing-found m.size (shown m) graph used stand in
    let lines = found.lines in
    let lay : Layout = record {
      size = m.size;
      directory = found.directory;
      line_of = λ n.
          slice_index_or lines n 0;
      head = λ n. shown m (slice_index_or lines n 0) 0;
    } in
    let many : length graph.nodes ≡ length lines = ap (λ (g : Graph). length g.nodes) (sym found.gives)
    ∙ length-map lines (node_at found.directory.shapes (put_back (shown m)) lines) in
    let back_words = found.corresponds known.world.heap holds in
    let plain : Corresponds (found_at lines) found.directory m.size (shown m) known.world.heap =
    corresponds-same (found_at lines) found.directory m.size (put_back (shown m))
    (shown m) known.world.heap back_words (record {
      heads = λ line n y. sym (put_back-none (shown m) unlogged line 0
          (not_log_after line (back_words.objects line n y).low));
      slots = λ line n y i below kept. sym (put_back-none (shown m) unlogged (object_line line i)
          (object_word i)
          (not_log_after (object_line line i) (let low = (back_words.objects line n y).low in
          omega (arith, low))));
      at_roots = λ r below. sym (put_back-none (shown m) unlogged (slot_line r) (slot_word r)
          (not_log_before (slot_line r) (omega (arith, below))));
    }) in
    let shows : ShowsKnown lay known m = corresponds-along (found_at lines) (Lies lay known)
    found.directory m.size (shown m) known.world.heap
    (λ line n y. let below : n < length graph.nodes = (let b = y.0 in omega (arith, b, many)) in
    let has : has_number known.durable n ≡ true = ap (λ ns. has_number ns n) durables
    ∙ below_numbers (length graph.nodes) n below in
    rw (has, eq-eqb (slice_index_or lines n 0) line y.1) refl)
    (λ line n y. let parts = and_parts (has_number known.durable n) (slice_index_or lines n 0 == line) y in
    let below = numbers_below (length graph.nodes) n (ap (λ ns. has_number ns n) (sym durables) ∙ parts.0) in
    (omega (arith, below, many), eqb-true (slice_index_or lines n 0) line parts.1))
    plain in (
      lay,
      refl,
      record {
        no_marks = no_marks;
        size = refl;
        big = big;
        roots = roots;
        shows = shows;
        heads = λ n is. refl;
        opens = found.finds.opens;
        unlogged = unlogged;
        super = λ w below. durable 0 w (omega (arith, big)) (not_log_before 0 (omega arith));
        entries = λ i below.
            let most = use-within m.size (shown m 0) found.finds.opens.used found.finds.opens.super in
            durable (directory_line i) (directory_word i) (omega (arith, below, most, big))
            (not_log_before (directory_line i) (omega (arith, below, most)));
        counts = counts;
        slots = λ r below. durable (slot_line r) (slot_word r) (omega (arith, below, big))
            (not_log_before (slot_line r) (omega (arith, below)));
        durable_heads = head_durable known lay m refl shows durable;
        durable_places = place_durable known lay m refl big shows durable;
      },
    )
