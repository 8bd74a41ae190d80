-- A run starts over an image that was opened, with the layout of a machine's table.
use Rattle.std.proofs.Common.{◌≡◌, ℕ, ◌*◌, ◌==◌, true, List, length, refl, sym, ◌∙◌, ap, arith}
use Rattle.std.proofs.lemmas.Bool.{and_from, eq-eqb}
use Rattle.ap_base.specs.declared.place.Place.{Place}
use Rattle.ap_base.specs.declared.place.Place.TheVariants.{Static, Slot}
use Rattle.graph_model.specs.Heaps.{has_number}
use Rattle.line_memory.specs.Memory.{Memory, shown, IsDurable}
use Rattle.image_meaning.specs.Opening.{found_at}
use Rattle.image_meaning.proofs.Changes.{corresponds-along}
use Rattle.run_history.specs.Knowing.{Knowledge}
use Rattle.plain_model.proofs.Durable.{below_from_has_number, has_number_from_below}
use Rattle.stop_theorem.specs.Layouts.{Layout, Lies, root_number, is_kept_place}
use Rattle.stop_theorem.specs.InvariantEvents.{line_at, word_at, ShowsKnown}
use Rattle.stop_theorem.proofs.Allowed.{lies_parts}
use Rattle.stop_theorem.proofs.KeptPlaces.{slot_parts, root_parts, lies_there}
use Rattle.stop_theorem.proofs.Stored.{root_below}
use Rattle.twin_forms.specs.Table.{Entry, entry, InP}
use Rattle.twin_heap.proofs.Reading.{spot_is}
use Rattle.two_spaces.specs.Whole.{Stands}
use Rattle.machine_forms.specs.Machines.{Opening, Machine, first_of, memory_of, layout_in}
use Rattle.machine_laws.specs.Opened.{ShowsFirstHeap, IsTableOf, OpenedImagesStart}
use Rattle.machine_laws.proofs.StopTables.{line_in, head_in}

module _ (o : Opening) (m : Machine) (es : List Entry) (lines : List ℕ) (memory : memory_of m ≡ o.start)
    (whole : Stands m.spaces es) (opened : ShowsFirstHeap o lines) (table : IsTableOf lines es) where
  abbrev known : Knowledge
  known = first_of o

  abbrev lay : Layout
  lay = layout_in o es

  -- ---- where durable objects lie

  in_table : (n : ℕ) → has_number known.durable n ≡ true → InP es n
  in_table n is =
      let below = below_from_has_number (length o.launch.opening.nodes) n is in
      let many = opened.nodes in
      (table.durable n).1 (omega (arith, below, many))

  to : (line n : ℕ) → found_at lines line n → Lies lay known line n
  to line n found =
      let below = found.0 in
      let many = opened.nodes in
      let has : has_number known.durable n ≡ true =
      has_number_from_below (length o.launch.opening.nodes) n (omega (arith, below, many)) in
      and_from (has_number known.durable n) (lay.line_of n == line) has
      (eq-eqb (lay.line_of n) line (line_in o es n ((table.durable n).1 below) ∙ table.at n below ∙ found.1))

  back : (line n : ℕ) → Lies lay known line n → found_at lines line n
  back line n is =
      let parts = lies_parts lay known line n is in
      let p = in_table n parts.0 in
      let below = (table.durable n).0 p in
      (below, sym (table.at n below) ∙ sym (line_in o es n p) ∙ parts.1)

  shows : ShowsKnown lay known o.start
  shows = corresponds-along (found_at lines) (Lies lay known) o.directory o.start.size (shown o.start)
      known.world.heap to back opened.shows

  head_shown : (n : ℕ) → has_number known.durable n ≡ true → shown o.start (lay.line_of n) 0 ≡ lay.head n
  head_shown n is =
      let p = in_table n is in
      let line = (entry es n).line in
      ap (λ l. shown o.start l 0) (line_in o es n p)
      ∙ ap (λ (x : Memory). shown x line 0) (sym memory)
      ∙ sym (spot_is (memory_of m) (8 * line) line 0 (omega arith) (omega arith))
      ∙ (whole.lies.sits n p.0).copy_head p.1 ∙ sym (head_in o es n p)

  -- ---- what is durable

  head_durable : (n : ℕ) → has_number known.durable n ≡ true → IsDurable o.start (lay.line_of n) 0
  head_durable n is =
      let object = shows.objects (lay.line_of n) n (lies_there lay known n is) in
      let high = object.high in
      opened.objects (lay.line_of n) 0 object.low (omega (arith, high))

  place_durable : (p : Place) → is_kept_place known p ≡ true
      → IsDurable o.start (line_at lay known p) (word_at known p)
  place_durable (Static n) is =
      let roots = known.world.heap.roots in
      let below = root_below roots n (root_parts known n is).0 in
      let few = shows.few in
      opened.slots (root_number roots n) (omega (arith, below, few))
  place_durable (Slot n i) is =
      let slot = slot_parts known n i is in
      let inside = slot.inside in
      let object = shows.objects (lay.line_of n) n (lies_there lay known n slot.durable) in
      let high = object.high in
      let low = object.low in
      opened.objects (line_at lay known (Slot n i)) (word_at known (Slot n i)) (omega (arith, low))
      (omega (arith, high, inside))

pub opened_start : OpenedImagesStart
opened_start o m es lines memory whole opened table = record {
  no_marks = refl;
  size = refl;
  big = opened.size;
  roots = opened.roots;
  shows = shows o m es lines memory whole opened table;
  heads = head_shown o m es lines memory whole opened table;
  opens = opened.opens;
  unlogged = opened.unlogged;
  super = opened.super;
  entries = opened.entries;
  counts = opened.counts;
  slots = opened.slots;
  durable_heads = head_durable o m es lines memory whole opened table;
  durable_places = place_durable o m es lines memory whole opened table;
}
