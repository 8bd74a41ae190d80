-- Where the words lie that a region guards.
use Rattle.std.proofs.Common.{◌≡◌, ℕ, ◌+◌, ◌<◌, ◌≤◌, true, length, refl, sym, ◌∙◌, arith, le-leb, lt-ltb, ◌&&◌}
use Rattle.std.specs.Prelude.{nat_le, nat_lt}
use Rattle.std.proofs.lemmas.Bool.{true≢false, or_right}
use Rattle.ap_base.specs.declared.place.Place.{Place}
use Rattle.ap_base.specs.declared.place.Place.TheVariants.{Static, Slot}
use Rattle.graph_model.specs.Heaps.{values_of}
use Rattle.line_image.specs.Trace.{Outcome}
use Rattle.line_memory.specs.Memory.{Memory, CanLeaveAll}
use Rattle.image_layout.specs.Places.{logs, log_entries, min_lines, root_slots, first_object_line, slot_line, lines_of}
use Rattle.image_layout.specs.Places.{object_line, log_head_line, log_entry_line}
use Rattle.image_meaning.specs.Logs.{is_log_line, may_be_logged, log_count}
use Rattle.image_meaning.proofs.Places.{log_passes}
use Rattle.image_meaning.proofs.Stopped.{logs_pass}
use Rattle.run_history.specs.Knowing.{Knowledge}
use Rattle.graph_model.specs.declared.types.Heap.{Heap}
use Rattle.stop_theorem.specs.Choices.{Threads}
use Rattle.stop_theorem.specs.Layouts.{Layout, is_kept_place, root_number}
use Rattle.stop_theorem.specs.Stops.{Stands}
use Rattle.stop_theorem.specs.InvariantEvents.{line_at, word_at}
use Rattle.stop_theorem.proofs.KeptPlaces.{slot_parts, root_parts, lies_there}
use Rattle.stop_theorem.proofs.Stored.{PlaceLies, AtRoot, InObject, place_lies, not_log, root_below}
use Rattle.region_log.specs.Made.{IsOfLog}

-- ---- lines of logs

pub head_inside : (t size : ℕ) → t < logs → min_lines ≤ size → log_head_line t < size
head_inside t size below lines = omega (arith, below, lines)

pub entry_inside : (t n size : ℕ) → t < logs → n < log_entries → min_lines ≤ size → log_entry_line t n < size
entry_inside t n size below room lines = omega (arith, below, room, lines)

pub entry_in_log : (t n : ℕ) → t < logs → n < log_entries → is_log_line (log_entry_line t n) ≡ true
entry_in_log t n below room =
    rw (
      le-leb (log_head_line 0) (log_entry_line t n) (omega (arith, below, room)),
      lt-ltb (log_entry_line t n) first_object_line (omega (arith, below, room)),
    ) refl

of_log_in_logs : (t line : ℕ) → t < logs → IsOfLog t line → is_log_line line ≡ true
of_log_in_logs t line below of_log =
    let from = of_log.from in
    let under = of_log.below in
    rw (
      le-leb (log_head_line 0) line (omega (arith, from)),
      lt-ltb line first_object_line (omega (arith, under, below)),
    ) refl

-- ---- kept places

module _ (first : Heap) (known : Knowledge) (lay : Layout) (Waits : Threads) (m : Memory)
    (s : Stands first known lay Waits m) (p : Place) (kept : is_kept_place known p ≡ true) where
  abbrev lies : PlaceLies (line_at lay known p) (word_at known p)
  lies = place_lies first known lay Waits m s p kept

  pub not_of_log : (t : ℕ) → t < logs → IsOfLog t (line_at lay known p) → ⊥
  not_of_log t below of_log = true≢false (sym (of_log_in_logs t (line_at lay known p) below of_log)
      ∙ not_log (line_at lay known p) (word_at known p) lies)

inside_lines : (size line words i : ℕ) → line + lines_of words ≤ size → i < words → object_line line i < size
inside_lines size line words i high below = omega (arith, high, below)

root_inside : (r size : ℕ) → r < root_slots → 33 ≤ size → slot_line r < size
root_inside r size below enough = omega (arith, below, enough)

module _ (first : Heap) (known : Knowledge) (lay : Layout) (Waits : Threads) (m : Memory)
    (s : Stands first known lay Waits m) (enough : 33 ≤ lay.size) where
  pub place_inside : (p : Place) → is_kept_place known p ≡ true → line_at lay known p < lay.size
  place_inside (Static n) kept =
      let below = root_below known.world.heap.roots n (root_parts known n kept).0 in
      let few = s.shows.few in
      root_inside (root_number known.world.heap.roots n) lay.size (omega (arith, below, few)) enough
  place_inside (Slot n i) kept =
      let slot = slot_parts known n i kept in
      let high = (s.shows.objects (lay.line_of n) n (lies_there lay known n slot.durable)).high in
      inside_lines lay.size (lay.line_of n) (length (values_of known.world.heap n)) i high slot.inside

  -- its word may be logged
  pub place_may : (p : Place) → is_kept_place known p ≡ true
      → may_be_logged lay.size (line_at lay known p) ≡ true
  place_may p kept = at (place_lies first known lay Waits m s p kept)
    where
      at : PlaceLies (line_at lay known p) (word_at known p)
          → may_be_logged lay.size (line_at lay known p) ≡ true
      at (AtRoot r below line word) =
          rw (
            le-leb (slot_line 0) (line_at lay known p) (omega (arith, line)),
            lt-ltb (line_at lay known p) (slot_line root_slots) (omega (arith, line, below)),
          ) refl
      at (InObject low) = or_right
          (nat_le (slot_line 0) (line_at lay known p) && nat_lt (line_at lay known p) (slot_line root_slots))
          (nat_le first_object_line (line_at lay known p) && nat_lt (line_at lay known p) lay.size)
          (rw (
            le-leb first_object_line (line_at lay known p) low,
            lt-ltb (line_at lay known p) lay.size (place_inside p kept),
          ) refl)

-- each log counts as many entries as there is room for, at most
pub each_count_fits : (first : Heap) (known : Knowledge) (lay : Layout) (Waits : Threads) (m : Memory)
    → Stands first known lay Waits m → (c : Outcome) → CanLeaveAll m c → (t : ℕ) → t < logs
    → log_count c t ≤ log_entries
each_count_fits first known lay Waits m s c left t below =
    (log_passes lay.size c t (logs_pass lay.size c (s.leaves c left).opens.logs t below)).0
