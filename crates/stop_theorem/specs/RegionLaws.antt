-- The laws of failure-atomic regions and their logs: each event of a region keeps the invariant.
use Rattle.std.specs.Prelude.{◌≡◌, ◌≢◌, ◌<◌, ◌+◌, ◌*◌, ℕ, true, false, [], suc, Some, None}
use Rattle.ap_base.specs.declared.place.Place.{Place}
use Rattle.graph_model.specs.Heaps.{has_number}
use Rattle.graph_model.specs.declared.types.Value.{Value}
use Rattle.graph_model.specs.declared.types.Heap.{Heap}
use Rattle.line_image.specs.Trace.{Outcome}
use Rattle.line_memory.specs.Memory.{Memory, shown, IsDurable, CanLeaveAll}
use Rattle.image_layout.specs.Places.{logs, log_entries, log_head_line}
use Rattle.image_meaning.specs.Logs.{log_count, logged_at, is_log_line, SameLogs, log_of, old_word}
use Rattle.image_meaning.specs.Corresponds.{Holds}
use Rattle.run_history.specs.declared.act.Op.TheVariants as op
use Rattle.run_history.specs.Knowing.{Knowledge, Open, guard_of, has_guards, fate_of, is_outermost, owes_fence}
use Rattle.stop_theorem.specs.Choices.{Threads}
use Rattle.stop_theorem.specs.Layouts.{Layout, Lies, is_kept_place, place_kind}
use Rattle.stop_theorem.specs.Stops.{regions_of, Stands}
use Rattle.stop_theorem.specs.InvariantEvents.{Puts, known_by, line_at, word_at}

-- the number by which a log names a word of the image
abbrev pub number_of : ℕ → ℕ → ℕ
number_of line word = 8 * line + word

-- A word of a log that no count covers is stored.
abbrev pub LogWordsKeep : Type 0
LogWordsKeep = (first : Heap) (known : Knowledge) (lay : Layout) (Waits : Threads) (old new : Memory)
    (line word x : ℕ) → Puts line word x old new → line < old.size
    → is_log_line line ≡ true
    → ((c d : Outcome) → CanLeaveAll old c → CanLeaveAll new d
    → ((l w : ℕ) → (l ≡ line → w ≢ word) → d l w ≡ c l w) → SameLogs c d)
    → Stands first known lay Waits old → Stands first known lay Waits new

-- The count of a log is raised over one more entry, of a place that its thread has guarded, with the word
-- that is shown. Each stop counted n entries of it, of other places, and had the new entry whole.
abbrev pub RaisedCountsKeep : Type 0
RaisedCountsKeep = (first : Heap) (known : Knowledge) (lay : Layout) (Waits : Threads) (old new : Memory)
    (t n : ℕ) (p : Place) → t < logs → n < log_entries
    → Puts (log_head_line t) 0 (suc n) old new → log_head_line t < old.size
    → is_kept_place known p ≡ true → guard_of known.guards p ≡ Some t → has_number known.closing t ≡ false
    → line_at lay known p < lay.size
    → ((c : Outcome) → CanLeaveAll old c → log_count c t ≡ n)
    → ((c : Outcome) → CanLeaveAll old c
    → old_word (log_of c t) (line_at lay known p) (word_at known p) ≡ None)
    → ((c : Outcome) → CanLeaveAll old c → logged_at c t n ≡ record {
      place = number_of (line_at lay known p) (word_at known p);
      old = shown old (line_at lay known p) (word_at known p);
    })
    → Stands first known lay Waits old → Stands first known lay Waits new

-- A store in an open region, at a place that its log names at each stop.
abbrev pub RegionStoresKeep : Type 0
RegionStoresKeep = (first : Heap) (known : Knowledge) (lay : Layout) (Waits : Threads) (old new : Memory)
    (t at : ℕ) (p : Place) (v : Value) (x : ℕ)
    → Stands first known lay Waits old → Puts (line_at lay known p) (word_at known p) x old new
    → line_at lay known p < old.size
    → is_kept_place known p ≡ true → fate_of known t p ≡ Open t
    → t < logs
    → ((c : Outcome) → CanLeaveAll old c
    → (o : ℕ) × (old_word (log_of c t) (line_at lay known p) (word_at known p) ≡ Some o))
    → guard_of known.guards p ≡ Some t → owes_fence known.unfenced t ≡ false
    → Holds (Lies lay known) (place_kind known.world.heap p) x v
    → Stands first (known_by known t at (op.Stored p v) []) lay Waits new

-- The region becomes closing, while each stop's log counts an entry.
abbrev pub ClosingKeeps : Type 0
ClosingKeeps = (first : Heap) (known : Knowledge) (lay : Layout) (Waits : Threads) (m : Memory) (t at : ℕ)
    → Stands first known lay Waits m
    → ((c : Outcome) → CanLeaveAll m c → regions_of c t ≡ false)
    → Stands first (known_by known t at op.Closing []) lay Waits m

-- The count of a closing region's log is lowered to nothing, once its places are durable.
abbrev pub LoweredCountsKeep : Type 0
LoweredCountsKeep = (first : Heap) (known : Knowledge) (lay : Layout) (Waits : Threads) (old new : Memory)
    (t : ℕ) → t < logs → Puts (log_head_line t) 0 0 old new
    → log_head_line t < old.size → has_number known.closing t ≡ true
    → ((p : Place) → is_kept_place known p ≡ true → guard_of known.guards p ≡ Some t
    → IsDurable old (line_at lay known p) (word_at known p))
    → ((c : Outcome) → CanLeaveAll old c → regions_of c t ≡ false)
    → Stands first known lay Waits old → Stands first known lay Waits new

-- The region ends, once each stop's log counts nothing.
abbrev pub EndsKeep : Type 0
EndsKeep = (first : Heap) (known : Knowledge) (lay : Layout) (Waits : Threads) (m : Memory) (t at : ℕ)
    → Stands first known lay Waits m
    → is_outermost known t ≡ true → (has_guards known.guards t ≡ true → has_number known.closing t ≡ true)
    → ((c : Outcome) → CanLeaveAll m c → regions_of c t ≡ true)
    → Stands first (known_by known t at op.End []) lay Waits m
