-- The laws that events happen: stores, write-backs and fences of a line memory that succeed, one after
-- another, are what events ask.
use Rattle.std.specs.Prelude.{◌≡◌, ◌≢◌, ◌<◌, ◌≤◌, ◌+◌, ◌^◌, ℕ, suc, true, false, [], Some, None}
use Rattle.ap_base.specs.declared.place.Place.{Place}
use Rattle.ap_base.specs.declared.place.Place.TheVariants.{Static}
use Rattle.graph_model.specs.declared.types.Value.{Value}
use Rattle.graph_model.specs.declared.types.Value.TheVariants.{Null}
use Rattle.graph_model.specs.Heaps.{has_number}
use Rattle.line_image.specs.Told.{IsCounted}
use Rattle.line_memory.specs.Memory.{Memory, shown, IsWritten, IsDurable, OneCall, MadeFence}
use Rattle.line_memory.specs.Moments.{KeepsShown}
use Rattle.image_layout.specs.Places.{logs, log_entries, min_lines, log_head_line, log_entry_line, log_entry_word}
use Rattle.image_meaning.specs.Logs.{log_count, logged_at, log_of, old_word}
use Rattle.run_history.specs.declared.act.Op.TheVariants as op
use Rattle.run_history.specs.Knowing.{Knowledge, Open, guard_of, has_guards, fate_of, owes_fence, is_outermost}
use Rattle.stop_theorem.specs.Choices.{with_thread, without_thread}
use Rattle.stop_theorem.specs.Layouts.{Layout, is_kept_place}
use Rattle.stop_theorem.specs.InvariantEvents.{Puts, line_at, word_at, ShowsKnown}
use Rattle.stop_theorem.specs.RegionLaws.{number_of}
use Rattle.stop_theorem.specs.Conditions.{AtEachStop, StoresAt, IsSingleUnguarded}
use Rattle.stop_theorem.specs.WrongOrders.{nodes_known}
use Rattle.stop_theorem.specs.Running.{State, known_at, with_act, with_memory, Event, Events, Runs, at_start}

-- A write-back of the line that succeeded, as a line memory says of it. The number of calls has 64 bits.
pub record WroteBack (line : ℕ) (old new : Memory) : Type 0 where
  pub fits : old.calls < 2 ^ 64
  pub keeps : KeepsShown old new
  pub count : OneCall old new
  pub written : (w : ℕ) → IsWritten new line w

-- a fence that succeeded
pub record FencedAll (old new : Memory) : Type 0 where
  pub fits : old.calls < 2 ^ 64
  pub keeps : KeepsShown old new
  pub count : OneCall old new
  pub made : MadeFence old new
  pub durable : (l w : ℕ) → IsWritten old l w → IsDurable new l w

-- the line was written back, and then a fence was made
pub record WroteAndFenced (line : ℕ) (old new : Memory) : Type 0 where
  pub between : Memory
  pub writes : WroteBack line old between
  pub fences : FencedAll between new

-- ---- a durable store outside regions

-- the state after a store and its fence, which are acts, and between which the thread has waited
abbrev pub with_fenced_store : State → ℕ → Place → Value → Memory → Memory → State
with_fenced_store s t p v stored fenced =
    let told = with_memory (with_act (with_memory s stored) t (op.Stored p v) []) fenced in
    record (with_act told t op.Fenced []) { waits = without_thread t (with_thread t s.waits) }

-- A durable store outside regions, the write-back of its line and a fence are events.
abbrev pub FencedStoresAreEvents : Type 0
FencedStoresAreEvents = (first : Knowledge) (s : State) (stored fenced : Memory) (t : ℕ) (p : Place)
    (v : Value) (x : ℕ)
    → StoresAt (known_at first s) s.layout s.memory stored p v x
    → IsSingleUnguarded (known_at first s) s.waits t p
    → WroteAndFenced (line_at s.layout (known_at first s) p) stored fenced
    → Events first s (with_fenced_store s t p v stored fenced)

-- Each line of each memory may be written back and then fenced, whatever its image was told before.
abbrev pub LinesMayBeFenced : Type 0
LinesMayBeFenced = (m : Memory) (line : ℕ) → IsCounted m.image → m.calls < 2 ^ 64
    → (new : Memory) × WroteAndFenced line m new

-- A run begins over some memory of three nodes, whose image tells what is done to it.
pub record RunBegins : Type 0 where
  pub layout : Layout
  pub memory : Memory
  pub runs : Runs nodes_known 32768 layout.directory 0 memory (at_start layout memory)

-- In a run that begins so, thread 0 sets the root to null, as the first of all acts, and fences: all these
-- are events.
pub record OneStoreIsFenced : Type 0 where
  pub state : State
  pub stored : Memory
  pub fenced : Memory
  pub nothing_yet : state.acts ≡ []
  pub runs : Runs nodes_known 32768 state.layout.directory 0 state.memory state
  pub other_word : shown stored 1 0 ≢ shown state.memory 1 0
  pub events : Events nodes_known state (with_fenced_store state 0 (Static 0) Null stored fenced)

-- ---- regions

-- A region begins where the memory shows the plain heap.
abbrev pub BeginIsAnEvent : Type 0
BeginIsAnEvent = (first : Knowledge) (s : State) (t : ℕ)
    → ShowsKnown s.layout (known_at first s) s.memory → Event first s (with_act s t op.Begin [])

-- the count of log t is durable, and so are both words of each of its first n entries
pub record IsDurableLog (m : Memory) (t n : ℕ) : Type 0 where
  pub count : IsDurable m (log_head_line t) 0
  pub places : (i : ℕ) → i < n → IsDurable m (log_entry_line t i) (log_entry_word i)
  pub olds : (i : ℕ) → i < n → IsDurable m (log_entry_line t i) (log_entry_word i + 1)

-- A word of entry n of a log is stored, whose count is durable and no more than n. No log counts more entries
-- than there is room for, as in each image that opens.
abbrev pub EntryWordsAreEvents : Type 0
EntryWordsAreEvents = (first : Knowledge) (s : State) (new : Memory) (t n second x : ℕ)
    → t < logs → n < log_entries → second < 2 → min_lines ≤ s.memory.size
    → IsDurable s.memory (log_head_line t) 0 → log_count (shown s.memory) t ≤ n
    → ((u : ℕ) → u < logs → AtEachStop s.memory (λ c. log_count c u ≤ log_entries))
    → Puts (log_entry_line t n) (log_entry_word n + second) x s.memory new
    → Event first s (with_memory s new)

-- The region of thread t has guarded the place. Its log shows n entries, which are durable, and none of which
-- names the place; behind them stands an entry of the place with the word that is shown there.
pub record ShowsEntry (known : Knowledge) (lay : Layout) (m : Memory) (t n : ℕ) (p : Place) : Type 0 where
  pub log : t < logs
  pub room : n < log_entries
  pub size : m.size ≡ lay.size
  pub lines : min_lines ≤ m.size
  pub is_kept : is_kept_place known p ≡ true
  pub guard : guard_of known.guards p ≡ Some t
  pub not_closing : has_number known.closing t ≡ false
  pub in_image : line_at lay known p < lay.size
  pub durable : IsDurableLog m t n
  pub counts : log_count (shown m) t ≡ n
  pub unnamed : old_word (log_of (shown m) t) (line_at lay known p) (word_at known p) ≡ None
  pub entry : logged_at (shown m) t n ≡ record {
    place = number_of (line_at lay known p) (word_at known p);
    old = shown m (line_at lay known p) (word_at known p);
  }

-- Once the entry's line is written back and fenced, the count is raised over it.
abbrev pub CountedEntriesAreEvents : Type 0
CountedEntriesAreEvents = (first : Knowledge) (s : State) (fenced new : Memory) (t n : ℕ) (p : Place)
    → ShowsEntry (known_at first s) s.layout s.memory t n p
    → WroteAndFenced (log_entry_line t n) s.memory fenced → Puts (log_head_line t) 0 (suc n) fenced new
    → Events first s (with_memory s new)

-- A store at a place that the log of the thread's open region names, with this old word; all its entries are
-- durable.
abbrev pub RegionStoresAreEvents : Type 0
RegionStoresAreEvents = (first : Knowledge) (s : State) (new : Memory) (t : ℕ) (p : Place) (v : Value)
    (x old : ℕ)
    → StoresAt (known_at first s) s.layout s.memory new p v x
    → fate_of (known_at first s) t p ≡ Open t → guard_of (known_at first s).guards p ≡ Some t
    → owes_fence (known_at first s).unfenced t ≡ false → t < logs
    → IsDurableLog s.memory t (log_count (shown s.memory) t)
    → old_word (log_of (shown s.memory) t) (line_at s.layout (known_at first s) p)
    (word_at (known_at first s) p) ≡ Some old
    → Event first s (with_act (with_memory s new) t (op.Stored p v) [])

-- The region becomes closing, while its log's durable count isn't nothing.
abbrev pub ClosingIsAnEvent : Type 0
ClosingIsAnEvent = (first : Knowledge) (s : State) (t : ℕ) → t < logs
    → IsDurable s.memory (log_head_line t) 0 → shown s.memory (log_head_line t) 0 ≢ 0
    → Event first s (with_act s t op.Closing [])

-- Once the places of a closing region, whose log counts something, are written back and fenced, the count is
-- lowered to nothing.
abbrev pub EmptiedLogsAreEvents : Type 0
EmptiedLogsAreEvents = (first : Knowledge) (s : State) (fenced new : Memory) (t : ℕ)
    → t < logs → min_lines ≤ s.memory.size → has_number (known_at first s).closing t ≡ true
    → ((p : Place) → is_kept_place (known_at first s) p ≡ true
    → guard_of (known_at first s).guards p ≡ Some t
    → IsWritten s.memory (line_at s.layout (known_at first s) p) (word_at (known_at first s) p))
    → IsDurable s.memory (log_head_line t) 0 → shown s.memory (log_head_line t) 0 ≢ 0
    → FencedAll s.memory fenced → Puts (log_head_line t) 0 0 fenced new
    → Events first s (with_memory s new)

-- Once the count of nothing is written back and fenced, the region ends.
abbrev pub EndedRegionsAreEvents : Type 0
EndedRegionsAreEvents = (first : Knowledge) (s : State) (fenced : Memory) (t : ℕ)
    → t < logs → min_lines ≤ s.memory.size → is_outermost (known_at first s) t ≡ true
    → (has_guards (known_at first s).guards t ≡ true → has_number (known_at first s).closing t ≡ true)
    → shown s.memory (log_head_line t) 0 ≡ 0 → WroteAndFenced (log_head_line t) s.memory fenced
    → Events first s (with_act (with_memory s fenced) t op.End [])
