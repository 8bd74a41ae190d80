-- The laws that events happen to copies that aren't sealed: stores to their words, acts that change no
-- durable place, and a group of copies that is written back, fenced and sealed.
use Rattle.std.specs.Prelude.{◌≡◌, ◌⊎◌, ◌<◌, ◌≤◌, ◌+◌, ◌==◌, ◌&&◌, ℕ, true, false, List, [], ◌∷◌, length, if◌then◌else◌}
use Rattle.graph_model.specs.Heaps.{has_number, values_of, is_kept_slot}
use Rattle.line_memory.specs.Memory.{Memory, shown, IsWritten}
use Rattle.image_layout.specs.Places.{min_lines, first_object_line, lines_of, object_line, object_word}
use Rattle.image_meaning.specs.Corresponds.{LiesAt, CanJoin}
use Rattle.run_history.specs.declared.act.Op.{Op}
use Rattle.run_history.specs.declared.act.Op.TheVariants as op
use Rattle.run_history.specs.Knowing.{Knowledge, durable_at, owes_fence, is_outermost}
use Rattle.stop_theorem.specs.Layouts.{Layout, Lies}
use Rattle.stop_theorem.specs.Stops.{Stands}
use Rattle.stop_theorem.specs.InvariantEvents.{Puts, ShowsKnown}
use Rattle.stop_theorem.specs.Running.{State, known_at, with_act, with_memory, Event, Events, Runs}
use Rattle.stop_theorem.specs.Given.{WroteBack, FencedAll}
use Rattle.stop_theorem.specs.WrongOrders.{nodes_known}

-- ---- stores

-- The line lies behind the superblock, the root slots, the directory and the logs, and no durable object has
-- it.
pub record IsFreeLine (known : Knowledge) (lay : Layout) (line : ℕ) : Type 0 where
  pub low : first_object_line ≤ line
  pub apart : (n : ℕ) → has_number known.durable n ≡ true → (line < lay.line_of n)
      ⊎ (lay.line_of n + lines_of (length (values_of known.world.heap n)) ≤ line)

-- Where the memory shows the plain heap, a store to a line that no durable object has is an event, and so is
-- one to the word of a durable object's slot that isn't kept. (Each slot is kept today.)
pub record FreeStoresAreEvents : Type 0 where
  pub lines : (first : Knowledge) (s : State) (new : Memory) (line word x : ℕ)
      → ShowsKnown s.layout (known_at first s) s.memory → IsFreeLine (known_at first s) s.layout line
      → line < s.memory.size → Puts line word x s.memory new
      → Event first s (with_memory s new)
  pub unkept : (first : Knowledge) (s : State) (new : Memory) (n i x : ℕ)
      → ShowsKnown s.layout (known_at first s) s.memory → has_number (known_at first s).durable n ≡ true
      → i < length (values_of (known_at first s).world.heap n)
      → is_kept_slot (known_at first s).world.heap n i ≡ false → s.memory.size ≡ s.layout.size
      → Puts (object_line (s.layout.line_of n) i) (object_word i) x s.memory new
      → Event first s (with_memory s new)

-- ---- acts

-- The operation changes no durable place. A store owes no fence, and an End isn't an outermost one. Guarded,
-- Joined, Closing and Fenced are events of their own.
abbrev pub IsQuiet : Knowledge → ℕ → Op → Type 0
IsQuiet known t (op.Stored place value) =
    (owes_fence known.unfenced t ≡ false) × (durable_at known place ≡ false)
IsQuiet known t op.End = is_outermost known t ≡ false
IsQuiet known t (op.Guarded place) = ⊥
IsQuiet known t op.Joined = ⊥
IsQuiet known t op.Closing = ⊥
IsQuiet known t op.Fenced = ⊥
IsQuiet known t o = Unit {0}

-- Where the memory shows the plain heap, an act that changes no durable place is an event.
abbrev pub QuietActsAreEvents : Type 0
QuietActsAreEvents = (first : Knowledge) (s : State) (t : ℕ) (o : Op)
    → IsQuiet (known_at first s) t o → ShowsKnown s.layout (known_at first s) s.memory
    → Event first s (with_act s t o [])

-- ---- groups

-- these lines were written back, one after another
pub data WroteBackEach : List ℕ → Memory → Memory → Type 0 where
  written_none : (m : Memory) → WroteBackEach [] m m
  written_more : (line : ℕ) (lines : List ℕ) (old middle new : Memory) → WroteBack line old middle
      → WroteBackEach lines middle new → WroteBackEach (line ∷ lines) old new

-- Each write-back is an event, and in the end all their words are written back.
abbrev pub WrittenLinesAreEvents : Type 0
WrittenLinesAreEvents = (first : Knowledge) (s : State) (lines : List ℕ) (new : Memory)
    → WroteBackEach lines s.memory new
    → Events first s (with_memory s new) × ((l w : ℕ) → has_number lines l ≡ true → IsWritten new l w)

-- object n is one of the group, and this is its line
abbrev pub LieAt : List ℕ → (ℕ → ℕ) → LiesAt
LieAt named at line n = (has_number named n && at n == line) ≡ true

-- None of the group is durable. It is closed: what the memory shows of its objects corresponds to the plain
-- heap, so that they lie apart, and their kept slots refer to durable objects and to one another alone. Their
-- heads and kept slots are written back.
pub record IsWrittenGroup (known : Knowledge) (lay : Layout) (m : Memory) (named : List ℕ) (at : ℕ → ℕ)
    : Type 0 where
  pub fresh : (n : ℕ) → has_number named n ≡ true → has_number known.durable n ≡ false
  pub closed : CanJoin (Lies lay known) (LieAt named at) lay.directory lay.size (shown m) known.world.heap
  pub heads : (n : ℕ) → has_number named n ≡ true → IsWritten m (at n) 0
  pub slots : (n i : ℕ) → has_number named n ≡ true → i < length (values_of known.world.heap n)
      → is_kept_slot known.world.heap n i ≡ true → IsWritten m (object_line (at n) i) (object_word i)

-- the layout with the group's objects at these lines, with the heads that the memory shows
abbrev pub with_group : Layout → Memory → List ℕ → (ℕ → ℕ) → Layout
with_group lay m named at = record lay {
  line_of = λ n. if has_number named n then at n else lay.line_of n;
  head = λ n. if has_number named n then shown m (at n) 0 else lay.head n;
}

-- Where the invariant holds, a group that is closed and written back becomes durable by a fence and its act.
abbrev pub FencedGroupsAreEvents : Type 0
FencedGroupsAreEvents = (first : Knowledge) (s : State) (fenced : Memory) (t : ℕ) (named : List ℕ)
    (at : ℕ → ℕ)
    → Stands first.world.heap (known_at first s) s.layout s.waits s.memory → min_lines ≤ s.layout.size
    → IsWrittenGroup (known_at first s) s.layout s.memory named at → FencedAll s.memory fenced
    → Events first s (record (with_act (with_memory s fenced) t op.Joined named) {
      layout = with_group s.layout s.memory named at;
    })

-- In a run that begins, objects 1 and 2 aren't durable, and object 1 refers to object 2. The group of the two
-- is sealed.
pub record OneGroupIsSealed : Type 0 where
  pub state : State
  pub fenced : Memory
  pub at : ℕ → ℕ
  pub nothing_yet : state.acts ≡ []
  pub runs : Runs nodes_known 32768 state.layout.directory 0 state.memory state
  pub events : Events nodes_known state
      (record (with_act (with_memory state fenced) 0 op.Joined (1 ∷ 2 ∷ [])) {
        layout = with_group state.layout state.memory (1 ∷ 2 ∷ []) at;
      })
