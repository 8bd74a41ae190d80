-- The events of a run, one after another: each is one of the kinds for which a law says that it keeps the
-- invariant. An event of the runtime is one or a few of these: a store and its act, or a call of the image
-- and then an act.
use Rattle.std.specs.Prelude.{◌≡◌, ◌⊎◌, ◌<◌, ◌≤◌, ◌+◌, ◌^◌, ◌-◌, ℕ, true, false, List, [], ◌∷◌, ◌++◌}
use Rattle.ap_base.specs.declared.place.Place.{Place}
use Rattle.graph_model.specs.declared.types.Value.{Value}
use Rattle.line_image.specs.Trace.{Outcome, LeftWithin}
use Rattle.line_memory.specs.Memory.{Memory, CanLeaveAll, IsTelling, SameImage, OneCall}
use Rattle.line_memory.specs.Moments.{KeepsShown, CountsFrom}
use Rattle.image_meaning.specs.Directories.{Directory}
use Rattle.run_history.specs.declared.act.Op.{Op}
use Rattle.run_history.specs.declared.act.Op.TheVariants as op
use Rattle.run_history.specs.Recorded.{Recorded}
use Rattle.run_history.specs.Kept.{acts_before}
use Rattle.run_history.specs.Knowing.{Knowledge, known_after, next_known}
use Rattle.stop_theorem.specs.Choices.{Threads, NoThread, with_thread, without_thread}
use Rattle.stop_theorem.specs.Layouts.{Layout}
use Rattle.stop_theorem.specs.Stops.{regions_of, IsAfterFence, Stands, IsAllowedImage}
use Rattle.stop_theorem.specs.InvariantEvents.{Puts, IsFreeWord}
use Rattle.stop_theorem.specs.Conditions.{AtEachStop, IsSureAct, StoresAt, IsSingleUnguarded, IsWrittenBack, StoresUncounted}
use Rattle.stop_theorem.specs.Conditions.{RaisesCount, IsInRegion, LowersCount, EndsRegion}
use Rattle.stop_theorem.specs.Starts.{Starts}
use Rattle.stop_theorem.specs.Laws.{IsSafeRun}
use Rattle.stop_theorem.specs.StoreEvents.{Joins}

-- the acts so far, where durable objects lie, which threads wait for a fence, and the memory
pub record State : Type 0 where
  pub acts : List Recorded
  pub layout : Layout
  pub waits : Threads
  pub memory : Memory

-- what is known after the acts so far
abbrev pub known_at : Knowledge → State → Knowledge
known_at first s = known_after first s.acts

-- an act of thread t now, which names these objects
abbrev pub act_now : State → ℕ → Op → List ℕ → Recorded
act_now s t o named = record { act = record { thread = t; at = s.memory.calls; op = o }; named = named }

-- the state with that act, and with another memory
abbrev pub with_act : State → ℕ → Op → List ℕ → State
with_act s t o named = record s { acts = s.acts ++ act_now s t o named ∷ [] }

abbrev pub with_memory : State → Memory → State
with_memory s m = record s { memory = m }

-- what is known after an act of thread t now
abbrev pub known_next : Knowledge → State → ℕ → Op → List ℕ → Knowledge
known_next first s t o named = next_known (known_at first s) (act_now s t o named)

-- One event, from one state to the next. What it needs is told of its own thread, word or log alone. A fence
-- and the act Fenced are made in one turn: another thread's store between them, once it is written back,
-- leaves also the value before it, which is neither read nor shown any more.
pub data Event (first : Knowledge) : State → State → Type 0 where
  -- a call of the image, made or failed
  Called : (s : State) (new : Memory) → KeepsShown s.memory new
      → SameImage s.memory new ⊎ OneCall s.memory new → s.memory.calls ≤ new.calls
      → Event first s (with_memory s new)
  -- a store to a word that nothing durable depends on
  FreeStored : (s : State) (new : Memory) (line word x : ℕ) → Puts line word x s.memory new
      → line < s.memory.size → IsFreeWord (known_at first s) s.layout line word
      → Event first s (with_memory s new)
  -- an act that is sure and stores at no durable place
  Acted : (s : State) (t : ℕ) (o : Op) (named : List ℕ)
      → IsSureAct (known_at first s) (known_next first s t o named) s.layout s.memory t o
      → Event first s (with_act s t o named)
  -- a durable store outside regions, then its line written back, then fenced
  SingleStored : (s : State) (new : Memory) (t : ℕ) (p : Place) (v : Value) (x : ℕ)
      → StoresAt (known_at first s) s.layout s.memory new p v x
      → IsSingleUnguarded (known_at first s) s.waits t p
      → Event first s (with_act (with_memory s new) t (op.Stored p v) [])
  Written : (s : State) (t : ℕ) (p : Place)
      → IsWrittenBack (known_at first s) s.layout s.memory t p
      → Event first s (record s { waits = with_thread t s.waits })
  Fenced : (s : State) (t : ℕ) → s.waits t ≡ true → AtEachStop s.memory (λ c. IsAfterFence s.memory c)
      → Event first s (record (with_act s t op.Fenced []) { waits = without_thread t s.waits })
  -- a group of objects becomes durable
  Joined : (s : State) (new : Layout) (t : ℕ) (named : List ℕ)
      → Joins (known_at first s) s.layout new s.memory t s.memory.calls named
      → Event first s (record (with_act s t op.Joined named) { layout = new })
  -- a region guards a place, logs it, stores there, closes, clears its log and ends
  Guarded : (s : State) (t : ℕ) (p : Place) → Event first s (with_act s t (op.Guarded p) [])
  LogWordStored : (s : State) (new : Memory) (line word x : ℕ) → StoresUncounted s.memory new line word x
      → Event first s (with_memory s new)
  CountRaised : (s : State) (new : Memory) (t n : ℕ) (p : Place)
      → RaisesCount (known_at first s) s.layout s.memory new t n p
      → Event first s (with_memory s new)
  RegionStored : (s : State) (new : Memory) (t : ℕ) (p : Place) (v : Value) (x : ℕ)
      → StoresAt (known_at first s) s.layout s.memory new p v x
      → IsInRegion (known_at first s) s.layout s.memory t p
      → Event first s (with_act (with_memory s new) t (op.Stored p v) [])
  Closing : (s : State) (t : ℕ) → AtEachStop s.memory (λ c. regions_of c t ≡ false)
      → Event first s (with_act s t op.Closing [])
  CountLowered : (s : State) (new : Memory) (t : ℕ) → LowersCount (known_at first s) s.layout s.memory new t
      → Event first s (with_memory s new)
  Ended : (s : State) (t : ℕ) → EndsRegion (known_at first s) s.memory t
      → Event first s (with_act s t op.End [])

-- events one after another
pub data Events (first : Knowledge) : State → State → Type 0 where
  none : (s : State) → Events first s s
  more : (s middle last : State) → Events first s middle → Event first middle last → Events first s last

-- what is so at every point of a run over an image of so many lines with this directory that tells what is done to it
pub record Runs (first : Knowledge) (lines : ℕ) (directory : Directory) (begin : ℕ) (start : Memory) (s : State)
    : Type 0 where
  pub size : s.layout.size ≡ lines
  pub directory_is : s.layout.directory ≡ directory
  pub tells : IsTelling s.memory.image.trace
  pub stands : Stands first.world.heap (known_at first s) s.layout s.waits s.memory
  pub safe : IsSafeRun first lines directory begin start s.acts s.memory

-- Whatever the events: a stop within a call since the start leaves only images that open with the directory and stand
-- for a graph which the acts before that call allow, and a stop after the last call only such that all acts allow.
pub record StopsAreAllowed (first : Knowledge) (size : ℕ) (directory : Directory) (begin : ℕ) (start : Memory)
    (s : State) : Type 0 where
  pub within : (n : ℕ) → 0 < n → n ≤ s.memory.calls → begin + n < 2 ^ 64 - 1 → (c : Outcome)
      → LeftWithin s.memory.image.trace (begin + n) c → start.calls < n
      → IsAllowedImage first size directory (acts_before n s.acts) c
  pub now : (c : Outcome) → CanLeaveAll s.memory c → IsAllowedImage first size directory s.acts c

-- An event keeps what is so at every point of a run.
abbrev pub EventsKeep : Type 0
EventsKeep = (first : Knowledge) (size : ℕ) (directory : Directory) (begin : ℕ) (start : Memory) (old new : State)
    → 33 ≤ size
    → Event first old new → Runs first size directory begin start old → Runs first size directory begin start new

-- the run at its start
abbrev pub at_start : Layout → Memory → State
at_start lay m = record { acts = []; layout = lay; waits = NoThread; memory = m }

-- A run starts so, over an image that was opened, with nothing logged and each word durable that says
-- something of what is durable.
abbrev pub RunsStart : Type 0
RunsStart = (first : Knowledge) (lay : Layout) (begin : ℕ) (m : Memory) → Starts first lay m
    → IsTelling m.image.trace → CountsFrom begin m → Runs first lay.size lay.directory begin m (at_start lay m)

-- THE STOP THEOREM.
abbrev pub EveryStopIsAllowed : Type 0
EveryStopIsAllowed = (first : Knowledge) (size : ℕ) (directory : Directory) (begin : ℕ) (start : Memory)
    (old new : State) → 33 ≤ size
    → Runs first size directory begin start old → Events first old new
    → StopsAreAllowed first size directory begin start new

-- An image may tell nothing of what is done to it: all this is then said where the image tells it at the
-- start of the run.
abbrev pub RunsWhereTold : Knowledge → (size : ℕ) → Directory → (begin : ℕ) → Memory → State → Type 0
RunsWhereTold first size directory begin start s = IsTelling start.image.trace
    → Runs first size directory begin start s

abbrev pub EventsKeepWhereTold : Type 0
EventsKeepWhereTold = (first : Knowledge) (size : ℕ) (directory : Directory) (begin : ℕ) (start : Memory)
    (old new : State) → 33 ≤ size
    → (IsTelling start.image.trace → Event first old new)
    → RunsWhereTold first size directory begin start old → RunsWhereTold first size directory begin start new

-- So at each point of a run, however its events came.
abbrev pub RunningStopsAreAllowed : Type 0
RunningStopsAreAllowed = (first : Knowledge) (size : ℕ) (directory : Directory) (begin : ℕ) (start : Memory)
    (s : State)
    → Runs first size directory begin start s
    → StopsAreAllowed first size directory begin start s
