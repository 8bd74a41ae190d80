-- The laws of the moments of a run, of its start, and of stopped recoveries.
use Rattle.image_layout.specs.Places.{logs, log_head_line}
use Rattle.image_meaning.specs.Logs.{is_log_line}
use Rattle.std.specs.Prelude.{false, ◌≡◌, ◌≢◌, ◌<◌, ◌≤◌, ℕ, List, [], ◌∷◌, ◌++◌, length}
use Rattle.graph_model.specs.declared.types.Graph.{Graph}
use Rattle.line_image.specs.Trace.{Outcome}
use Rattle.line_memory.specs.Memory.{Memory, CanLeaveAll, IsDurable, SameImage, shown}
use Rattle.line_memory.specs.Moments.{Goes, CountsFrom}
use Rattle.image_meaning.specs.Directories.{Directory}
use Rattle.image_meaning.specs.Logs.{NoneLogged}
use Rattle.image_meaning.specs.Recovering.{IsRecovering}
use Rattle.image_meaning.specs.Opening.{HoldsGraph}
use Rattle.image_meaning.specs.Meaning.{StandsFor}
use Rattle.run_history.specs.Recorded.{Recorded}
use Rattle.run_history.specs.Knowing.{Knowledge, known_after}
use Rattle.plain_model.specs.First.{numbers_to}
use Rattle.stop_theorem.specs.Choices.{Threads, NoThread}
use Rattle.stop_theorem.specs.Layouts.{Layout, HasRootSlots}
use Rattle.stop_theorem.specs.Stops.{Stands, IsAllowedImage}
use Rattle.stop_theorem.specs.Starts.{Starts}
use Rattle.stop_theorem.specs.Moments.{IsSafe}

-- ---- moments

-- the memory's moments so far, of a run from what was first known over an image of so many lines with this directory
abbrev pub IsSafeRun : Knowledge → (size : ℕ) → Directory → (begin : ℕ) → Memory → List Recorded → Memory → Type 0
IsSafeRun first size directory begin start acts m =
    IsSafe (λ done c. IsAllowedImage first size directory done c) begin start acts m

-- A call of the image each moment of which leaves what a stop might leave before it: it is allowed by the
-- acts so far.
abbrev pub CallsKeepMoments : Type 0
CallsKeepMoments = (first : Knowledge) (lay : Layout) (Waits : Threads) (begin : ℕ) (start : Memory)
    (acts : List Recorded) (old new : Memory)
    → Stands first.world.heap (known_after first acts) lay Waits old
    → IsSafeRun first lay.size lay.directory begin start acts old
    → Goes old.image new.image (CanLeaveAll old) → CountsFrom begin new → old.calls ≤ new.calls
    → IsSafeRun first lay.size lay.directory begin start acts new

-- a store, which is no call
abbrev pub StoresKeepMoments : Type 0
StoresKeepMoments = (first : Knowledge) (size : ℕ) (directory : Directory) (begin : ℕ) (start : Memory)
    (acts : List Recorded) (old new : Memory) → IsSafeRun first size directory begin start acts old
    → SameImage old new → IsSafeRun first size directory begin start acts new

-- an act, at the number of calls so far
abbrev pub ActsKeepMoments : Type 0
ActsKeepMoments = (first : Knowledge) (size : ℕ) (directory : Directory) (begin : ℕ) (start : Memory)
    (acts : List Recorded) (m : Memory) (a : Recorded) → IsSafeRun first size directory begin start acts m
    → a.act.at ≡ m.calls → IsSafeRun first size directory begin start (acts ++ a ∷ []) m

-- ---- beginnings and fences

-- A run starts in the invariant.
abbrev pub StartsStand : Type 0
StartsStand = (known : Knowledge) (lay : Layout) (m : Memory) → Starts known lay m
    → Stands known.world.heap known lay NoThread m

-- What a stop within a recovery leaves is allowed, as what the recovery began with was; so any number of
-- recoveries that stop.
abbrev pub RecoveryKeepsAllowed : Type 0
RecoveryKeepsAllowed = (first : Knowledge) (size : ℕ) (directory : Directory) (acts : List Recorded)
    (c d : Outcome) → IsAllowedImage first size directory acts c → IsRecovering c d
    → IsAllowedImage first size directory acts d

-- A run starts over a memory whose image stands for the graph that is durable at first, with nothing logged:
-- each word outside the logs is durable, and so are the logs' counts.
abbrev pub FoundImagesStart : Type 0
FoundImagesStart = (known : Knowledge) (m : Memory) (graph : Graph) → known.marks ≡ []
    → known.durable ≡ numbers_to (length graph.nodes) → HoldsGraph known.world.heap graph
    → HasRootSlots known.world.heap → 32768 ≤ m.size → shown m 0 0 ≢ 0 → StandsFor m.size (shown m) graph
    → NoneLogged (shown m)
    → ((l w : ℕ) → l < m.size → is_log_line l ≡ false → IsDurable m l w)
    → ((t : ℕ) → t < logs → IsDurable m (log_head_line t) 0)
    → (lay : Layout) × (lay.size ≡ m.size) × Starts known lay m
