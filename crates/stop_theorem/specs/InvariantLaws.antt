-- The laws of the invariant, which is `Stands`, of what is known after some acts and of a memory. `Waits`
-- tells the threads
-- that have written a line back since their store and wait for their fence.
use Rattle.std.specs.Prelude.{◌≡◌, ◌<◌, ◌≤◌, ℕ, true, false, List, [], length, Some}
use Rattle.ap_base.specs.declared.place.Place.{Place}
use Rattle.graph_model.specs.Heaps.{has_number, with_fresh}
use Rattle.graph_model.specs.declared.types.Heap.{Heap}
use Rattle.line_image.specs.Trace.{Outcome}
use Rattle.line_memory.specs.Memory.{Memory, CanLeaveAll}
use Rattle.run_history.specs.declared.act.Op.{Op}
use Rattle.run_history.specs.declared.act.Op.TheVariants as op
use Rattle.run_history.specs.Recorded.{Recorded}
use Rattle.run_history.specs.Knowing.{Knowledge, known_after, guard_of, with_sure}
use Rattle.stop_theorem.specs.Choices.{Threads, stores_at}
use Rattle.stop_theorem.specs.Orderly.{IsOrderly}
use Rattle.stop_theorem.specs.Layouts.{Layout, KeepsPlaces, is_kept_place}
use Rattle.stop_theorem.specs.Stops.{Stands, IsAllowedImage}
use Rattle.stop_theorem.specs.InvariantEvents.{Calls, Puts, IsFreeWord, known_by, ShowsKnown}

-- What a stop may leave now opens with the directory, and stands for a graph that the acts allow.
abbrev pub StandingMemoryIsAllowed : Type 0
StandingMemoryIsAllowed = (first : Knowledge) (acts : List Recorded) (lay : Layout) (Waits : Threads)
    (m : Memory) (c : Outcome)
    → Stands first.world.heap (known_after first acts) lay Waits m → CanLeaveAll m c
    → IsAllowedImage first lay.size lay.directory acts c

-- A call of the image keeps the invariant, whichever line it writes, and made or failed.
abbrev pub CallsKeep : Type 0
CallsKeep = (first : Heap) (known : Knowledge) (lay : Layout) (Waits : Threads) (old new : Memory)
    → 33 ≤ lay.size → Calls old new
    → Stands first known lay Waits old → Stands first known lay Waits new

-- So does a store to a word that nothing durable depends on: of an unsealed copy, or of a free line.
abbrev pub FreeStoresKeep : Type 0
FreeStoresKeep = (first : Heap) (known : Knowledge) (lay : Layout) (Waits : Threads) (old new : Memory)
    (line word x : ℕ) → Puts line word x old new → line < old.size
    → IsFreeWord known lay line word
    → Stands first known lay Waits old → Stands first known lay Waits new

-- An act that is sure, stores at no durable place and gives no guard up: the visible acts but for durable
-- stores and ends of regions, Asked and Guarded.
abbrev pub SureActsKeep : Type 0
SureActsKeep = (first : Heap) (known next : Knowledge) (lay : Layout) (Waits : Threads) (m : Memory) (o : Op)
    → KeepsPlaces known next → next.marks ≡ with_sure known.marks o
    → ((p : Place) (t : ℕ) → guard_of known.guards p ≡ Some t → guard_of next.guards p ≡ Some t)
    → ((p : Place) → is_kept_place known p ≡ true → stores_at p o ≡ false)
    → Stands first known lay Waits m → IsOrderly first next → ShowsKnown lay next m
    → Stands first next lay Waits m

abbrev pub GuardsKeep : Type 0
GuardsKeep = (first : Heap) (known : Knowledge) (lay : Layout) (Waits : Threads) (m : Memory) (t at : ℕ)
    (p : Place)
    → Stands first known lay Waits m → Stands first (known_by known t at (op.Guarded p) []) lay Waits m

-- one more object leaves each durable place where it was
abbrev pub NewObjectsKeepPlaces : Type 0
NewObjectsKeepPlaces = (known next : Knowledge) (lay : Layout) (shape count : ℕ)
    → next.durable ≡ known.durable → next.world.heap ≡ with_fresh known.world.heap shape count
    → ((n : ℕ) → has_number known.durable n ≡ true → n < length known.world.heap.objects)
    → KeepsPlaces known next
