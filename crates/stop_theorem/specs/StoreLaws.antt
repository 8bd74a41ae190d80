-- The laws of durable stores outside regions, and of groups of objects that become durable: each keeps the
-- invariant.
use Rattle.std.specs.Prelude.{◌≡◌, ◌<◌, ℕ, true, false, List, [], Some, None}
use Rattle.ap_base.specs.declared.place.Place.{Place}
use Rattle.graph_model.specs.declared.types.Value.{Value}
use Rattle.graph_model.specs.declared.types.Heap.{Heap}
use Rattle.line_image.specs.Trace.{Outcome}
use Rattle.line_memory.specs.Memory.{Memory, CanLeaveAll, IsWritten, MadeFence}
use Rattle.image_meaning.specs.Corresponds.{Holds}
use Rattle.run_history.specs.declared.act.Op.TheVariants as op
use Rattle.run_history.specs.Knowing.{Knowledge, Single, guard_of, fate_of, owes_fence, unfenced_at}
use Rattle.stop_theorem.specs.Choices.{Threads, with_thread, without_thread}
use Rattle.stop_theorem.specs.Layouts.{Layout, Lies, place_kind, is_kept_place}
use Rattle.stop_theorem.specs.Stops.{IsAfterFence, Stands}
use Rattle.stop_theorem.specs.InvariantEvents.{Puts, known_by, line_at, word_at}
use Rattle.stop_theorem.specs.StoreEvents.{Joins, joined}

-- A durable store outside regions, at a place that nobody guards. Its thread owes no fence; what others have
-- stored, in the line or at the place, may be
-- unfenced.
abbrev pub SingleStoresKeep : Type 0
SingleStoresKeep = (first : Heap) (known : Knowledge) (lay : Layout) (Waits : Threads) (old new : Memory)
    (t at : ℕ) (p : Place) (v : Value) (x : ℕ)
    → Stands first known lay Waits old → Puts (line_at lay known p) (word_at known p) x old new
    → line_at lay known p < old.size
    → is_kept_place known p ≡ true → guard_of known.guards p ≡ None → fate_of known t p ≡ Single t
    → owes_fence known.unfenced t ≡ false → Waits t ≡ false
    → Holds (Lies lay known) (place_kind known.world.heap p) x v
    → Stands first (known_by known t at (op.Stored p v) []) lay Waits new

-- Once the line of its store was written back, the thread waits.
abbrev pub WrittenStoresWait : Type 0
WrittenStoresWait = (first : Heap) (known : Knowledge) (lay : Layout) (Waits : Threads) (m : Memory) (t : ℕ)
    (p : Place)
    → unfenced_at known.unfenced t ≡ Some p
    → line_at lay known p < m.size → IsWritten m (line_at lay known p) (word_at known p)
    → Stands first known lay Waits m → Stands first known lay (with_thread t Waits) m

-- After a fence a thread that waits may say that it is fenced.
abbrev pub FencesKeep : Type 0
FencesKeep = (first : Heap) (known : Knowledge) (lay : Layout) (Waits : Threads) (m : Memory) (t at : ℕ)
    → Stands first known lay Waits m
    → Waits t ≡ true → ((c : Outcome) → CanLeaveAll m c → IsAfterFence m c)
    → Stands first (known_by known t at op.Fenced []) lay (without_thread t Waits) m

-- A group of objects is sealed, each of whose words is durable.
abbrev pub JoinsKeep : Type 0
JoinsKeep = (first : Heap) (known : Knowledge) (lay new : Layout) (Waits : Threads) (m : Memory) (t at : ℕ)
    (named : List ℕ)
    → Stands first known lay Waits m → Joins known lay new m t at named
    → Stands first (joined known t at named) new Waits m

-- After a fence a stop leaves what a read gives, or what is shown.
abbrev pub FencesSettle : Type 0
FencesSettle = (old new : Memory) (c : Outcome) → MadeFence old new → CanLeaveAll new c → IsAfterFence new c
