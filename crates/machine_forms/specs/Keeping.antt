-- What a machine keeps of its plain run and of each stop, at every point of its run.
--
-- A table says where the objects lie; whatever table it is, each event leads to one again.
use Rattle.std.specs.Prelude.{◌≡◌, ◌↔◌, ℕ, ◌<◌, ◌≤◌, ◌^◌, Bool, true, false, ◌&&◌, ◌||◌, nat_eq, List, [], ◌∷◌, length}
use Rattle.std.specs.Prelude.{slice_index, slice_index_or, None, Some}
use Rattle.ap_base.specs.declared.kind.Kind.{Kind}
use Rattle.ap_base.specs.declared.place.Place.{Place}
use Rattle.graph_model.specs.declared.types.Value.TheVariants.{Obj as Object}
use Rattle.graph_model.specs.declared.types.Heap.{Heap}
use Rattle.graph_model.specs.Heaps.{no_shape, has_number, place_is}
use Rattle.monitors.specs.Indexed.{AreSound}
use Rattle.line_memory.specs.Memory.{IsTelling}
use Rattle.image_layout.specs.Places.{first_object_line}
use Rattle.image_meaning.specs.Directories.{Directory}
use Rattle.image_meaning.specs.Corresponds.{root_static}
use Rattle.run_history.specs.Knowing.{Knowledge, Pending, Guard, has_guards, pending_of, owes_fence, unfenced_at}
use Rattle.run_history.specs.Wanted.{IsClosed}
use Rattle.run_history.specs.Worlds.{depth_of}
use Rattle.plain_model.specs.Facts.{classes_of}
use Rattle.plain_model.specs.Limits.{words_left}
use Rattle.stop_theorem.specs.Layouts.{Layout, HasRootSlots}
use Rattle.stop_theorem.specs.InvariantEvents.{line_at}
use Rattle.stop_theorem.specs.Running.{Runs}
use Rattle.shared_objects.specs.Worlds.{world_of, heap_of, KnowsMonitors}
use Rattle.shared_steps.specs.Lasting.{AtMost}
use Rattle.step_forms.specs.Follows.{IsHeapOf}
use Rattle.run_forms.specs.Standing.{IsLaunch}
use Rattle.image_meaning.specs.Objects.{is_number}
use Rattle.twin_forms.specs.Table.{Entry, entry, word_of, kind_at, is_reference, InP, IsClaimed}
use Rattle.twin_forms.specs.Sights.{AllKnown, view_of}
use Rattle.two_spaces.specs.declared.spaces.Static.TheVariants.{Root}
use Rattle.two_spaces.specs.Seen.{Spaces}
use Rattle.two_spaces.specs.Whole.{Stands, no_static}
use Rattle.convert_words.specs.Agreeing.{Is}
use Rattle.convert_words.specs.Scenes.{AgreesAt}
use Rattle.machine_forms.specs.declared.doing.Doing.{Doing}
use Rattle.machine_forms.specs.declared.doing.Doing.TheVariants.{Nothing, Converting, Writing, Fencing}
use Rattle.region_log.specs.Kept.{KeepsLog, KeepsRegion}
use Rattle.region_events.specs.Guards.{HasOld, KeepsGuards}
use Rattle.machine_forms.specs.Machines.{Opening, Machine, first_of, known_in, wants_in, roots_in, memory_of, shown_in}
use Rattle.machine_forms.specs.Machines.{scene_of, doing_of, log_of, layout_in, state_in}

-- ---- the heap

-- The heap's shapes are first the directory's, in its order. A shape that is a class's is that class's.
pub record IsOfDirectory (directory : Directory) (s : Spaces) : Type 0 where
  pub many : length directory.shapes ≤ length s.classes
  pub shapes : (k : ℕ) → k < length directory.shapes → slice_index s.classes k < length s.shapes
      → slice_index_or directory.shapes k no_shape
      ≡ slice_index_or s.shapes (slice_index s.classes k) no_shape

-- The word of a slot that holds numbers is that of a number of the slot's kind.
abbrev pub HoldsNumbers : Spaces → List Entry → Type 0
HoldsNumbers s es = (n k : ℕ) (kind : Kind) → n < length es → k < (entry es n).slots
    → kind_at (view_of s.twin) (entry es n) k ≡ Some kind → is_reference (Some kind) ≡ false
    → is_number kind (word_of (view_of s.twin) (entry es n) k) ≡ true

-- The heap is whole; heap, queues, image and monitors agree; the image is the one that was opened, of the
-- directory; objects lie in the lines for objects, and each is of a shape that the directory has.
pub record KeepsHeap (o : Opening) (m : Machine) (es : List Entry) : Type 0 where
  pub whole : Stands m.spaces es
  pub agrees : AgreesAt (scene_of m) es
  pub sound : AreSound m.rest.monitors
  pub directory : IsOfDirectory o.directory m.spaces
  pub listed : (n : ℕ) → n < length es → (entry es n).shape < length o.directory.shapes
  pub numbers : HoldsNumbers m.spaces es
  pub low : (n : ℕ) → n < length es → 0 < (entry es n).stage → first_object_line ≤ (entry es n).line
  pub behind : first_object_line ≤ m.free
  pub within : m.free ≤ (memory_of m).size
  pub size : (memory_of m).size ≡ o.start.size
  pub long : 32768 ≤ o.start.size
  pub known : AllKnown (memory_of m)
  pub telling : IsTelling o.start.image.trace → IsTelling (memory_of m).image.trace

-- ---- the world

-- Each durable root lies in its root slot, and no other static field does.
pub record HasSlotsOfRoots (heap : Heap) (s : Spaces) : Type 0 where
  pub sized : HasRootSlots heap
  pub there : (r : ℕ) → r < length heap.roots
      → slice_index_or s.statics (root_static heap r) no_static ≡ Root r
  pub others : (f r : ℕ) → slice_index_or s.statics f no_static ≡ Root r
      → (r < length heap.roots) × (root_static heap r ≡ f)

-- What the heap and the rest show is the world of the acts. The heap is one of the class set, and typed.
pub record KeepsWorld (o : Opening) (m : Machine) : Type 0 where
  pub launched : IsLaunch o.launch
  pub world : (known_in o m).world ≡ world_of (roots_in o m) (shown_in m) m.rest
  pub heap : IsHeapOf o.launch.set (shown_in m)
  pub monitors : KnowsMonitors (shown_in m) m.rest
  pub classes : length m.rest.classes.items ≡ length (classes_of o.launch.set)
  pub counts : AtMost (length m.acts) m.rest
  pub nodes : length o.launch.opening.nodes ≤ length (shown_in m).objects
  pub words : (shown_in m).left
      ≡ words_left o.launch.limits o.launch.opening (heap_of [] (shown_in m))
  pub roots : HasSlotsOfRoots (known_in o m).world.heap m.spaces

-- ---- what was asked, and what is owed

-- What a thread is about is what its acts say: it has asked, or it owes a fence, or neither.
abbrev pub IsDoing : Knowledge → Layout → ℕ → Doing → Type 0
IsDoing known lay t Nothing = (pending_of known.asked t ≡ None) × (owes_fence known.unfenced t ≡ false)
IsDoing known lay t Converting =
    ((p : Pending) × (pending_of known.asked t ≡ Some p)) × (owes_fence known.unfenced t ≡ false)
IsDoing known lay t (Writing line) = (pending_of known.asked t ≡ None)
    × ((p : Place) × (unfenced_at known.unfenced t ≡ Some p) × (line ≡ line_at lay known p))
    × (line < lay.size)
IsDoing known lay t Fencing = (pending_of known.asked t ≡ None)
    × ((p : Place) × (unfenced_at known.unfenced t ≡ Some p))

-- The object that the thread has asked to make durable stands first in its queue.
pub record QueuesFirst (known : Knowledge) (m : Machine) (es : List Entry) (t : ℕ) : Type 0 where
  pub pending : Pending
  pub is_pending : pending_of known.asked t ≡ Some pending
  pub object : ℕ
  pub value : pending.value ≡ Object object
  pub first : Is m.queue es t 0 object

-- A thread's log is what the acts say of its region, and the memory keeps it.
pub record KeepsLogOf (o : Opening) (m : Machine) (es : List Entry) (t : ℕ) : Type 0 where
  pub thread : (log_of m t).thread ≡ t
  pub guards : KeepsGuards (known_in o m) (layout_in o es) (log_of m t)
  pub keeps : KeepsLog (log_of m t) (memory_of m)
  pub region : KeepsRegion (log_of m t) (memory_of m)
  pub old : HasOld (log_of m t).underway (memory_of m)

-- the thread has no region open
pub record HasNoRegion (known : Knowledge) (t : ℕ) : Type 0 where
  pub guards : has_guards known.guards t ≡ false
  pub closing : has_number known.closing t ≡ false
  pub depth : depth_of known.world t ≡ 0

-- whether the open region of thread t has guarded the place
abbrev pub guards_place : List Guard → ℕ → Place → Bool
guards_place [] t p = false
guards_place (g ∷ gs) t p = (nat_eq g.thread t && place_is g.place p) || guards_place gs t p

-- no place is guarded by two threads
abbrev pub GuardApart : List Guard → Type 0
GuardApart gs = (p : Place) (t u : ℕ) → guards_place gs t p ≡ true → guards_place gs u p ≡ true → t ≡ u

-- So it is with each thread's log, and no further thread has a region. No two regions guard one place.
pub record KeepsRegions (o : Opening) (m : Machine) (es : List Entry) : Type 0 where
  pub many : length m.logs ≡ 64
  pub each : (t : ℕ) → t < 64 → KeepsLogOf o m es t
  pub others : (t : ℕ) → 64 ≤ t → HasNoRegion (known_in o m) t
  pub apart : GuardApart (known_in o m).guards

-- Exactly those objects are durable that are sealed. What a thread has claimed it wants; what it has queued
-- begins with what it asked. What durable places refer to is durable.
pub record KeepsAsked (o : Opening) (m : Machine) (es : List Entry) : Type 0 where
  pub durable : (n : ℕ) → (has_number (known_in o m).durable n ≡ true) ↔ InP es n
  pub doing : (t : ℕ) → IsDoing (known_in o m) (layout_in o es) t (doing_of m t)
  pub threads : length m.doing ≡ 64
  pub queued : (t i n : ℕ) → Is m.queue es t i n → QueuesFirst (known_in o m) m es t
  pub wanted : (t n : ℕ) → IsClaimed es t n → wants_in o m t n
  pub closed : IsClosed (known_in o m)
  pub timed : (known_in o m).at ≤ (memory_of m).calls
  pub few : (memory_of m).calls < 2 ^ 64
  pub regions : KeepsRegions o m es

-- ---- stops

-- Whatever a stop leaves, now or within each call so far, is allowed, where the image tells what is done to it.
abbrev pub KeepsStops : Opening → Machine → List Entry → Type 0
KeepsStops o m es = IsTelling o.start.image.trace
    → Runs (first_of o) o.start.size o.directory o.begin o.start (state_in o m es)

-- ---- all of it

pub record KeepsRun (o : Opening) (m : Machine) (es : List Entry) : Type 0 where
  pub heap : KeepsHeap o m es
  pub world : KeepsWorld o m
  pub asked : KeepsAsked o m es
  pub stops : KeepsStops o m es
