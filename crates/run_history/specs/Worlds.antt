-- The plain world: one unmoving heap, the monitors that are held, how far each class is initialised, and the threads
-- (JVMS 2.5, 2.11.10, 5.5). What each operation does to it needs no request: the act alone tells it.
use Rattle.std.specs.Prelude.{ℕ, zero, suc, pred, ◌^◌, Bool, true, false, ◌&&◌, nat_eq, nat_lt, List, [], ◌∷◌, ◌++◌, length}
use Rattle.std.specs.Prelude.{slice_set, slice_get, Option, Some, None, if◌then◌else◌}
use Rattle.ap_base.specs.declared.place.Place.{Place}
use Rattle.ap_base.specs.declared.place.Place.TheVariants.{Static, Slot}
use Rattle.graph_model.specs.declared.types.Value.{Value}
use Rattle.graph_model.specs.declared.types.Value.TheVariants.{Int, Long, Null, Obj as Reference}
use Rattle.graph_model.specs.declared.types.Shape.{Shape}
use Rattle.graph_model.specs.declared.types.Heap.{Heap}
use Rattle.graph_model.specs.Heaps.{stored, with_fresh, shape_at, values_of}
use Rattle.run_history.specs.declared.act.PlainKey.{PlainKey}
use Rattle.run_history.specs.declared.act.PlainKey.TheVariants.{Object, Class}
use Rattle.run_history.specs.declared.act.Stage.TheVariants as stage
use Rattle.run_history.specs.declared.act.Op.{Op}
use Rattle.run_history.specs.declared.act.Op.TheVariants as op
use Rattle.run_history.specs.declared.plain.Progress.{Progress}
use Rattle.run_history.specs.declared.plain.Progress.TheVariants.{BegunBy, Finished}
use Rattle.run_history.specs.declared.plain.Monitor.{Monitor}

-- A thread: the number of its Thread object (none for thread 0), the depth of its failure-atomic region, whether it has
-- ended, and the class of the throwable that ended it, if one did.
pub record Thread : Type 0 where
  pub object : Option ℕ
  pub depth : ℕ
  pub ended : Bool
  pub uncaught : Option ℕ

pub record World : Type 0 where
  pub heap : Heap
  pub monitors : List Monitor
  pub classes : List Progress
  pub threads : List Thread

abbrev pub new_thread : Option ℕ → Thread
new_thread object = record { object = object; depth = 0; ended = false; uncaught = None }

-- how deep the region of thread t is; 0 outside regions
abbrev pub depth_in : Option Thread → ℕ
depth_in None = 0
depth_in (Some thread) = thread.depth

abbrev pub depth_of : World → ℕ → ℕ
depth_of world t = depth_in (slice_get world.threads t)

abbrev pub key_is : PlainKey → PlainKey → Bool
key_is (Object m) (Object n) = nat_eq m n
key_is (Class m) (Class n) = nat_eq m n
key_is (Object m) (Class n) = false
key_is (Class m) (Object n) = false

-- the monitor of a key, if a thread holds it
abbrev pub held : List Monitor → PlainKey → Option Monitor
held [] key = None
held (m ∷ ms) key = if key_is m.key key then Some m else held ms key

-- A monitor's count rises by one at each entry of its owner; a monitor that nobody held is held from then on.
abbrev pub entered : List Monitor → PlainKey → ℕ → List Monitor
entered [] key t = record { key = key; owner = t; count = 1 } ∷ []
entered (m ∷ ms) key t = if key_is m.key key then record m { count = suc m.count } ∷ ms else m ∷ entered ms key t

-- with one entry less, and given up after the last
abbrev pub one_less : Monitor → List Monitor → List Monitor
one_less m ms = if nat_eq m.count 1 then ms else record m { count = pred m.count } ∷ ms

abbrev pub exited : List Monitor → PlainKey → List Monitor
exited [] key = []
exited (m ∷ ms) key = if key_is m.key key then one_less m ms else m ∷ exited ms key

abbrev pub at_thread : (Thread → Thread) → List Thread → ℕ → List Thread
at_thread f [] t = []
at_thread f (thread ∷ threads) zero = f thread ∷ threads
at_thread f (thread ∷ threads) (suc t) = thread ∷ at_thread f threads t

-- the heap after an operation: Alloc and Throw make the next object, Stored changes one place
abbrev pub heap_after_op : Heap → Op → Heap
heap_after_op heap (op.Alloc n shape count) = with_fresh heap shape count
heap_after_op heap (op.Throw n class) = with_fresh heap class 0
heap_after_op heap (op.Stored place value) = stored heap place value
heap_after_op heap _ = heap

-- the heap after these operations, in order
abbrev pub heap_after : Heap → List Op → Heap
heap_after heap [] = heap
heap_after heap (o ∷ os) = heap_after (heap_after_op heap o) os

-- whether the heap has this place
abbrev pub has_place : Heap → Place → Bool
has_place heap (Static n) = nat_lt n (length heap.statics)
has_place heap (Slot n i) = nat_lt n (length heap.objects) && nat_lt i (length (values_of heap n))

-- whether a value is no object, or one of the first n
abbrev pub is_below : ℕ → Value → Bool
is_below n (Int i) = true
is_below n (Long i) = true
is_below n Null = true
is_below n (Reference m) = nat_lt m n

-- whether n is the number of the next object, there are then fewer than 2 ^ 32 objects, and its shape is there
abbrev pub is_next : Heap → ℕ → ℕ → Bool
is_next heap n shape =
    nat_eq n (length heap.objects) && nat_lt (suc n) (2 ^ 32) && nat_lt shape (length heap.shapes)

-- whether an object of this shape may have so many slots: as many as its fields, or any number of elements
abbrev pub may_have : Shape → ℕ → Bool
may_have shape count = elim shape.element [ None ↦ nat_eq count (length shape.fields) | Some kind ↦ true ]

-- Whether an operation fits the heap: a new object has the next number, a shape that is there, and as many slots as
-- that may have; a store's place is there, and so is the object that it stores, if it stores one.
abbrev pub fits : Heap → Op → Bool
fits heap (op.Alloc n shape count) = is_next heap n shape && may_have (shape_at heap shape) count
fits heap (op.Throw n class) = is_next heap n class
fits heap (op.Stored place value) = has_place heap place && is_below (length heap.objects) value
fits heap _ = true

-- the heap after an operation that fits it; one that doesn't changes nothing
abbrev pub heap_after_op_checked : Heap → Op → Heap
heap_after_op_checked heap o = if fits heap o then heap_after_op heap o else heap

abbrev pub monitors_after_op : List Monitor → ℕ → Op → List Monitor
monitors_after_op monitors t (op.Enter key) = entered monitors key t
monitors_after_op monitors t (op.Exit key) = exited monitors key
monitors_after_op monitors t _ = monitors

abbrev pub classes_after_op : List Progress → ℕ → Op → List Progress
classes_after_op classes t (op.Init class stage.Begun) = slice_set classes class (BegunBy t)
classes_after_op classes t (op.Init class stage.Done) = slice_set classes class Finished
classes_after_op classes t _ = classes

abbrev pub threads_after_op : List Thread → ℕ → Op → List Thread
threads_after_op threads t (op.Start n child) = threads ++ new_thread (Some n) ∷ []
threads_after_op threads t op.Begin = at_thread (λ thread. record thread { depth = suc thread.depth }) threads t
threads_after_op threads t op.End = at_thread (λ thread. record thread { depth = pred thread.depth }) threads t
threads_after_op threads t (op.Ended uncaught) = at_thread (λ thread. record thread { ended = true; uncaught = uncaught }) threads t
threads_after_op threads t _ = threads

-- The world after an operation of thread t.
abbrev pub after : World → ℕ → Op → World
after world t o = record {
  heap = heap_after_op world.heap o;
  monitors = monitors_after_op world.monitors t o;
  classes = classes_after_op world.classes t o;
  threads = threads_after_op world.threads t o;
}
