-- What operations do to the parts of a world, and which operations fit a heap, as tables.
use Rattle.std.specs.Prelude.{◌≡◌, ℕ, pos, Bool, true, false, List, [], ◌∷◌, ◌++◌, map, Some, None}
use Rattle.ap_base.specs.declared.place.Place.TheVariants.{Static, Slot}
use Rattle.graph_model.specs.declared.types.Value.TheVariants.{Int, Null, Obj as Object}
use Rattle.run_history.specs.declared.act.PlainKey.TheVariants.{Object as ObjectKey, Class as ClassKey}
use Rattle.run_history.specs.declared.act.Stage.TheVariants as stage
use Rattle.run_history.specs.declared.act.Op.{Op}
use Rattle.run_history.specs.declared.act.Op.TheVariants as op
use Rattle.run_history.specs.declared.plain.Progress.TheVariants.{Untouched, BegunBy, Finished}
use Rattle.run_history.specs.declared.plain.Monitor.{Monitor}
use Rattle.run_history.specs.Worlds.{World, new_thread, after, fits}
use Rattle.run_history.specs.Ring.{ring}

-- an operation of a thread
pub record Done : Type 0 where
  pub thread : ℕ
  pub op : Op

abbrev pub by : ℕ → Op → Done
by t o = record { thread = t; op = o }

abbrev pub world_after : World → List Done → World
world_after world [] = world
world_after world (d ∷ ds) = world_after (after world d.thread d.op) ds

-- two threads, two classes that nobody has begun, and the ring of nodes
abbrev pub ring_world : World
ring_world = record {
  heap = ring;
  monitors = [];
  classes = Untouched ∷ Untouched ∷ [];
  threads = new_thread None ∷ new_thread (Some 1) ∷ [];
}

-- the monitor of an object, or of a class, with its owner and count
abbrev pub of_object : ℕ → ℕ → ℕ → Monitor
of_object n t count = record { key = ObjectKey n; owner = t; count = count }

abbrev pub of_class : ℕ → ℕ → ℕ → Monitor
of_class n t count = record { key = ClassKey n; owner = t; count = count }

abbrev pub begun_by_1 : List Done
begun_by_1 = by 1 (op.Init 0 stage.Begun) ∷ []

abbrev pub entered_twice : List Done
entered_twice = by 0 (op.Enter (ObjectKey 1)) ∷ by 0 (op.Enter (ObjectKey 1)) ∷ []

-- thread 1 enters the monitors of two classes and of an object with the number of one of them
abbrev pub entered_four : List Done
entered_four =
    entered_twice
    ++ by 1 (op.Enter (ClassKey 1)) ∷ by 1 (op.Enter (ClassKey 0)) ∷ by 1 (op.Enter (ObjectKey 0)) ∷ []

-- Entries are counted, for each object and each class, and the last exit gives the monitor up.
pub record MonitorsCount : Type 0 where
  pub entered : (world_after ring_world entered_four).monitors
      ≡ of_object 1 0 2 ∷ of_class 1 1 1
      ∷ of_class 0 1 1 ∷ of_object 0 1 1 ∷ []
  pub one_exit : (world_after ring_world (entered_four ++ by 0 (op.Exit (ObjectKey 1)) ∷ [])).monitors
      ≡ of_object 1 0 1 ∷ of_class 1 1 1
      ∷ of_class 0 1 1 ∷ of_object 0 1 1 ∷ []
  pub given_up : (world_after ring_world (entered_four
      ++ by 0 (op.Exit (ObjectKey 1)) ∷ by 1 (op.Exit (ClassKey 0)) ∷ by 0 (op.Exit (ObjectKey 1))
      ∷ [])).monitors
      ≡ of_class 1 1 1 ∷ of_object 0 1 1 ∷ []

-- A class is begun by the thread that begins it, and finished once its initialiser has ended.
pub record ClassesAreBegunAndDone : Type 0 where
  pub begun : (world_after ring_world (begun_by_1 ++ by 0 (op.Init 1 stage.Begun) ∷ [])).classes
      ≡ BegunBy 1 ∷ BegunBy 0 ∷ []
  pub ready : (world_after ring_world (begun_by_1 ++ by 0 (op.Init 0 stage.Ready) ∷ [])).classes
      ≡ BegunBy 1 ∷ Untouched ∷ []
  pub finished : (world_after ring_world (begun_by_1 ++ by 1 (op.Init 0 stage.Done) ∷ [])).classes
      ≡ Finished ∷ Untouched ∷ []

-- A started thread has its Thread object. A region is as deep as it was begun more often than ended, thread
-- by thread. A thread that ended keeps the class of what ended it.
pub record ThreadsChange : Type 0 where
  pub started : (world_after ring_world (by 1 (op.Start 2 2) ∷ [])).threads
      ≡ new_thread None ∷ new_thread (Some 1) ∷ new_thread (Some 2) ∷ []
  pub deeper : (world_after ring_world
      (by 1 op.Begin ∷ by 0 op.Begin ∷ by 1 op.Begin ∷ by 0 op.End ∷ [])).threads
      ≡ new_thread None ∷ record { object = Some 1; depth = 2; ended = false; uncaught = None } ∷ []
  pub ended : (world_after ring_world (by 1 (op.Ended (Some 7)) ∷ by 0 (op.Ended None) ∷ [])).threads
      ≡ record { object = None; depth = 0; ended = true; uncaught = None }
      ∷ record { object = Some 1; depth = 0; ended = true; uncaught = Some 7 } ∷ []

abbrev pub doing_nothing : List Op
doing_nothing =
    op.Pause
    ∷ op.Read (Static 0) (Object 2)
    ∷ op.Length 0 2
    ∷ op.Class (Some 0) (Some 0)
    ∷ op.Same true
    ∷ op.Join 1
    ∷ op.Init 1 stage.Ready
    ∷ op.Print (55 ∷ [])
    ∷ op.Asked (Static 0) (Object 1)
    ∷ op.Joined
    ∷ op.Guarded (Static 0)
    ∷ op.Closing
    ∷ op.Fenced
    ∷ []

-- these operations leave the world as it is
abbrev pub MostChangeNothing : Type 0
MostChangeNothing = map (after ring_world 1) doing_nothing ≡ map (λ (o : Op). ring_world) doing_nothing

-- Alloc and Throw make the next object, and a store changes one place.
pub record HeapsChange : Type 0 where
  pub made : (after ring_world 1 (op.Alloc 3 0 2)).heap.objects
      ≡ ring.objects ++ record { shape = 0; values = Int (pos 0) ∷ Null ∷ [] } ∷ []
  pub thrown : (after ring_world 1 (op.Throw 3 0)).heap.objects
      ≡ ring.objects ++ record { shape = 0; values = Int (pos 0) ∷ Null ∷ [] } ∷ []
  pub static : (after ring_world 1 (op.Stored (Static 0) Null)).heap.statics ≡ Null ∷ []
  pub slot : (after ring_world 1 (op.Stored (Slot 1 1) (Object 2))).heap.objects
      ≡ record { shape = 0; values = Int (pos 5) ∷ Object 2 ∷ [] }
      ∷ record { shape = 0; values = Int (pos 8) ∷ Object 2 ∷ [] }
      ∷ record { shape = 0; values = Int (pos 6) ∷ Object 0 ∷ [] }
      ∷ []

-- an operation, and whether it fits the ring
pub record Fitting : Type 0 where
  pub op : Op
  pub is_fit : Bool

abbrev pub fit : Op → Bool → Fitting
fit o b = record { op = o; is_fit = b }

abbrev pub fittings : List Fitting
fittings =
    fit (op.Alloc 3 0 2) true
    ∷ fit (op.Alloc 2 0 2) false
    ∷ fit (op.Alloc 4 0 2) false
    ∷ fit (op.Alloc 3 1 2) false
    ∷ fit (op.Alloc 3 0 1) false
    ∷ fit (op.Throw 3 0) true
    ∷ fit (op.Throw 4 0) false
    ∷ fit (op.Throw 3 1) false
    ∷ fit (op.Stored (Static 0) (Object 2)) true
    ∷ fit (op.Stored (Static 1) Null) false
    ∷ fit (op.Stored (Static 0) (Object 3)) false
    ∷ fit (op.Stored (Slot 2 1) Null) true
    ∷ fit (op.Stored (Slot 2 2) Null) false
    ∷ fit (op.Stored (Slot 3 0) Null) false
    ∷ fit op.Fenced true
    ∷ []

abbrev pub OperationsFit : Type 0
OperationsFit = map (λ (f : Fitting). fits ring f.op) fittings ≡ map (λ (f : Fitting). f.is_fit) fittings
