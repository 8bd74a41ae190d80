-- Wrong orders of a run's events, each over one small heap: what a stop then leaves stands for a graph that
-- the acts don't allow. Each word of what is left is shown, or was so when it was fenced last.
use Rattle.std.specs.Prelude.{◌≡◌, ℕ, pos, Bool, List, [], ◌∷◌, None}
use Rattle.ap_base.specs.declared.place.Place.TheVariants.{Static, Slot}
use Rattle.graph_model.specs.declared.types.Value.{Value}
use Rattle.graph_model.specs.declared.types.Value.TheVariants.{Int, Null, Obj as Object}
use Rattle.graph_model.specs.declared.types.Heap.{Heap}
use Rattle.line_image.specs.Trace.{Outcome}
use Rattle.line_memory.specs.Memory.{Memory, CanLeaveAll}
use Rattle.image_meaning.specs.Directories.{Directory}
use Rattle.image_meaning.specs.Logs.{put_back}
use Rattle.image_meaning.specs.Corresponds.{Corresponds}
use Rattle.image_meaning.specs.Laws.{Opens, told_by}
use Rattle.run_history.specs.declared.act.Op.{Op}
use Rattle.run_history.specs.declared.act.Op.TheVariants as op
use Rattle.run_history.specs.Recorded.{Recorded}
use Rattle.run_history.specs.Ring.{node}
use Rattle.run_history.specs.Worlds.{new_thread}
use Rattle.run_history.specs.Knowing.{Knowledge, known_at_first, known_after}
use Rattle.stop_theorem.specs.Layouts.{Layout}
use Rattle.stop_theorem.specs.Stops.{IsAllowedImage}
use Rattle.stop_theorem.specs.StoreEvents.{Joins}
use Rattle.stop_theorem.specs.Running.{State, Runs}

-- Of class N with `int v; N n`: the root refers to object 0, and object 1 to object 2.
abbrev pub three_nodes : Value → List Value → List Value → List Value → Heap
three_nodes root zero one two = record {
  shapes = node ∷ [];
  objects =
      record { shape = 0; values = zero }
      ∷ record { shape = 0; values = one }
      ∷ record { shape = 0; values = two }
      ∷ [];
  statics = root ∷ [];
  roots = record { name = 104 ∷ []; at = 0 } ∷ [];
}

-- at first, where object 0 alone is durable
abbrev pub nodes_known : Knowledge
nodes_known = known_at_first
    (record {
      heap = three_nodes (Object 0)
          (Int (pos 5) ∷ Null ∷ []) (Int (pos 6) ∷ Object 2 ∷ []) (Int (pos 7) ∷ Null ∷ []);
      monitors = [];
      classes = [];
      threads = new_thread None ∷ [];
    })
    (0 ∷ [])

-- an act of thread 0
abbrev pub does : Op → Recorded
does o = record { act = record { thread = 0; at = 1; op = o }; named = [] }

-- its act that makes these objects durable
abbrev pub joins : List ℕ → Recorded
joins named = record { act = record { thread = 0; at = 1; op = op.Joined }; named = named }

-- What a stop leaves may not correspond to this heap, once the logs are put back: these acts don't allow its
-- graph.
abbrev pub MayNotBeLeft : List Recorded → Heap → Type 0
MayNotBeLeft acts lost = (lies : ℕ → ℕ → Bool) (size : ℕ) (c : Outcome) (directory kept : Directory)
    → Opens size c directory
    → Corresponds (told_by lies) directory size (put_back c) lost → ¬ IsAllowedImage nodes_known size kept acts c

-- so no run has made these acts over a memory of which a stop may leave this now
abbrev pub RunsNowhere : List Recorded → Heap → Type 0
RunsNowhere acts lost = (lies : ℕ → ℕ → Bool) (size begin : ℕ) (start : Memory) (s : State) (c : Outcome)
    (directory kept : Directory)
    → s.acts ≡ acts → CanLeaveAll s.memory c → Opens size c directory
    → Corresponds (told_by lies) directory size (put_back c) lost → ¬ Runs nodes_known size kept begin start s

-- Words of an image that opens, which correspond to the heap: a stop that leaves them would be of this order.
pub record IsOfAnImage (lost : Heap) : Type 0 where
  pub lies : ℕ → ℕ → Bool
  pub size : ℕ
  pub words : Outcome
  pub directory : Directory
  pub opens : Opens size words directory
  pub corresponds : Corresponds (told_by lies) directory size (put_back words) lost

-- The acts don't allow what is lost, and no run comes to it, though an image may have it.
pub record IsRefused (acts : List Recorded) (lost : Heap) : Type 0 where
  pub of_an_image : IsOfAnImage lost
  pub not_left : MayNotBeLeft acts lost
  pub runs_nowhere : RunsNowhere acts lost

-- the root is to refer to object 1
abbrev pub root_acts : List ℕ → List Recorded
root_acts named =
    does (op.Asked (Static 0) (Object 1)) ∷ joins named ∷ does (op.Stored (Static 0) (Object 1)) ∷ []

-- `v` of object 0 is to be 9
abbrev pub store_9 : Recorded
store_9 = does (op.Stored (Slot 0 0) (Int (pos 9)))

-- and then its `n`
abbrev pub store_itself : Recorded
store_itself = does (op.Stored (Slot 0 1) (Object 0))

-- the heap with these values in object 0
abbrev pub object_0_with : List Value → Heap
object_0_with values = three_nodes (Object 0) values (Int (pos 6) ∷ Object 2 ∷ []) (Int (pos 7) ∷ Null ∷ [])

-- with the root set to object 1, and these values in objects 1 and 2
abbrev pub object_1_with : List Value → List Value → Heap
object_1_with one two = three_nodes (Object 1) (Int (pos 5) ∷ Null ∷ []) one two

-- The six orders.
pub record WrongOrdersAreRefused : Type 0 where
  -- the root is there, and `v` of the copy of object 1 isn't
  pub root_before_copy_is_fenced : IsRefused (root_acts (1 ∷ 2 ∷ []))
      (object_1_with (Int (pos 0) ∷ Object 2 ∷ []) (Int (pos 7) ∷ Null ∷ []))
  -- object 1 is sealed without object 2, to which it refers
  pub seal_without_group : IsRefused (root_acts (1 ∷ []))
      (object_1_with (Int (pos 6) ∷ Object 2 ∷ []) (Int (pos 0) ∷ Null ∷ []))
  -- what its act needs is met by no layout and no memory
  pub no_seal_without_group : (lay new : Layout) (m : Memory) (t at : ℕ)
      → ¬ Joins (known_after nodes_known (does (op.Asked (Static 0) (Object 1)) ∷ [])) lay new m t at (1 ∷ [])
  -- the entry that counts has the place, and its old word isn't there
  pub count_before_entry_is_fenced :
      IsRefused (does op.Begin ∷ does (op.Guarded (Slot 0 0)) ∷ store_9 ∷ [])
      (object_0_with (Int (pos 0) ∷ Null ∷ []))
  -- the log is empty, and one of the region's two stores is there
  pub log_cleared_before_region_is_fenced :
      IsRefused
      (does op.Begin ∷ does (op.Guarded (Slot 0 0)) ∷ store_9
      ∷ does (op.Guarded (Slot 0 1)) ∷ store_itself ∷ does op.Closing ∷ [])
      (object_0_with (Int (pos 9) ∷ Null ∷ []))
  -- the log is empty at the end of an inner region
  pub inner_end_commits :
      IsRefused (does op.Begin ∷ does op.Begin ∷ does (op.Guarded (Slot 0 0)) ∷ store_9 ∷ does op.End ∷ [])
      (object_0_with (Int (pos 9) ∷ Null ∷ []))
  -- the fence is told and wasn't made: the next store is there, and the one before isn't
  pub store_without_fence : IsRefused (store_9 ∷ does op.Fenced ∷ store_itself ∷ [])
      (object_0_with (Int (pos 5) ∷ Object 0 ∷ []))
