-- A step that stores an object stores it at the same place in each later world: while a thread has asked a value, no act of
-- another thread disturbs its store.
use Rattle.std.specs.Prelude.{◌≡◌, ℕ, ◌<◌, ◌≤◌, List, length}
use Rattle.ap_base.specs.declared.place.Place.{Place}
use Rattle.graph_model.specs.declared.types.Value.TheVariants.{Obj as Object}
use Rattle.graph_model.specs.declared.types.Heap.{Heap}
use Rattle.graph_model.specs.declared.types.Graph.{Graph}
use Rattle.graph_model.specs.Heaps.{object_at, values_of}
use Rattle.natives.specs.declared.requests.Reply.TheVariants as reply
use Rattle.run_history.specs.declared.act.Op.TheVariants as op
use Rattle.run_history.specs.Recorded.{Recorded}
use Rattle.run_history.specs.Worlds.{World}
use Rattle.run_history.specs.Knowing.{next_known}
use Rattle.plain_model.specs.Facts.{SetFacts}
use Rattle.plain_model.specs.Requests.{PlainRequest}
use Rattle.plain_model.specs.Codes.{Code}
use Rattle.plain_model.specs.Runs.{MayAct, known_of, wants_of, request_after}
use Rattle.plain_model.specs.Steps.{Does, step}
use Rattle.lasting_steps.specs.Passing.{PassesIn}

-- each object of one heap has its shape and so many slots in the other
pub record Grows (heap heap' : Heap) : Type 0 where
  pub more : length heap.objects ≤ length heap'.objects
  pub shape : (n : ℕ) → n < length heap.objects → (object_at heap' n).shape ≡ (object_at heap n).shape
  pub slots : (n : ℕ) → n < length heap.objects → length (values_of heap' n) ≡ length (values_of heap n)

-- Thread t's request stores this object at this place, in this world, and the object is there.
pub record StoresObject (set : SetFacts) (w : World) (t : ℕ) (request : PlainRequest) (place : Place) (n : ℕ) : Type 0 where
  pub does : step set w t 1 request ≡ Does (op.Stored place (Object n)) reply.Done
  pub there : n < length w.heap.objects

-- It does so in each world that has grown, in which the class is still passed.
abbrev pub StoresOfObjectsStay : Type 0
StoresOfObjectsStay = (set : SetFacts) (w w' : World) (t : ℕ) (request : PlainRequest) (place : Place) (n : ℕ)
    → StoresObject set w t request place n → Grows w.heap w'.heap → PassesIn w' t request
    → StoresObject set w' t request place n

-- Each act leaves it so, of whatever thread: a machine of many threads can keep it of each whose asked value is pending.
abbrev pub AskedStoresStay : Type 0 → Type 0
AskedStoresStay Frames =
    (set : SetFacts) (main : ℕ) (opening : Graph) (code : Code set main opening Frames) (acts : List Recorded)
    (a : Recorded) (t : ℕ) (request : PlainRequest) (place : Place) (n : ℕ)
    → MayAct set (known_of set main opening code acts) (wants_of set main opening code acts)
    (request_after set main opening code acts a.act.thread) a
    → StoresObject set (known_of set main opening code acts).world t request place n
    → StoresObject set (next_known (known_of set main opening code acts) a).world t request place n
