-- What holds of every plain run and of every history, whatever the class set, the opening graph and the code.
use Rattle.std.specs.Prelude.{◌≡◌, ◌⊎◌, ◌↔◌, ℕ, ◌<◌, true, false, not, ◌^◌, List, [], ◌∷◌, ◌++◌, map, filter, length, Some}
use Rattle.std.specs.Prelude.{None, All}
use Rattle.graph_model.specs.declared.types.Value.TheVariants.{Obj as Object}
use Rattle.graph_model.specs.declared.types.Obj.{Obj}
use Rattle.graph_model.specs.declared.types.Heap.{Heap}
use Rattle.graph_model.specs.declared.types.Graph.{Graph}
use Rattle.graph_model.specs.Canon.{canon_of}
use Rattle.graph_model.specs.Heaps.{has_number, shape_at, IsSound}
use Rattle.graph_model.specs.Reach.{Reaches}
use Rattle.run_history.specs.declared.act.Op.{Op}
use Rattle.run_history.specs.declared.act.Op.TheVariants as op
use Rattle.run_history.specs.Recorded.{Recorded}
use Rattle.run_history.specs.Worlds.{World, after, heap_after_op}
use Rattle.run_history.specs.Knowing.{Knowledge, Pending, pending_of, known_after_op, next_known, known_after}
use Rattle.run_history.specs.Wanted.{Wishes, WantsNow, IsClosed}
use Rattle.plain_model.specs.Facts.{SetFacts, shapes_of}
use Rattle.plain_model.specs.Consistent.{IsComplete}
use Rattle.plain_model.specs.First.{first_heap, IsOpening}
use Rattle.plain_model.specs.Requests.{PlainRequest, PlainReply}
use Rattle.plain_model.specs.Steps.{Does, step}
use Rattle.plain_model.specs.Codes.{Code, is_persistent, frames_after_op}
use Rattle.plain_model.specs.Runs.{IsAbout, MayAct, IsPlainRun, known_of, wants_of, frames_of, request_after, output_of}
use Rattle.plain_model.specs.Duties.{IsFit, KeepsDuties}

-- The history with one more act is a plain run exactly where the history is one and the act may come next.
-- What is known, what is wanted and the frames go on by that act.
pub record GoesOnBy (set : SetFacts) (main : ℕ) (opening : Graph) {Frames : Type 0}
    (code : Code set main opening Frames) (acts : List Recorded) (a : Recorded) : Type 0 where
  pub run : IsPlainRun set main opening code (acts ++ a ∷ [])
      ↔ (IsPlainRun set main opening code acts
      × MayAct set (known_of set main opening code acts) (wants_of set main opening code acts)
      (request_after set main opening code acts a.act.thread) a)
  pub known : known_of set main opening code (acts ++ a ∷ [])
      ≡ next_known (known_of set main opening code acts) a
  pub wants : (u n : ℕ) → wants_of set main opening code (acts ++ a ∷ []) u n
      ↔ WantsNow (next_known (known_of set main opening code acts) a) (wants_of set main opening code acts) u n
  pub frames : frames_of set main opening code (acts ++ a ∷ [])
      ≡ frames_after_op set main opening code (known_of set main opening code acts).world
      (frames_of set main opening code acts) a.act.thread a.act.op

abbrev pub OneMoreAct : Type 0 → Type 0
OneMoreAct Frames = (set : SetFacts) (main : ℕ) (opening : Graph) (code : Code set main opening Frames)
    (acts : List Recorded) (a : Recorded) → GoesOnBy set main opening code acts a

-- A front of a plain run is a plain run.
abbrev pub FrontsArePlainRuns : Type 0 → Type 0
FrontsArePlainRuns Frames = (set : SetFacts) (main : ℕ) (opening : Graph) (code : Code set main opening Frames)
    (front rest : List Recorded) → IsPlainRun set main opening code (front ++ rest)
    → IsPlainRun set main opening code front

-- Each visible act of a plain run is what the plain step of its thread's request does.
abbrev pub VisibleActsAreSteps : Type 0 → Type 0
VisibleActsAreSteps Frames = (set : SetFacts) (main : ℕ) (opening : Graph) (code : Code set main opening Frames)
    (front : List Recorded) (a : Recorded) (rest : List Recorded)
    → IsPlainRun set main opening code (front ++ a ∷ rest) → is_persistent a.act.op ≡ false
    → IsAbout set (known_of set main opening code front)
    (request_after set main opening code front a.act.thread) a.act.thread a.act.op

abbrev pub ops_of : List Recorded → List Op
ops_of acts = map (λ (a : Recorded). a.act.op) acts

-- The output of a history is that of its parts, one after the other.
abbrev pub OutputOfParts : Type 0
OutputOfParts = (front rest : List Recorded) → output_of (front ++ rest) ≡ output_of front ++ output_of rest

-- Histories of the same operations have the same output.
abbrev pub OutputByOperations : Type 0
OutputByOperations = (left right : List Recorded) → ops_of left ≡ ops_of right
    → output_of left ≡ output_of right

-- After every front of a plain run, the empty one too, what durable objects and durable roots refer to is durable.
abbrev pub DurableReferToDurable : Type 0 → Type 0
DurableReferToDurable Frames = (set : SetFacts) (main : ℕ) (opening : Graph)
    (code : Code set main opening Frames)
    (front rest : List Recorded) → IsOpening set opening → IsPlainRun set main opening code (front ++ rest)
    → IsClosed (known_of set main opening code front)

-- some thread wanted object n after a front of these acts
pub record WasWanted (set : SetFacts) (main : ℕ) (opening : Graph) {Frames : Type 0}
    (code : Code set main opening Frames)
    (acts : List Recorded) (n : ℕ) : Type 0 where
  pub front : List Recorded
  pub rest : List Recorded
  pub is_front : acts ≡ front ++ rest
  pub thread : ℕ
  pub wanted : wants_of set main opening code front thread n

-- An object that is durable after a plain run is a node of the opening graph, or was wanted by some thread.
abbrev pub OnlyWantedBecomesDurable : Type 0 → Type 0
OnlyWantedBecomesDurable Frames = (set : SetFacts) (main : ℕ) (opening : Graph)
    (code : Code set main opening Frames)
    (acts : List Recorded) (n : ℕ) → IsPlainRun set main opening code acts
    → has_number (known_of set main opening code acts).durable n ≡ true
    → (n < length opening.nodes) ⊎ WasWanted set main opening code acts n

-- Thread u's Asked act is pending, and its value, or an object that u wanted before, reaches object n.
pub record IsWantedNow (known : Knowledge) (Before : Wishes) (u n : ℕ) : Type 0 where
  pub pending : Pending
  pub is_pending : pending_of known.asked u ≡ Some pending
  pub reached : Reaches known.world.heap (λ m. (pending.value ≡ Object m) ⊎ Before u m) n

-- What a thread wants after an act it wants for its pending Asked act.
abbrev pub WantsForTheAsked : Type 0 → Type 0
WantsForTheAsked Frames = (set : SetFacts) (main : ℕ) (opening : Graph) (code : Code set main opening Frames)
    (acts : List Recorded) (a : Recorded) (u n : ℕ) → wants_of set main opening code (acts ++ a ∷ []) u n
    → IsWantedNow (known_of set main opening code (acts ++ a ∷ [])) (wants_of set main opening code acts) u n

-- Nothing is wanted before the first act.
abbrev pub WantsNothingAtFirst : Type 0 → Type 0
WantsNothingAtFirst Frames = (set : SetFacts) (main : ℕ) (opening : Graph) (code : Code set main opening Frames)
    (u n : ℕ) → wants_of set main opening code [] u n → ⊥

abbrev pub IsStored : Op → Type 0
IsStored (op.Stored place value) = Unit {0}
IsStored o = ⊥

-- thread u asked this value for this place in these acts, and has made no store since
pub record WasAsked (acts : List Recorded) (u : ℕ) (p : Pending) : Type 0 where
  pub front : List Recorded
  pub asked : Recorded
  pub rest : List Recorded
  pub is_here : acts ≡ front ++ asked ∷ rest
  pub by_thread : asked.act.thread ≡ u
  pub is_asked : asked.act.op ≡ op.Asked p.place p.value
  pub no_store : All (λ (a : Recorded). a.act.thread ≡ u → IsStored a.act.op → ⊥) rest

-- What is pending of a thread was asked by it, and it has made no store since.
abbrev pub PendingWasAsked : Type 0 → Type 0
PendingWasAsked Frames = (set : SetFacts) (main : ℕ) (opening : Graph) (code : Code set main opening Frames)
    (acts : List Recorded) (u : ℕ) (p : Pending)
    → pending_of (known_of set main opening code acts).asked u ≡ Some p → WasAsked acts u p

-- An object that is durable after a front of a history is durable after all of it.
abbrev pub DurableObjectsStay : Type 0
DurableObjectsStay = (known : Knowledge) (front rest : List Recorded) (n : ℕ)
    → has_number (known_after known front).durable n ≡ true
    → has_number (known_after known (front ++ rest)).durable n ≡ true

abbrev pub visible : List Recorded → List Recorded
visible acts = filter (λ (a : Recorded). not (is_persistent a.act.op)) acts

abbrev pub world_after : World → List Recorded → World
world_after world [] = world
world_after world (a ∷ acts) = world_after (after world a.act.thread a.act.op) acts

-- The world after a history is the first one with the visible acts done in order.
abbrev pub WorldByVisibleActs : Type 0
WorldByVisibleActs = (known : Knowledge) (acts : List Recorded)
    → (known_after known acts).world ≡ world_after known.world (visible acts)

-- An operation of persistence leaves the world as it is.
abbrev pub PersistenceLeavesTheWorld : Type 0
PersistenceLeavesTheWorld = (known : Knowledge) (t : ℕ) (named : List ℕ) (o : Op) → is_persistent o ≡ true
    → (known_after_op known t named o).world ≡ known.world

-- The first heap of a class set and its opening graph is sound.
abbrev pub FirstHeapIsSound : Type 0
FirstHeapIsSound = (set : SetFacts) (opening : Graph) → IsComplete set → IsOpening set opening
    → IsSound (first_heap set opening)

-- a graph is canonical where it is the graph of some sound heap
abbrev pub IsCanonical : Graph → Type 0
IsCanonical graph = (heap : Heap) × IsSound heap × (graph ≡ canon_of heap)

-- The first heap of a canonical opening graph has that graph.
abbrev pub FirstHeapHasItsGraph : Type 0
FirstHeapHasItsGraph = (set : SetFacts) (opening : Graph) → IsComplete set → IsOpening set opening
    → IsCanonical opening → canon_of (first_heap set opening) ≡ opening

-- an object without elements has as many slots as its class has fields
abbrev pub HasItsSlots : Heap → Obj → Type 0
HasItsSlots heap o = (shape_at heap o.shape).element ≡ None → length o.values ≡ length (shape_at heap o.shape).fields

-- After a plain run each object has the slots of its class.
abbrev pub ObjectsHaveTheirSlots : Type 0 → Type 0
ObjectsHaveTheirSlots Frames = (set : SetFacts) (main : ℕ) (opening : Graph)
    (code : Code set main opening Frames) (acts : List Recorded) → IsComplete set → IsOpening set opening
    → IsPlainRun set main opening code acts
    → let heap = (known_of set main opening code acts).world.heap in All (HasItsSlots heap) heap.objects

-- A fit request's step leaves the heap sound, where it leaves it fewer than 2^32 objects.
abbrev pub FitStepsKeepHeapsSound : Type 0
FitStepsKeepHeapsSound = (set : SetFacts) (world : World) (t taken : ℕ) (request : PlainRequest)
    (o : Op) (r : PlainReply)
    → IsComplete set → world.heap.shapes ≡ shapes_of set → IsSound world.heap → IsFit set world t request
    → step set world t taken request ≡ Does o r → length (heap_after_op world.heap o).objects < 2 ^ 32
    → IsSound (heap_after_op world.heap o)

-- After a plain run of code that keeps its duties the heap is sound, where it has fewer than 2^32 objects.
abbrev pub HeapsOfRunsAreSound : Type 0 → Type 0
HeapsOfRunsAreSound Frames = (set : SetFacts) (main : ℕ) (opening : Graph)
    (code : Code set main opening Frames) (acts : List Recorded) → IsComplete set → IsOpening set opening
    → KeepsDuties set main opening code → IsPlainRun set main opening code acts
    → length (known_of set main opening code acts).world.heap.objects < 2 ^ 32
    → IsSound (known_of set main opening code acts).world.heap
