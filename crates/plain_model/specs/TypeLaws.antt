-- What plain runs do to typed heaps: what the step of a fit request does fits the heap and leaves it typed,
-- and its reply is of the request's kind.
use Rattle.std.specs.Prelude.{◌≡◌, ℕ, ◌<◌, ◌^◌, true, List, [], ◌∷◌, ◌++◌, length, Some, All}
use Rattle.graph_model.specs.declared.types.Heap.{Heap}
use Rattle.graph_model.specs.declared.types.Graph.{Graph}
use Rattle.graph_model.specs.Heaps.{IsSound}
use Rattle.run_history.specs.declared.act.Op.{Op}
use Rattle.run_history.specs.Recorded.{Recorded}
use Rattle.run_history.specs.Worlds.{World, fits, heap_after_op, heap_after_op_checked}
use Rattle.plain_model.specs.Facts.{SetFacts, shapes_of}
use Rattle.plain_model.specs.Consistent.{IsComplete, IsConsistent}
use Rattle.plain_model.specs.First.{IsOpening}
use Rattle.plain_model.specs.Requests.{PlainRequest, PlainReply}
use Rattle.plain_model.specs.Replies.{NamesBelow, IsReplyTo}
use Rattle.plain_model.specs.Steps.{Does, step}
use Rattle.plain_model.specs.Codes.{Code}
use Rattle.plain_model.specs.Runs.{IsPlainRun, known_of, request_after}
use Rattle.plain_model.specs.Duties.{IsFit, KeepsDuties}
use Rattle.plain_model.specs.Laws.{HasItsSlots}
use Rattle.plain_model.specs.Typed.{IsTyped}

-- A heap of the class set: it has the set's shapes and static fields, and its objects have their slots.
pub record IsOfSet (set : SetFacts) (heap : Heap) : Type 0 where
  pub shapes : heap.shapes ≡ shapes_of set
  -- System.out and each static field of the set
  pub statics : length set.statics < length heap.statics
  pub slots : All (HasItsSlots heap) heap.objects

-- ---- steps

-- What a fit request's step does fits the heap, where it leaves it fewer than 2^32 objects.
abbrev pub FitStepsFit : Type 0
FitStepsFit = (set : SetFacts) (world : World) (t taken : ℕ) (request : PlainRequest)
    (o : Op) (r : PlainReply)
    → IsConsistent set → IsOfSet set world.heap → IsFit set world t request
    → step set world t taken request ≡ Does o r → length (heap_after_op world.heap o).objects < 2 ^ 32
    → fits world.heap o ≡ true

-- A fit request's step leaves a typed heap typed.
abbrev pub FitStepsKeepHeapsTyped : Type 0
FitStepsKeepHeapsTyped = (set : SetFacts) (world : World) (t taken : ℕ) (request : PlainRequest)
    (o : Op) (r : PlainReply)
    → IsConsistent set → world.heap.shapes ≡ shapes_of set → IsTyped set world.heap
    → IsFit set world t request → step set world t taken request ≡ Does o r
    → IsTyped set (heap_after_op world.heap o)

-- The reply to a fit request is of the request's kind.
abbrev pub RepliesAreOfTheirKind : Type 0
RepliesAreOfTheirKind = (set : SetFacts) (world : World) (t taken : ℕ) (request : PlainRequest)
    (o : Op) (r : PlainReply)
    → IsConsistent set → IsOfSet set world.heap → IsTyped set world.heap → IsFit set world t request
    → step set world t taken request ≡ Does o r → IsReplyTo set request r

-- What the reply to a fit request names is there after the step.
abbrev pub RepliesAreThere : Type 0
RepliesAreThere = (set : SetFacts) (world : World) (t taken : ℕ) (request : PlainRequest)
    (o : Op) (r : PlainReply)
    → IsSound world.heap → IsFit set world t request → step set world t taken request ≡ Does o r
    → NamesBelow (length (heap_after_op world.heap o).objects) r

-- ---- runs

-- After a plain run the heap is one of the set.
abbrev pub HeapsOfRunsAreOfTheSet : Type 0 → Type 0
HeapsOfRunsAreOfTheSet Frames = (set : SetFacts) (main : ℕ) (opening : Graph)
    (code : Code set main opening Frames) (acts : List Recorded) → IsComplete set → IsOpening set opening
    → IsPlainRun set main opening code acts → IsOfSet set (known_of set main opening code acts).world.heap

-- After a plain run of code that keeps its duties the heap is typed.
abbrev pub HeapsOfRunsAreTyped : Type 0 → Type 0
HeapsOfRunsAreTyped Frames = (set : SetFacts) (main : ℕ) (opening : Graph)
    (code : Code set main opening Frames) (acts : List Recorded) → IsConsistent set → IsOpening set opening
    → KeepsDuties set main opening code → IsPlainRun set main opening code acts
    → IsTyped set (known_of set main opening code acts).world.heap

-- the act fits the heap before it, so the heap after it is the checked one
pub record FitsItsHeap (set : SetFacts) (main : ℕ) (opening : Graph) {Frames : Type 0}
    (code : Code set main opening Frames) (front : List Recorded) (a : Recorded) : Type 0 where
  pub fit : fits (known_of set main opening code front).world.heap a.act.op ≡ true
  pub heap : (known_of set main opening code (front ++ a ∷ [])).world.heap
      ≡ heap_after_op_checked (known_of set main opening code front).world.heap a.act.op

-- Each act of a plain run of code that keeps its duties fits the heap before it, where it leaves fewer than
-- 2^32 objects.
abbrev pub ActsOfRunsFit : Type 0 → Type 0
ActsOfRunsFit Frames = (set : SetFacts) (main : ℕ) (opening : Graph) (code : Code set main opening Frames)
    (front : List Recorded) (a : Recorded) (rest : List Recorded) → IsConsistent set → IsOpening set opening
    → KeepsDuties set main opening code → IsPlainRun set main opening code (front ++ a ∷ rest)
    → length (known_of set main opening code (front ++ a ∷ [])).world.heap.objects < 2 ^ 32
    → FitsItsHeap set main opening code front a

-- At each point of such a run the reply to a thread's request is of its kind.
abbrev pub RepliesOfRunsAreOfTheirKind : Type 0 → Type 0
RepliesOfRunsAreOfTheirKind Frames = (set : SetFacts) (main : ℕ) (opening : Graph)
    (code : Code set main opening Frames) (acts : List Recorded) (t taken : ℕ) (request : PlainRequest)
    (o : Op) (r : PlainReply) → IsConsistent set → IsOpening set opening
    → KeepsDuties set main opening code → IsPlainRun set main opening code acts
    → request_after set main opening code acts t ≡ Some request
    → step set (known_of set main opening code acts).world t taken request ≡ Does o r
    → IsReplyTo set request r
