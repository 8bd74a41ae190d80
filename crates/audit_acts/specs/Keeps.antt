-- What an audit keeps beside the plain run, after the acts so far.
use Rattle.std.specs.Prelude.{◌≡◌, ◌↔◌, ◌<◌, ◌-◌, ◌^◌, ℕ, Bool, true, false, IsTrue, nat_eq, List, [], ◌∷◌, ◌++◌, length, Option}
use Rattle.ap_base.specs.declared.place.Place.{Place}
use Rattle.graph_model.specs.declared.types.Heap.{Heap}
use Rattle.graph_model.specs.Heaps.{IsSound, has_number}
use Rattle.run_history.specs.declared.act.Act.{Act}
use Rattle.run_history.specs.declared.act.Op.{Op}
use Rattle.run_history.specs.declared.act.Op.TheVariants as op
use Rattle.run_history.specs.Recorded.{Recorded}
use Rattle.run_history.specs.Worlds.{depth_of, fits, heap_after, heap_after_op}
use Rattle.run_history.specs.Knowing.{Knowledge, known_after}
use Rattle.run_history.specs.Wanted.{NoWish, WantsAfter}
use Rattle.plain_model.specs.Facts.{SetFacts}
use Rattle.plain_model.specs.Requests.{PlainRequest}
use Rattle.plain_model.specs.Codes.{is_persistent}
use Rattle.plain_model.specs.Runs.{IsAbout, MayAct, op_given}
use Rattle.audit_rules.specs.Rules.{ends_next, stored_next}
use Rattle.audit_keeping.specs.declared.keeping.Keeping.{Keeping}
use Rattle.audit_keeping.specs.Keeping.{durable_in}
use Rattle.audit_keeping.specs.Goes.{Goes, MayGo}
use Rattle.audit_keeping.specs.Steps.{IsStanding}
use Rattle.kept_lists.specs.declared.doubts.Doubt.{Doubt}
use Rattle.kept_lists.specs.declared.doubts.Doubt.TheVariants as doubt
use Rattle.kept_lists.specs.Doubts.{StandsFor, doubt_of, lasts_after}
use Rattle.kept_lists.specs.Fitting.{AreOfStores, FitEach, ops_of}
use Rattle.audit_acts.specs.declared.kept.Kept.{Kept}

-- the act, with the objects that it names
abbrev pub recorded : Act → List ℕ → Recorded
recorded act named = record { act = act; named = named }

-- What is kept stands for these acts: their heap, what is known of persistence, the doubts of each act, and the time of the
-- last one. Each act fitted the heap before it.
pub record HasKept (first : Knowledge) (acts : List Recorded) (k : Kept) : Type 0 where
  pub heap : k.heap ≡ (known_after first acts).world.heap
  pub sound : IsSound k.heap
  pub at : k.at ≡ (known_after first acts).at
  pub keeping : IsStanding first acts k.keeping
  pub doubts : StandsFor first acts k.doubts
  pub stores : AreOfStores acts k.doubts.doubts.items
  pub fit : FitEach first.world.heap (ops_of acts)
  pub done : k.heap ≡ heap_after first.world.heap (ops_of acts)

-- What is told of an act before it is judged: the store or the End, if it is one, that its thread's request does next; of a visible act whether
-- the request does it; and how deep the thread's region is. What the request does fits the heap.
pub record IsTold (set : SetFacts) (first : Knowledge) (acts : List Recorded) (request : Option PlainRequest) (act : Act)
    (ahead : Option Op) (about : Bool) (depth : ℕ) : Type 0 where
  pub stores : (place : Place) → stored_next ahead place
      ≡ stored_next (op_given set (known_after first acts).world act.thread 1 request) place
  pub ends : ends_next ahead ≡ ends_next (op_given set (known_after first acts).world act.thread 1 request)
  pub is_about : is_persistent act.op ≡ false → (about ≡ true) ↔ IsAbout set (known_after first acts) request act.thread act.op
  pub deep : depth ≡ depth_of (known_after first acts).world act.thread
  pub fit : length (known_after first acts).world.heap.objects < 2 ^ 32 - 1 → (o : Op)
      → IsAbout set (known_after first acts) request act.thread o → fits (known_after first acts).world.heap o ≡ true

-- the act with these objects may come next
abbrev pub MayCome : SetFacts → Knowledge → List Recorded → Option PlainRequest → Act → List ℕ → Type 0
MayCome set first acts request act named =
    MayAct set (known_after first acts) (WantsAfter first NoWish acts) request (recorded act named)

-- ---- judgements

-- how an operation of a thread is in doubt, by what is kept
abbrev pub doubt_in : Keeping → ℕ → ℕ → Op → Doubt
doubt_in k t depth (op.Stored place value) = doubt_of (durable_in k.roots.items k.durable.items place) depth (has_number k.closing.items t)
doubt_in k t depth o = doubt.Never

-- what is kept and what is told are of some acts
pub record IsJudged (k : Kept) (act : Act) (ahead : Option Op) (about : Bool) (depth : ℕ) : Type 0 where
  pub set : SetFacts
  pub first : Knowledge
  pub acts : List Recorded
  pub request : Option PlainRequest
  pub kept : HasKept first acts k
  pub told : IsTold set first acts request act ahead about depth

-- the answer is exact, whatever these acts are
abbrev pub Judges : Kept → Act → List ℕ → Option Op → Bool → ℕ → Bool → Type 0
Judges k act named ahead about depth answer = (set : SetFacts) (first : Knowledge) (acts : List Recorded) (request : Option PlainRequest)
    → HasKept first acts k → IsTold set first acts request act ahead about depth
    → IsTrue answer ↔ MayCome set first acts request act named

-- what is kept stands for the acts with this one then
abbrev pub GoesOn : Kept → Act → List ℕ → Option Op → Bool → ℕ → Kept → Type 0
GoesOn k act named ahead about depth now = (set : SetFacts) (first : Knowledge) (acts : List Recorded) (request : Option PlainRequest)
    → HasKept first acts k → IsTold set first acts request act ahead about depth
    → HasKept first (acts ++ recorded act named ∷ []) now

-- ---- an act that isn't Joined is taken

-- as many marks of threads as there are, the act fits the heap, and what is kept may go on by it
pub record MayTake (k : Kept) (depth : ℕ) (act : Act) : Type 0 where
  pub fits : fits k.heap act.op ≡ true
  pub may : MayGo (heap_after_op k.heap act.op) k.keeping act.thread act.op
  pub threads : length k.doubts.lasts.items ≡ 64

-- the heap did it, and what is kept and the doubts were told
pub record Takes (k : Kept) (depth : ℕ) (act : Act) (now : Kept) : Type 0 where
  pub heap : now.heap ≡ heap_after_op k.heap act.op
  pub goes : Goes now.heap k.keeping act.thread depth act.op now.keeping
  pub doubts : now.doubts.doubts.items ≡ k.doubts.doubts.items ++ doubt_in k.keeping act.thread depth act.op ∷ []
  pub lasts : now.doubts.lasts.items
      ≡ lasts_after k.doubts.lasts.items act.thread act.op (nat_eq depth 1) (length k.doubts.doubts.items)
  pub at : now.at ≡ act.at
