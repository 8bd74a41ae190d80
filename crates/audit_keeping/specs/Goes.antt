-- How what is kept goes on by an act.
use Rattle.std.specs.Prelude.{◌≡◌, ◌<◌, ℕ, Bool, true, List, [], ◌∷◌, ◌++◌, filter, length, All, Option}
use Rattle.ap_base.specs.declared.place.Place.{Place}
use Rattle.ap_base.specs.declared.place.Place.TheVariants.{Slot}
use Rattle.graph_model.specs.declared.types.Value.{Value}
use Rattle.graph_model.specs.declared.types.Value.TheVariants.{Obj as Object}
use Rattle.graph_model.specs.declared.types.Heap.{Heap}
use Rattle.graph_model.specs.Heaps.{IsSound}
use Rattle.run_history.specs.declared.act.Op.{Op}
use Rattle.run_history.specs.declared.act.Op.TheVariants as op
use Rattle.run_history.specs.Recorded.{Recorded}
use Rattle.run_history.specs.Worlds.{depth_of, fits}
use Rattle.run_history.specs.Knowing.{Knowledge, known_after, next_known}
use Rattle.run_history.specs.Wanted.{NoWish, WantsAfter}
use Rattle.plain_model.specs.Facts.{SetFacts}
use Rattle.plain_model.specs.Requests.{PlainRequest}
use Rattle.plain_model.specs.Runs.{MayAct}
use Rattle.audit_keeping.specs.declared.keeping.Keeping.{Keeping}
use Rattle.audit_keeping.specs.Keeping.{IsOther as IsTaken, is_other_asked, join_test_in, lists_of, next_lists, with_asked}
use Rattle.audit_keeping.specs.Steps.{IsStanding}
use Rattle.audit_keeping.specs.Walking.{AreClosedMarks, HaveGrown}
use Rattle.audit_keeping.specs.Wishing.{AreSpread, MaySpread}

-- a store of a reference in a slot adds to what others want
abbrev pub StoreGoes : Heap → Keeping → ℕ → ℕ → Place → Value → Keeping → Type 0
StoreGoes heap k t depth (Slot holder index) (Object object) now =
    (lists_of now ≡ record (next_lists (lists_of k) t depth [] (op.Stored (Slot holder index) (Object object))) { asked = now.asked.items })
    × AreSpread heap k.durable.items holder object (filter (is_other_asked t) k.asked.items) now.asked.items
StoreGoes heap k t depth place value now = lists_of now ≡ next_lists (lists_of k) t depth [] (op.Stored place value)

abbrev pub AskGoes : Heap → Keeping → ℕ → Place → Value → Keeping → Type 0
AskGoes heap k t place (Object object) now = (marks : List Bool) × HaveGrown heap k.durable.items object marks
    × (lists_of now ≡ with_asked (lists_of k) (record { thread = t; place = place; value = Object object; marks = marks }))
AskGoes heap k t place value now = Unit {0}

-- What is kept after an operation of thread t that isn't Joined, where its region was so deep, and this is the heap then.
abbrev pub Goes : Heap → Keeping → ℕ → ℕ → Op → Keeping → Type 0
Goes heap k t depth (op.Asked place value) now = AskGoes heap k t place value now
Goes heap k t depth (op.Stored place value) now = StoreGoes heap k t depth place value now
Goes heap k t depth o now = lists_of now ≡ next_lists (lists_of k) t depth [] o

-- ---- what that needs

-- as many marks as objects, which those that a reference names are
pub record MayGrow (heap : Heap) (k : Keeping) (object : ℕ) : Type 0 where
  pub sound : IsSound heap
  pub long : length k.durable.items ≡ length heap.objects
  pub there : object < length heap.objects

abbrev pub MayAskFor : Heap → Keeping → Value → Type 0
MayAskFor heap k (Object object) = MayGrow heap k object × AreClosedMarks heap k.durable.items
MayAskFor heap k value = Unit {0}

abbrev pub MayStoreTo : Heap → Keeping → ℕ → Place → Value → Type 0
MayStoreTo heap k t (Slot holder index) (Object object) =
    MayGrow heap k object × All (MaySpread heap k.durable.items holder object) (filter (is_other_asked t) k.asked.items)
MayStoreTo heap k t place value = Unit {0}

abbrev pub MayGo : Heap → Keeping → ℕ → Op → Type 0
MayGo heap k t (op.Asked place value) = MayAskFor heap k value
MayGo heap k t (op.Stored place value) = MayStoreTo heap k t place value
MayGo heap k t o = Unit {0}

-- ---- laws

-- the heap after the acts and one more
abbrev pub heap_then : Knowledge → List Recorded → Recorded → Heap
heap_then first acts a = (next_known (known_after first acts) a).world.heap

-- Where what is kept stands for these acts, and this one may come next and fits the heap, it may go on, and stands for the
-- acts with this one then. The heap is to be sound, and hold an asked value.
pub record GoesOnBy (first : Knowledge) (acts : List Recorded) (k : Keeping) (a : Recorded) : Type 0 where
  pub may : MayGo (heap_then first acts a) k a.act.thread a.act.op
  pub stands : (now : Keeping) → Goes (heap_then first acts a) k a.act.thread (depth_of (known_after first acts).world a.act.thread) a.act.op now
      → IsStanding first (acts ++ a ∷ []) now

-- an act that names nothing
abbrev pub act_at : ℕ → ℕ → Op → Recorded
act_at t at o = record { act = record { thread = t; at = at; op = o }; named = [] }

-- what is stored or asked fits the heap
abbrev pub fits_then : Heap → Op → Bool
fits_then heap (op.Asked place value) = fits heap (op.Stored place value)
fits_then heap o = fits heap o

abbrev pub KeepingGoesOn : Type 0
KeepingGoesOn = (set : SetFacts) (first : Knowledge) (acts : List Recorded) (request : Option PlainRequest) (k : Keeping) (t at : ℕ) (o : Op)
    → IsStanding first acts k → MayAct set (known_after first acts) (WantsAfter first NoWish acts) request (act_at t at o) → IsTaken o
    → fits_then (known_after first acts).world.heap o ≡ true → IsSound (next_known (known_after first acts) (act_at t at o)).world.heap
    → GoesOnBy first acts k (act_at t at o)

-- So it does by a Joined act, whose objects pass their test.
abbrev pub JoiningGoesOn : Type 0
JoiningGoesOn = (set : SetFacts) (first : Knowledge) (acts : List Recorded) (request : Option PlainRequest) (k now : Keeping) (t at : ℕ) (named : List ℕ)
    → let a : Recorded = record { act = record { thread = t; at = at; op = op.Joined }; named = named } in
    IsStanding first acts k → MayAct set (known_after first acts) (WantsAfter first NoWish acts) request a
    → join_test_in (known_after first acts).world.heap k named ≡ true → lists_of now ≡ next_lists (lists_of k) 0 0 named op.Joined
    → IsStanding first (acts ++ a ∷ []) now
