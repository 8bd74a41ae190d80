-- How the conversion of what an asked value reaches begins.
use Rattle.std.specs.Prelude.{◌≡◌, ◌≢◌, ◌↔◌, ℕ, ◌+◌, ◌-◌, ◌<◌, ◌≤◌, true, List, length, slice_set}
use Rattle.twin_forms.specs.Table.{Entry, entry, Names, lines_of, IsClaimed, InP}
use Rattle.twin_forms.specs.Moves.{SameHeap}
use Rattle.twin_forms.specs.Sights.{view_of}
use Rattle.convert_queue.specs.declared.phase.Phase.TheVariants.{Copy, Flush}
use Rattle.convert_queue.specs.Queues.{Queues}
use Rattle.convert_queue.specs.Threads.{needs_of}
use Rattle.convert_words.specs.Steps.{OneBecomes, claimed_at, with_object}
use Rattle.convert_words.specs.Scenes.{Scene, AgreesAt}
use Rattle.converter.specs.declared.begin.Begun.{Begun}
use Rattle.converter.specs.declared.begin.Begun.TheVariants as begun

-- the thread is in phase Copy, at the first line of its first object
abbrev pub begun_at : Queues → ℕ → Queues
begun_at q t = record q { places = slice_set q.places t (0, 0); phases = slice_set q.phases t Copy }

-- the thread is in phase Flush: it has nothing to copy, to forward or to repair, so that it is settled
abbrev pub settled_at : Queues → ℕ → Queues
settled_at q t = record q { places = slice_set q.places t (0, 0); phases = slice_set q.phases t Flush }

-- The word is a reference to object m, which isn't durable.
pub record IsAsked (es : List Entry) (word m : ℕ) : Type 0 where
  pub there : m < length es
  pub names : Names (entry es m) word
  pub outside : InP es m → ⊥

-- The object was ordinary; it takes the first lines that are left, and is the first one of the thread's queue.
pub record BeginsByClaim (s s' : Scene) (es es' : List Entry) (t m : ℕ) : Type 0 where
  pub ordinary : (entry es m).stage ≡ 0
  pub nobody : (entry es m).owner ≡ 0
  pub fits : lines_of (entry es m) ≤ s.heap.memory.size - s.free
  pub becomes : OneBecomes m (claimed_at t s.free (entry es m)) es es'
  pub free : s'.free ≡ s.free + lines_of (entry es m)
  pub queue : s'.queue ≡ with_object (begun_at s.queue t) t (entry es m).at s.free

-- Another thread has claimed it, and the thread needs that thread. It has nothing to convert itself.
pub record BeginsByNeed (s s' : Scene) (es es' : List Entry) (t m u : ℕ) : Type 0 where
  pub claimed : IsClaimed es u m
  pub other : u ≢ t
  pub here : needs_of s'.queue.needs t u ≡ true
  pub others : (a b : ℕ) → (a ≡ t → b ≢ u) → needs_of s'.queue.needs a b ≡ needs_of s.queue.needs a b
  pub queue : s'.queue ≡ record (settled_at s.queue t) { needs = s'.queue.needs }
  pub heap : s'.heap ≡ s.heap
  pub free : s'.free ≡ s.free
  pub table : es' ≡ es

-- It was ordinary, and has more lines than are left: nothing is done.
pub record HasNoLines (s s' : Scene) (es es' : List Entry) (m need left : ℕ) : Type 0 where
  pub ordinary : (entry es m).stage ≡ 0
  pub nobody : (entry es m).owner ≡ 0
  pub need_is : need ≡ lines_of (entry es m)
  pub left_is : left ≡ s.heap.memory.size - s.free
  pub more : left < need
  pub same : s' ≡ s
  pub table : es' ≡ es

abbrev pub BeginsAs : Begun → Scene → Scene → List Entry → List Entry → ℕ → ℕ → Type 0
BeginsAs begun.Claimed s s' es es' t m = BeginsByClaim s s' es es' t m
BeginsAs (begun.Needs u) s s' es es' t m = BeginsByNeed s s' es es' t m u
BeginsAs (begun.Full need left) s s' es es' t m = HasNoLines s s' es es' m need left

-- Nothing that the heap shows changes, nor does the image, and the same objects are durable. Each slot has its kind, and no
-- word of the space is taken.
pub record Begins (t m : ℕ) (answer : Begun) (s s' : Scene) (es es' : List Entry) : Type 0 where
  pub shows : SameHeap (view_of s.heap) es (view_of s'.heap) es'
  pub agrees : AgreesAt s' es'
  pub memory : s'.heap.memory ≡ s.heap.memory
  pub kinds : s'.heap.marks.kinds ≡ s.heap.marks.kinds
  pub left : s'.heap.space.left ≡ s.heap.space.left
  pub durable : (n : ℕ) → InP es' n ↔ InP es n
  pub keys : s'.keys ≡ s.keys
  pub says : BeginsAs answer s s' es es' t m
