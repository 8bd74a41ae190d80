-- What one step of a conversion is, and what each of its answers says.
use Rattle.std.specs.Prelude.{◌≡◌, ◌≢◌, ◌⊎◌, ◌↔◌, ℕ, ◌+◌, ◌-◌, ◌*◌, ◌<◌, ◌≤◌, ◌^◌, true, List, length, slice_set}
use Rattle.line_memory.specs.Memory.{Memory, shown, CanLeave, SameImage, SameResident, OneCall, WroteLine, MadeFence}
use Rattle.line_memory.specs.Memory.{IsResident, IsAwaited, IsDurable, IsWritten as IsWrittenBack}
use Rattle.line_memory.specs.Moments.{KeepsShown}
use Rattle.twin_forms.specs.Table.{Entry, entry, word_of, refers, kept_at, Names, lines_of, line_of, HasCopied, IsClaimed, InP}
use Rattle.twin_forms.specs.Moves.{SameHeap, Moved, ChangesLine, one_more, forwarded, IsRepaired}
use Rattle.twin_forms.specs.Sights.{Twin, view_of, held_of}
use Rattle.convert_queue.specs.declared.phase.Phase.{Phase}
use Rattle.convert_queue.specs.declared.phase.Phase.TheVariants.{Copy, Repair, Flush}
use Rattle.convert_queue.specs.Marks.{IsStored, IsWritten}
use Rattle.convert_queue.specs.Queues.{Queues, IsSettled, AllSettled, IsLeastUnsettled, phase_of, place_of}
use Rattle.convert_queue.specs.Threads.{IsGroupOf, needs_of}
use Rattle.convert_words.specs.declared.step.ConvertStep.{ConvertStep}
use Rattle.convert_words.specs.declared.step.ConvertStep.TheVariants as step
use Rattle.convert_words.specs.Agreeing.{Is}
use Rattle.convert_words.specs.Scenes.{Scene, IsKey, AgreesAt}
use Rattle.convert_words.specs.Sealing.{SealedBy, FencedAndClosed, AreSealed, OfSet, Released}
use Rattle.convert_words.specs.Steps.{OneBecomes, GoesTo, claimed_at, told, told_written, told_fenced, with_object}

-- the line is one of an object that the thread has claimed and not sealed
pub record IsLineOf (es : List Entry) (t l : ℕ) : Type 0 where
  pub n : ℕ
  pub claimed : IsClaimed es t n
  pub placed : 0 < (entry es n).stage
  pub from : (entry es n).line ≤ l
  pub to : l < (entry es n).line + lines_of (entry es n)

-- A kept reference in a copied line of the thread's object n leads to object m.
pub record RefersTo (s : Scene) (es : List Entry) (t n k m : ℕ) : Type 0 where
  pub claimed : IsClaimed es t n
  pub slot : k < (entry es n).slots
  pub reference : refers (view_of s.heap) (entry es n) k ≡ true
  pub kept : kept_at (view_of s.heap) (entry es n) k ≡ true
  pub copied : HasCopied (entry es n) (line_of k)
  pub there : m < length es
  pub leads : Names (entry es m) (word_of (view_of s.heap) (entry es n) k)

-- ---- how a place goes on

-- Thread t has met an object that thread u has claimed and not sealed.
pub record Meets (s : Scene) (es : List Entry) (t u : ℕ) : Type 0 where
  pub n : ℕ
  pub k : ℕ
  pub m : ℕ
  pub refers_to : RefersTo s es t n k m
  pub claimed : IsClaimed es u m

-- phases and places in their order
abbrev pub rank : Phase → ℕ
rank Copy = 0
rank Repair = 1
rank Flush = 2

abbrev pub IsOn : Phase → ℕ × ℕ → Phase → ℕ × ℕ → Type 0
IsOn p at p' at' = (rank p < rank p') ⊎ ((p' ≡ p) × ((at.0 < at'.0) ⊎ ((at'.0 ≡ at.0) × (at.1 ≤ at'.1))))

-- Before its step a thread's phase and place go on, past what is done. It notes whom it needs: exactly those whose
-- objects it has met. All else is as before.
pub record GoesOn (t : ℕ) (s s' : Scene) (es : List Entry) : Type 0 where
  pub heap : s'.heap ≡ s.heap
  pub free : s'.free ≡ s.free
  pub keys : s'.keys ≡ s.keys
  pub queues : s'.queue.queues ≡ s.queue.queues
  pub marks : s'.queue.marks ≡ s.queue.marks
  pub other_phases : (u : ℕ) → u ≢ t → phase_of s'.queue u ≡ phase_of s.queue u
  pub other_places : (u : ℕ) → u ≢ t → place_of s'.queue u ≡ place_of s.queue u
  pub on : IsOn (phase_of s.queue t) (place_of s.queue t) (phase_of s'.queue t) (place_of s'.queue t)
  pub kept : (a b : ℕ) → needs_of s.queue.needs a b ≡ true → needs_of s'.queue.needs a b ≡ true
  pub met : (a b : ℕ) → needs_of s'.queue.needs a b ≡ true
      → (needs_of s.queue.needs a b ≡ true) ⊎ ((a ≡ t) × (b ≢ t) × Meets s es t b)
  pub agrees : AgreesAt s' es

-- ---- why a step waits

-- The thread is settled, and u is the least member of its group that isn't.
pub record WaitsFor (s : Scene) (t u : ℕ) : Type 0 where
  pub settled : IsSettled s.queue t
  pub unsettled : IsLeastUnsettled s.queue t u

-- The thread's repair has come to a reference to an object that u has claimed and not forwarded.
pub record Lacks (s : Scene) (es : List Entry) (t u : ℕ) : Type 0 where
  pub phase : phase_of s.queue t ≡ Repair
  pub n : ℕ
  pub k : ℕ
  pub m : ℕ
  pub is : Is s.queue es t (place_of s.queue t).0 n
  pub refers_to : RefersTo s es t n k m
  pub here : line_of k ≡ (place_of s.queue t).1
  pub claimed : IsClaimed es u m
  pub behind : (entry es m).stage ≡ 1

-- A thread waits only once its own objects are all forwarded.
pub record Waits (s : Scene) (es : List Entry) (t u : ℕ) : Type 0 where
  pub why : WaitsFor s t u ⊎ Lacks s es t u
  pub forwarded : (n : ℕ) → IsClaimed es t n → (entry es n).stage ≡ 2

-- Thread t is to claim object m: it is the first ordinary object that nobody has claimed and to which the copied line at
-- the thread's place refers.
pub record ToTakeIn (s : Scene) (es : List Entry) (t m : ℕ) : Type 0 where
  pub phase : phase_of s.queue t ≡ Copy
  pub n : ℕ
  pub k : ℕ
  pub is : Is s.queue es t (place_of s.queue t).0 n
  pub refers_to : RefersTo s es t n k m
  pub here : line_of k ≡ (place_of s.queue t).1
  pub ordinary : (entry es m).stage ≡ 0
  pub nobody : (entry es m).owner ≡ 0
  pub first : (j o : ℕ) → j < k → line_of j ≡ (place_of s.queue t).1 → RefersTo s es t n j o
      → (entry es o).stage ≡ 0 → (entry es o).owner ≡ 0 → ⊥

-- It has more lines than are left.
pub record Exceeds (s : Scene) (es : List Entry) (t need left : ℕ) : Type 0 where
  pub m : ℕ
  pub asked : ToTakeIn s es t m
  pub need_is : need ≡ lines_of (entry es m)
  pub left_is : left ≡ s.heap.memory.size - s.free
  pub more : left < need

-- ---- what a step does

-- The object takes the first lines that are left, and stands behind the thread's queue.
pub record TakesIn (s s' : Scene) (es es' : List Entry) (t : ℕ) : Type 0 where
  pub m : ℕ
  pub asked : ToTakeIn s es t m
  pub fits : lines_of (entry es m) ≤ s.heap.memory.size - s.free
  pub becomes : OneBecomes m (claimed_at t s.free (entry es m)) es es'
  pub free : s'.free ≡ s.free + lines_of (entry es m)
  pub queue : s'.queue ≡ with_object s.queue t (entry es m).at s.free
  pub memory : s'.heap.memory ≡ s.heap.memory

-- The next line of the object at the thread's place is copied, no other line of the image changes, and the queue is told
-- of the store.
pub record CopiesLine (s s' : Scene) (es es' : List Entry) (t : ℕ) : Type 0 where
  pub n : ℕ
  pub is : Is s.queue es t (place_of s.queue t).0 n
  pub phase : phase_of s.queue t ≡ Copy
  pub young : (entry es n).stage ≡ 1
  pub next : (entry es n).copied ≡ (place_of s.queue t).1
  pub left : 8 * (entry es n).copied ≤ (entry es n).slots
  pub becomes : OneBecomes n (one_more (entry es n)) es es'
  pub changes : ChangesLine ((entry es n).line + (entry es n).copied) s.heap.memory s'.heap.memory
  pub space : s'.heap.space ≡ s.heap.space
  pub queue : s'.queue ≡ told s.queue t ((entry es n).line + (entry es n).copied)

-- That object is forwarded, whose lines are all copied; the place goes on to the next one, and the key of its monitor is
-- another.
pub record ForwardsObject (s s' : Scene) (es es' : List Entry) (t : ℕ) : Type 0 where
  pub n : ℕ
  pub is : Is s.queue es t (place_of s.queue t).0 n
  pub phase : phase_of s.queue t ≡ Copy
  pub young : (entry es n).stage ≡ 1
  pub full : (entry es n).slots < 8 * (entry es n).copied
  pub becomes : OneBecomes n (forwarded (entry es n)) es es'
  pub memory : s'.heap.memory ≡ s.heap.memory
  pub marks : s'.heap.marks ≡ s.heap.marks
  pub goes : GoesTo t Copy ((place_of s.queue t).0 + 1) 0 s.queue s'.queue
  pub keys : (w : ℕ) → IsKey s'.keys w → (IsKey s.keys w × (w ≢ 2 * (entry es n).at + 1)) ⊎ (w ≡ 2 * (entry es n).line)

-- The line at the thread's place is repaired, no other line of the image changes, the queue is told of the store, and the
-- place goes on to the next line.
pub record RepairsLine (s s' : Scene) (es es' : List Entry) (t : ℕ) : Type 0 where
  pub n : ℕ
  pub is : Is s.queue es t (place_of s.queue t).0 n
  pub phase : phase_of s.queue t ≡ Repair
  pub within : (place_of s.queue t).1 < lines_of (entry es n)
  pub repaired : IsRepaired (place_of s.queue t).1 (view_of s'.heap) es n
  pub changes : ChangesLine ((entry es n).line + (place_of s.queue t).1) s.heap.memory s'.heap.memory
  pub heap : s'.heap ≡ record s.heap { memory = s'.heap.memory }
  pub goes : GoesTo t Repair (place_of s.queue t).0 ((place_of s.queue t).1 + 1)
      (told s.queue t ((entry es n).line + (place_of s.queue t).1)) s'.queue
  pub table : es' ≡ es

-- A line that the thread has stored to is written back, no other is, and the queue is told of it.
pub record WritesLine (s s' : Scene) (es es' : List Entry) (t : ℕ) : Type 0 where
  pub line : ℕ
  pub phase : phase_of s.queue t ≡ Flush
  pub stored : IsStored s.queue.marks t line
  pub keeps : KeepsShown s.heap.memory s'.heap.memory
  pub wrote : WroteLine line s.heap.memory s'.heap.memory
  pub written : (w : ℕ) → IsWrittenBack s'.heap.memory line w
  pub resident : SameResident s.heap.memory s'.heap.memory
  pub heap : s'.heap ≡ record s.heap { memory = s'.heap.memory }
  pub queue : s'.queue ≡ told_written s.queue line
  pub table : es' ≡ es

-- A fence is made where all lines of the thread are written and one of them waits for it, and the queue is told of it.
pub record MakesFence (s s' : Scene) (es es' : List Entry) (t : ℕ) : Type 0 where
  pub line : ℕ
  pub phase : phase_of s.queue t ≡ Flush
  pub all : (l : ℕ) → IsStored s.queue.marks t l → ⊥
  pub waits : IsWritten s.queue.marks t line
  pub keeps : KeepsShown s.heap.memory s'.heap.memory
  pub made : MadeFence s.heap.memory s'.heap.memory
  pub durable : (l w : ℕ) → IsWrittenBack s.heap.memory l w → IsDurable s'.heap.memory l w
  pub resident : SameResident s.heap.memory s'.heap.memory
  pub heap : s'.heap ≡ record s.heap { memory = s'.heap.memory }
  pub queue : s'.queue ≡ told_fenced s.queue
  pub table : es' ≡ es

-- Object n stands at the thread's place, and has the line there.
pub record HasLineThere (s : Scene) (es : List Entry) (t n line : ℕ) : Type 0 where
  pub is : Is s.queue es t (place_of s.queue t).0 n
  pub within : (place_of s.queue t).1 < lines_of (entry es n)
  pub here : line ≡ (entry es n).line + (place_of s.queue t).1

-- The line of object n that the thread's next step needs: the next one to be copied, which is the one at its place; the
-- one to be repaired there; or one to be written back.
abbrev pub NeedsLine : Scene → List Entry → ℕ → ℕ → ℕ → Type 0
NeedsLine s es t n line =
    ((phase_of s.queue t ≡ Copy) × ((entry es n).copied ≡ (place_of s.queue t).1) × HasLineThere s es t n line)
    ⊎ (((phase_of s.queue t ≡ Repair) × HasLineThere s es t n line)
    ⊎ ((phase_of s.queue t ≡ Flush) × IsStored s.queue.marks t line))

-- A line of one of the thread's own copies, which its step needs, wasn't resident, and is so now, or after one more touch.
pub record TouchesLine (s s' : Scene) (es es' : List Entry) (t : ℕ) : Type 0 where
  pub line : ℕ
  pub own : IsLineOf es t line
  pub needed : NeedsLine s es t own.n line
  pub keeps : KeepsShown s.heap.memory s'.heap.memory
  pub heap : s'.heap ≡ record s.heap { memory = s'.heap.memory }
  pub missing : IsResident s.heap.memory line → ⊥
  pub nearer : IsResident s'.heap.memory line ⊎ IsAwaited s'.heap.memory line
  pub not_twice : IsAwaited s.heap.memory line → IsResident s'.heap.memory line
  pub queue : s'.queue ≡ s.queue
  pub table : es' ≡ es

-- The thread's group is sealed, all of whose members are settled. What was sealed is fenced and closed, and exactly its
-- objects are durable besides those that were.
pub record SealsGroup (s s' : Scene) (es es' : List Entry) (t set : ℕ) : Type 0 where
  pub group : IsGroupOf s.queue.needs t set
  pub settled : AllSettled s.queue set
  pub fenced : FencedAndClosed (view_of s'.heap) (held_of s'.heap.memory) es set
  pub sealed : AreSealed (OfSet es set) es es'
  pub durable : (n : ℕ) → InP es' n ↔ SealedBy es set n
  pub released : Released set s.queue s'.queue
  pub memory : s'.heap.memory ≡ s.heap.memory
  pub free : s'.free ≡ s.free

-- which steps make a call of the image
abbrev pub Calls : ConvertStep → Memory → Memory → Type 0
Calls step.Touched old new = OneCall old new
Calls step.WroteBack old new = OneCall old new
Calls step.Fenced old new = OneCall old new
Calls step.Claimed old new = SameImage old new
Calls step.CopiedLine old new = SameImage old new
Calls step.Forwarded old new = SameImage old new
Calls step.Repaired old new = SameImage old new
Calls (step.Sealed set) old new = SameImage old new
Calls (step.Wait u) old new = SameImage old new
Calls (step.Full need left) old new = SameImage old new

-- the same objects are durable, and the same lines are left
abbrev pub SameDurable : Scene → Scene → List Entry → List Entry → Type 0
SameDurable s s' es es' = ((n : ℕ) → InP es' n ↔ InP es n) × (s'.free ≡ s.free)

-- What each answer says besides. Which objects are durable changes by a seal alone, and lines are taken by a claim alone.
abbrev pub Says : ConvertStep → ℕ → Scene → Scene → List Entry → List Entry → Type 0
Says (step.Sealed set) t s s' es es' = SealsGroup s s' es es' t set
Says (step.Wait u) t s s' es es' = Waits s es t u × (s' ≡ s)
Says (step.Full need left) t s s' es es' = Exceeds s es t need left × (s' ≡ s)
Says step.Claimed t s s' es es' = TakesIn s s' es es' t × ((n : ℕ) → InP es' n ↔ InP es n)
Says step.Touched t s s' es es' = TouchesLine s s' es es' t × SameDurable s s' es es'
Says step.WroteBack t s s' es es' = WritesLine s s' es es' t × SameDurable s s' es es'
Says step.Fenced t s s' es es' = MakesFence s s' es es' t × SameDurable s s' es es'
Says step.CopiedLine t s s' es es' = CopiesLine s s' es es' t × SameDurable s s' es es'
Says step.Forwarded t s s' es es' = ForwardsObject s s' es es' t × SameDurable s s' es es'
Says step.Repaired t s s' es es' = RepairsLine s s' es es' t × SameDurable s s' es es'

-- One step of thread t's conversion, from any table by which the scene agrees.
pub record Converts (t : ℕ) (answer : ConvertStep) (s s' : Scene) (es es' : List Entry) : Type 0 where
  -- nothing that the heap shows changes
  pub shows : SameHeap (view_of s.heap) es (view_of s'.heap) es'
  pub agrees : AgreesAt s' es'
  pub size : s'.heap.memory.size ≡ s.heap.memory.size
  -- each slot has its kind, and no word of the space is taken
  pub kinds : s'.heap.marks.kinds ≡ s.heap.marks.kinds
  pub left : s'.heap.space.left ≡ s.heap.space.left
  -- no word is shown otherwise, and nothing new may be left, but in lines of the thread's own unsealed copies
  pub others : (l w : ℕ) → l < s.heap.memory.size → (IsLineOf es t l → ⊥)
      → shown s'.heap.memory l w ≡ shown s.heap.memory l w
  pub leaves : (l w x : ℕ) → (IsLineOf es t l → ⊥) → CanLeave s'.heap.memory l w x → CanLeave s.heap.memory l w x
  pub calls : Calls answer s.heap.memory s'.heap.memory
  pub says : Says answer t s s' es es'

-- A step whose call of the image failed: nothing else was done.
pub record Fails (s s' : Scene) (es : List Entry) : Type 0 where
  pub shows : SameHeap (view_of s.heap) es (view_of s'.heap) es
  pub agrees : AgreesAt s' es
  pub keeps : KeepsShown s.heap.memory s'.heap.memory
  pub call : OneCall s.heap.memory s'.heap.memory
  pub heap : s'.heap ≡ record s.heap { memory = s'.heap.memory }
  pub queue : s'.queue ≡ s.queue
  pub free : s'.free ≡ s.free
  pub keys : s'.keys ≡ s.keys

-- ---- laws

-- A step on an object that a thread has claimed leaves the same objects durable.
abbrev pub ClaimedStepsMakeNoneDurable : Type 0
ClaimedStepsMakeNoneDurable = (es : List Entry) (n : ℕ) (e' : Entry) → n < length es
    → (entry es n).owner ≢ 0 → e'.owner ≡ (entry es n).owner → (m : ℕ) → InP (slice_set es n e') m ↔ InP es m

-- So does a claim.
abbrev pub ClaimsMakeNoneDurable : Type 0
ClaimsMakeNoneDurable = (es es' : List Entry) (t line n : ℕ) → n < length es → (entry es n).stage ≡ 0
    → OneBecomes n (claimed_at t line (entry es n)) es es' → (m : ℕ) → InP es' m ↔ InP es m

-- The seal of a group that is settled is a step of a conversion.
abbrev pub SealsConvert : Type 0
SealsConvert = (s : Scene) (heap : Twin) (q : Queues) (es es' : List Entry) (t set : ℕ) → set < 2 ^ 64
    → IsGroupOf s.queue.needs t set → AllSettled s.queue set → Moved (view_of s.heap) es (view_of heap) es'
    → AreSealed (OfSet es set) es es' → heap.memory ≡ s.heap.memory → heap.marks.kinds ≡ s.heap.marks.kinds
    → heap.space.left ≡ s.heap.space.left → Released set s.queue q → AgreesAt s es
    → Converts t (step.Sealed set) s (record s { heap = heap; queue = q }) es es'
