-- What the events of a thread's conversion do, beside those of other threads. What a group has queued is named when it is
-- sealed; between events nothing is named.
use Rattle.std.specs.Prelude.{◌≡◌, ◌≢◌, ◌⊎◌, ◌<◌, ◌≤◌, ◌+◌, ◌-◌, ◌++◌, [], ℕ, true, List, length}
use Rattle.run_history.specs.declared.act.Op.TheVariants as op
use Rattle.run_history.specs.Recorded.{History, with_act}
use Rattle.monitors.specs.Indexed.{AreSound}
use Rattle.twin_forms.specs.Table.{Entry}
use Rattle.convert_queue.specs.declared.phase.Phase.TheVariants.{Flush}
use Rattle.convert_queue.specs.Queues.{phase_of, queue_of, total}
use Rattle.convert_queue.specs.Threads.{needs_of}
use Rattle.convert_words.specs.declared.step.ConvertStep.{ConvertStep}
use Rattle.convert_words.specs.declared.step.ConvertStep.TheVariants as step
use Rattle.convert_words.specs.Scenes.{Scene, AgreesAt}
use Rattle.converter.specs.declared.begin.Begun.{Begun}
use Rattle.converter.specs.Beginning.{Begins}
use Rattle.converter.specs.Laws.{AreUnwritten}
use Rattle.store_barrier.specs.Passed.{Machine, memory_of, scene_of}
use Rattle.store_barrier.specs.Passed.{Converted, ConvertsOn, FailsOn, IsNoSeal, Seals, StaysSound, with_joined}
use Rattle.store_barrier.specs.Passed.{group_names}
use Rattle.shared_heap.specs.declared.conversions.Conversion.{Conversion}
use Rattle.shared_heap.specs.declared.conversions.Conversion.TheVariants as did
use Rattle.shared_heap.specs.Shared.{Shared}

-- Heap, queues, image and monitors agree; before its flush no thread has written a line of its objects back; and no object
-- is named for an act that is to come.
pub record Converts (s : Shared) (es : List Entry) : Type 0 where
  pub agrees : AgreesAt (scene_of s.machine) es
  pub unwritten : AreUnwritten s.machine.queue es
  pub unnamed : s.history.named ≡ []
  pub lines : s.lines ≡ (memory_of s.machine).size
  pub within : s.machine.free ≤ s.lines
  pub sound : AreSound s.machine.rest.monitors

-- The thread's conversion has begun and isn't sealed: the thread has queued an object; or it has begun by a need of another
-- thread, so that it is in its flush.
abbrev pub HasBegun : Scene → ℕ → Type 0
HasBegun s t = (queue_of s.queue t ≢ [])
    ⊎ ((phase_of s.queue t ≡ Flush) × (u : ℕ) × (u < 64) × (u ≢ t) × (needs_of s.queue.needs t u ≡ true))

-- ---- names

abbrev pub with_names : History → List ℕ → History
with_names h ns = record h { named = h.named ++ ns; room = h.room - length ns }

-- ---- the beginning

-- The conversion begins so, or not at all for want of lines. Nothing is named.
pub record BeginsOnce (t n : ℕ) (answer : Begun) (old new : Shared) (es : List Entry) : Type 0 where
  pub after : List Entry
  pub begins : Begins t n answer (scene_of old.machine) (scene_of new.machine) es after
  pub same : Converted old.machine new.machine
  pub monitors : new.machine.rest ≡ old.machine.rest
  pub sound : StaysSound new.machine
  pub history : new.history ≡ old.history
  pub notes : new.notes ≡ old.notes
  pub converts : Converts new after

-- ---- steps

-- a step that is no seal, or none, where the thread waits
pub record GoesOnce (t : ℕ) (answer : ConvertStep) (old new : Shared) (es : List Entry) : Type 0 where
  pub on : ConvertsOn t answer old.machine new.machine es
  pub other : IsNoSeal answer
  pub history : new.history ≡ old.history
  pub notes : new.notes ≡ old.notes
  pub converts : Converts new on.event.after

-- The thread's group is sealed, and the act names what its threads had queued, in the order of the threads and of their
-- queues. As many objects may be named then as were queued no more.
pub record JoinsOnce (t : ℕ) (old new : Shared) (es : List Entry) : Type 0 where
  pub set : ℕ
  pub between : Machine
  pub seals : Seals t set (group_names (scene_of old.machine) set) old.machine between es
  pub machine : new.machine ≡ with_joined between t (group_names (scene_of old.machine) set)
  pub history : new.history
      ≡ with_act (with_names old.history (group_names (scene_of old.machine) set)) (record {
        thread = t;
        at = (memory_of between).calls;
        op = op.Joined;
      })
  pub left : total new.machine.queue.queues + length (group_names (scene_of old.machine) set)
      ≡ total old.machine.queue.queues
  pub notes : new.notes ≡ old.notes
  pub converts : Converts new seals.converts.event.after

-- neither a seal, nor a wait, nor a refusal
abbrev pub MovesOn : ConvertStep → Type 0
MovesOn (step.Sealed set) = ⊥
MovesOn (step.Wait u) = ⊥
MovesOn (step.Full need left) = ⊥
MovesOn answer = Unit {0}

-- what a step comes to that is no seal
abbrev pub came_to : ConvertStep → Conversion
came_to (step.Wait u) = did.Waits u
came_to (step.Full need left) = did.Full need left
came_to answer = did.Went

-- A thread waits by an event of its conversion, whose place may have gone on; one that was settled waits with no change.
abbrev pub GoesTo : ℕ → Conversion → Shared → Shared → List Entry → Type 0
GoesTo t did.Went old new es = (answer : ConvertStep) × MovesOn answer × GoesOnce t answer old new es
GoesTo t did.Joined old new es = JoinsOnce t old new es
GoesTo t (did.Waits u) old new es = GoesOnce t (step.Wait u) old new es
GoesTo t (did.Full need left) old new es = GoesOnce t (step.Full need left) old new es

-- the image failed
pub record FailsTo (t : ℕ) (old new : Shared) (es : List Entry) : Type 0 where
  pub fails : FailsOn t old.machine new.machine es
  pub history : new.history ≡ old.history
  pub notes : new.notes ≡ old.notes
  pub converts : Converts new es
