-- What the events of a region do to a shared heap: a place that it guards, the calls of its log, and its end.
use Rattle.std.specs.Prelude.{◌≡◌, ◌⊎◌, ℕ, ◌-◌, List}
use Rattle.ap_base.specs.declared.place.Place.{Place}
use Rattle.ap_base.specs.declared.place.Spot.{Spot}
use Rattle.line_memory.specs.Memory.{shown}
use Rattle.run_history.specs.declared.act.Op.TheVariants as op
use Rattle.run_history.specs.Recorded.{with_act}
use Rattle.twin_forms.specs.Sights.{Twin, AllKnown}
use Rattle.twin_forms.specs.Table.{Entry}
use Rattle.two_spaces.specs.Seen.{Spaces}
use Rattle.two_spaces.specs.Whole.{Stands}
use Rattle.store_barrier.specs.Barriers.{IsSpotAt}
use Rattle.region_log.specs.declared.entry.Entry.{Entry as LogEntry}
use Rattle.region_log.specs.declared.entry.Underway.TheVariants.{Nothing}
use Rattle.region_log.specs.declared.log.EndStep.{EndStep}
use Rattle.region_log.specs.declared.log.LogStep.{LogStep}
use Rattle.region_log.specs.declared.log.LogStep.TheVariants as logging
use Rattle.region_log.specs.declared.log.EndStep.TheVariants as did
use Rattle.region_log.specs.Log.{Log, entry_of}
use Rattle.region_log.specs.Stages.{EndsAtOnce}
use Rattle.region_log.specs.Steps.{AddsEntry, AddsOn, EndsOn, EndsLog, FailsToAdd, FailsToEnd, FencesRegion, TouchesFor}
use Rattle.region_log.specs.Steps.{TouchesToEnd}
use Rattle.region_events.specs.Laws.{CallsToEnd}
use Rattle.store_barrier.specs.Passed.{Machine, log_of, memory_of}
use Rattle.store_barrier.specs.Passed.{LogsWord, OnlyImage, with_closing, with_guarded, with_log, with_logged}
use Rattle.shared_heap.specs.Shared.{Shared}

-- the thread's log is this one
abbrev pub with_log_of : Shared → ℕ → Log → Shared
with_log_of s t log = record s { machine = with_log s.machine t log }

-- ---- a place is guarded

-- The heap stands by a table by which the place is durable and lies in this word.
pub record LiesAt (s : Spaces) (place : Place) (spot : Spot) : Type 0 where
  pub es : List Entry
  pub stands : Stands s es
  pub at : IsSpotAt s es place spot

-- the entry of a word, with the value that it shows
abbrev pub entry_at : Shared → Spot → LogEntry
entry_at s spot = entry_of spot (shown (memory_of s.machine) spot.line spot.word)

-- The act is told, and the thread's log names the word next.
pub record GuardsTo (t : ℕ) (place : Place) (spot : Spot) (old new : Shared) : Type 0 where
  pub machine : new.machine ≡ with_guarded old.machine t place (entry_at old spot)
  pub history : new.history ≡ with_act old.history (record {
    thread = t;
    at = (memory_of old.machine).calls;
    op = op.Guarded place;
  })
  pub lines : new.lines ≡ old.lines
  pub notes : new.notes ≡ old.notes

-- ---- its word is logged

-- The heap's words and the thread's log are these, conversions were told of the fence by which the log came to be so,
-- if one was made, and else all is as it was.
pub record IsLeft (twin : Twin) (t : ℕ) (log : Log) (old new : Shared) : Type 0 where
  pub machine : new.machine ≡ with_logged old.machine twin t log
  pub history : new.history ≡ old.history
  pub lines : new.lines ≡ old.lines
  pub notes : new.notes ≡ old.notes

-- a part of that, behind which more are left
pub record LogsOnTo (t : ℕ) (old new : Shared) : Type 0 where
  pub twin : Twin
  pub log : Log
  pub logs : LogsWord old.machine twin t log
  pub made : TouchesFor logs.entry (log_of old.machine t) log (memory_of old.machine) twin.memory
      ⊎ AddsOn logs.entry (log_of old.machine t) log (memory_of old.machine) twin.memory
  pub left : IsLeft twin t log old new

-- The last part: the entry counts, and nothing is under way in the log.
pub record CountsTo (t : ℕ) (old new : Shared) : Type 0 where
  pub twin : Twin
  pub log : Log
  pub logs : LogsWord old.machine twin t log
  pub counts : AddsEntry logs.entry (log_of old.machine t) log (memory_of old.machine) twin.memory
  pub left : IsLeft twin t log old new

-- a part that was made, by the answer; there is room for the entry that is under way
abbrev pub LogsTo : LogStep → ℕ → Shared → Shared → Type 0
LogsTo logging.More t old new = LogsOnTo t old new
LogsTo logging.Logged t old new = CountsTo t old new
LogsTo logging.Full t old new = ⊥

-- the image failed in it
pub record LoggingFailsTo (t : ℕ) (old new : Shared) : Type 0 where
  pub twin : Twin
  pub log : Log
  pub logs : LogsWord old.machine twin t log
  pub fails : FailsToAdd logs.entry (log_of old.machine t) log (memory_of old.machine) twin.memory
  pub left : IsLeft twin t log old new

-- ---- a region ends

-- A call of the image by which the thread's region is being ended.
pub record IsEndCall (m : Machine) (twin : Twin) (t : ℕ) (log : Log) : Type 0 where
  pub call : CallsToEnd (log_of m t) log (memory_of m) twin.memory
  pub only : OnlyImage m twin
  pub known : AllKnown twin.memory

-- A part that is neither the fence behind all that was logged nor the last one.
pub record EndsOnTo (t : ℕ) (old new : Shared) : Type 0 where
  pub twin : Twin
  pub log : Log
  pub call : IsEndCall old.machine twin t log
  pub made : TouchesToEnd (log_of old.machine t) log (memory_of old.machine) twin.memory
      ⊎ EndsOn (log_of old.machine t) log (memory_of old.machine) twin.memory
  pub left : IsLeft twin t log old new

-- the image failed in a part
pub record EndingFailsTo (t : ℕ) (old new : Shared) : Type 0 where
  pub twin : Twin
  pub log : Log
  pub call : IsEndCall old.machine twin t log
  pub fails : FailsToEnd (log_of old.machine t) log (memory_of old.machine) twin.memory
  pub left : IsLeft twin t log old new

-- the fence behind all that was logged
pub record FencesTo (t : ℕ) (old new : Shared) : Type 0 where
  pub twin : Twin
  pub log : Log
  pub call : IsEndCall old.machine twin t log
  pub fences : FencesRegion (log_of old.machine t) log (memory_of old.machine) twin.memory
  pub left : IsLeft twin t log old new

-- With that fence the region becomes closing, by an act.
pub record ClosesTo (t : ℕ) (old new : Shared) : Type 0 where
  pub twin : Twin
  pub log : Log
  pub call : IsEndCall old.machine twin t log
  pub fences : FencesRegion (log_of old.machine t) log (memory_of old.machine) twin.memory
  pub machine : new.machine ≡ with_closing old.machine twin t log
  pub history : new.history
      ≡ with_act old.history (record { thread = t; at = twin.memory.calls; op = op.Closing })
  pub lines : new.lines ≡ old.lines
  pub notes : new.notes ≡ old.notes

-- the last call of a region that logged something
pub record IsEmptied (m : Machine) (twin : Twin) (t : ℕ) (log : Log) : Type 0 where
  pub call : IsEndCall m twin t log
  pub empties : EndsLog (log_of m t) log (memory_of m) twin.memory

-- A region within another, or one that logged nothing: the log is one level less deep, with no call.
pub record IsLeftAtOnce (m : Machine) (twin : Twin) (t : ℕ) (log : Log) : Type 0 where
  pub at_once : EndsAtOnce (log_of m t)
  pub idle : (log_of m t).underway ≡ Nothing
  pub same : twin ≡ m.spaces.twin
  pub is : log ≡ record (log_of m t) { depth = (log_of m t).depth - 1 }

-- The log is left so by an end, whose step follows.
pub record LeavesTo (t : ℕ) (old new : Shared) : Type 0 where
  pub twin : Twin
  pub log : Log
  pub leaves : IsEmptied old.machine twin t log ⊎ IsLeftAtOnce old.machine twin t log
  pub left : IsLeft twin t log old new

-- what a part of an end does, before its act is told
abbrev pub PartTo : EndStep → ℕ → Shared → Shared → Type 0
PartTo did.More t old new = EndsOnTo t old new
PartTo did.AllFenced t old new = FencesTo t old new
PartTo did.Ended t old new = LeavesTo t old new

abbrev pub EndsTo : EndStep → ℕ → Shared → Shared → Type 0
EndsTo did.More t old new = EndsOnTo t old new
EndsTo did.AllFenced t old new = ClosesTo t old new
EndsTo did.Ended t old new = LeavesTo t old new
