-- What the events of regions leave: the lines that objects took, unwritten lines, and the work that is left.
use Rattle.std.specs.Prelude.{◌≡◌, ◌⊎◌, ℕ, ◌+◌, ◌≤◌}
use Rattle.ap_base.specs.declared.reference.Ref.{Ref}
use Rattle.ap_base.specs.declared.reference.Item.{Item}
use Rattle.ap_base.specs.declared.place.Place.{Place}
use Rattle.natives.specs.declared.requests.Request.{Request}
use Rattle.natives.specs.declared.requests.Reply.{Reply}
use Rattle.twin_forms.specs.Sights.{Twin}
use Rattle.region_log.specs.declared.entry.Entry.{Entry as LogEntry}
use Rattle.region_log.specs.Log.{Log}
use Rattle.region_log.specs.Steps.{TouchesFor, AddsOn, AddsEntry, FailsToAdd, TouchesToEnd, EndsOn, FailsToEnd}
use Rattle.machine_laws.specs.Passed.{Machine, memory_of, log_of}
use Rattle.machine_laws.specs.Passed.{KeepsRun}
use Rattle.machine_laws.specs.Passed.{BeginsRegion, GuardsPlace, with_guarded, LogsWord, with_logged, StoresLogged, EndsPart}
use Rattle.machine_laws.specs.Passed.{ClosesRegion, with_closing, EndsByAct}
use Rattle.machine_ends.specs.Unwritten.{OfUnwritten}
use Rattle.machine_ends.specs.Work.{measure}

-- ---- calls of the image

-- A call that logs a word lowers the measure where it was made, and leaves it where it failed. No line is
-- touched for it, since each is resident.
pub record LoggingLowersTheMeasure : Type 0 where
  pub made : OfUnwritten (λ o m es. (twin : Twin) (t : ℕ) (log' : Log) (l : LogsWord m twin t log')
      → AddsOn l.entry (log_of m t) log' (memory_of m) twin.memory
      ⊎ AddsEntry l.entry (log_of m t) log' (memory_of m) twin.memory
      → measure (with_logged m twin t log') + 1 ≤ measure m)
  pub failed : OfUnwritten (λ o m es. (twin : Twin) (t : ℕ) (log' : Log) (l : LogsWord m twin t log')
      → FailsToAdd l.entry (log_of m t) log' (memory_of m) twin.memory
      → measure (with_logged m twin t log') ≡ measure m)
  pub untouched : OfUnwritten (λ o m es. (twin : Twin) (t : ℕ) (log' : Log) (l : LogsWord m twin t log')
      → TouchesFor l.entry (log_of m t) log' (memory_of m) twin.memory → ⊥)

-- So does a call by which a region is being ended.
pub record EndingLowersTheMeasure : Type 0 where
  pub made : OfUnwritten (λ o m es. (twin : Twin) (t : ℕ) (request : Request Ref Item) (log' : Log)
      → EndsPart o m twin t request log' → EndsOn (log_of m t) log' (memory_of m) twin.memory
      → measure (with_logged m twin t log') + 1 ≤ measure m)
  pub closed : OfUnwritten (λ o m es. (twin : Twin) (t : ℕ) (request : Request Ref Item) (log' : Log)
      → ClosesRegion o m twin t request log' → measure (with_closing m twin t log') + 1 ≤ measure m)
  pub failed : OfUnwritten (λ o m es. (twin : Twin) (t : ℕ) (request : Request Ref Item) (log' : Log)
      → EndsPart o m twin t request log' → FailsToEnd (log_of m t) log' (memory_of m) twin.memory
      → measure (with_logged m twin t log') ≡ measure m)
  pub untouched : OfUnwritten (λ o m es. (twin : Twin) (t : ℕ) (request : Request Ref Item) (log' : Log)
      → EndsPart o m twin t request log' → TouchesToEnd (log_of m t) log' (memory_of m) twin.memory → ⊥)

-- ---- acts

-- A place that is guarded adds eight at most: its entry's four calls, and where it is the first one the four
-- by which the region ends. No other act of a region adds any.
pub record GuardsAddEightToTheMeasure : Type 0 where
  pub guarded : OfUnwritten (λ o m es. (t : ℕ) (request : Request Ref Item) (place : Place) (item : Item)
      (e : LogEntry) → GuardsPlace o m es t request place item e
      → measure (with_guarded m t place e) ≤ measure m + 8)
  pub begun : OfUnwritten (λ o m es. (m' : Machine) (t : ℕ) (request : Request Ref Item) (r : Reply Ref Item)
      → BeginsRegion o m m' es t request r → KeepsRun o m' es → measure m' ≡ measure m)
  pub stored : OfUnwritten (λ o m es. (m' : Machine) (t : ℕ) (request : Request Ref Item) (place : Place)
      (item : Item) → StoresLogged o m m' es t request place item → KeepsRun o m' es
      → measure m' ≤ measure m)
  pub ended : OfUnwritten (λ o m es. (m' : Machine) (t : ℕ) (request : Request Ref Item) (r : Reply Ref Item)
      → EndsByAct o m m' es t request r → KeepsRun o m' es → measure m' ≤ measure m)
