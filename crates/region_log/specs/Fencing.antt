-- Which calls of a log are fences. Whoever waits for a fence needs to know of these too.
use Rattle.std.specs.Prelude.{◌≡◌, ℕ, Bool, true, false, nat_eq, [], length}
use Rattle.line_memory.specs.Memory.{Memory}
use Rattle.region_log.specs.declared.entry.Entry.{Entry}
use Rattle.region_log.specs.declared.entry.EntryStage.TheVariants.{Begun, Written, Fenced, Counting, Counted}
use Rattle.region_log.specs.declared.entry.EndStage.TheVariants.{Writing, AllFenced, Clearing, Cleared}
use Rattle.region_log.specs.declared.entry.Underway.{Underway}
use Rattle.region_log.specs.declared.entry.Underway.TheVariants.{Nothing, Adding, Ending}
use Rattle.region_log.specs.Kept.{KeepsLog}
use Rattle.region_log.specs.Log.{Log}
use Rattle.region_log.specs.Made.{PutsThenCalls, Fences}
use Rattle.region_log.specs.Stages.{CanAdd, CanEnd}
use Rattle.region_log.specs.Steps.{TouchesFor, AddsOn, AddsEntry, FailsToAdd, TouchesToEnd, EndsOn, FencesRegion, EndsLog}
use Rattle.region_log.specs.Steps.{FailsToEnd}

-- Whether the next call is a fence, with n words logged: behind the words of an entry or its count, behind the lines of
-- all n words, or behind the count 0.
abbrev pub is_fence_next : ℕ → Underway → Bool
is_fence_next n Nothing = false
is_fence_next n (Adding e Begun) = false
is_fence_next n (Adding e Written) = true
is_fence_next n (Adding e Fenced) = false
is_fence_next n (Adding e Counting) = false
is_fence_next n (Adding e Counted) = true
is_fence_next n (Ending (Writing lines)) = nat_eq lines n
is_fence_next n (Ending AllFenced) = false
is_fence_next n (Ending Clearing) = false
is_fence_next n (Ending Cleared) = true

abbrev pub fences_next : Log → Bool
fences_next log = is_fence_next (length log.entries) log.underway

-- Whether a fence led from one to the other: a call that failed, or only touched a line, leads to no such stage.
abbrev pub leads_by_fence : Underway → Underway → Bool
leads_by_fence (Adding e Written) (Adding other Fenced) = true
leads_by_fence (Adding e Counted) Nothing = true
leads_by_fence (Ending (Writing lines)) (Ending AllFenced) = true
leads_by_fence (Ending Cleared) Nothing = true
leads_by_fence before after = false

-- whether the call that made one log of the other made a fence
abbrev pub makes_fence : Log → Log → Bool
makes_fence before after = leads_by_fence before.underway after.underway

-- ---- it says so exactly

-- The call did nothing but fence.
pub record FencesAlone (old new : Memory) : Type 0 where
  pub memory : PutsThenCalls [] old new
  pub fences : Fences old new

-- A call that logs a word and was made did what was next: where a fence was, it made that, and else none. One
-- that only touched a line, or failed, made none, and a fence touches no line.
pub record LoggingSeesFences : Type 0 where
  pub touched : (e : Entry) (before after : Log) (old new : Memory) → CanAdd before.underway e
      → TouchesFor e before after old new
      → (makes_fence before after ≡ false) × (fences_next before ≡ false)
  pub added : (e : Entry) (before after : Log) (old new : Memory) → CanAdd before.underway e
      → AddsOn e before after old new → (makes_fence before after ≡ fences_next before)
      × (makes_fence before after ≡ true → FencesAlone old new)
  pub counted : (e : Entry) (before after : Log) (old new : Memory) → CanAdd before.underway e
      → AddsEntry e before after old new
      → (makes_fence before after ≡ true) × (fences_next before ≡ true) × FencesAlone old new
  pub failed : (e : Entry) (before after : Log) (old new : Memory) → FailsToAdd e before after old new
      → makes_fence before after ≡ false

-- So did a call that ends a region.
pub record EndingSeesFences : Type 0 where
  pub touched : (before after : Log) (old new : Memory) → CanEnd before.underway
      → TouchesToEnd before after old new
      → (makes_fence before after ≡ false) × (fences_next before ≡ false)
  pub ended : (before after : Log) (old new : Memory) → CanEnd before.underway → KeepsLog before old
      → EndsOn before after old new → (makes_fence before after ≡ false) × (fences_next before ≡ false)
  pub fenced : (before after : Log) (old new : Memory) → CanEnd before.underway → KeepsLog after new
      → FencesRegion before after old new
      → (makes_fence before after ≡ true) × (fences_next before ≡ true) × FencesAlone old new
  pub emptied : (before after : Log) (old new : Memory) → EndsLog before after old new
      → (makes_fence before after ≡ true) × (fences_next before ≡ true) × FencesAlone old new
  pub failed : (before after : Log) (old new : Memory) → FailsToEnd before after old new
      → makes_fence before after ≡ false
