-- What a part of a logging, and of a region's end, does to its thread's log and to the memory: for each answer
-- what the log's own call says.
use Rattle.std.specs.Prelude.{◌≡◌, ◌≢◌, ◌⊎◌, ◌-◌, Result, Ok, OnErr}
use Rattle.line_image.specs.declared.image.ImageFailed.{ImageFailed}
use Rattle.line_memory.specs.Memory.{Memory, OneCall}
use Rattle.region_log.specs.declared.entry.Entry.{Entry}
use Rattle.region_log.specs.declared.log.LogStep.{LogStep}
use Rattle.region_log.specs.declared.log.LogStep.TheVariants.{More, Logged, Full}
use Rattle.region_log.specs.declared.log.EndStep.{EndStep}
use Rattle.region_log.specs.declared.log.EndStep.TheVariants.{More as EndMore, AllFenced, Ended}
use Rattle.region_log.specs.Kept.{KeepsRegion}
use Rattle.region_log.specs.Log.{Log}
use Rattle.region_log.specs.Stages.{EndsAtOnce}
use Rattle.region_log.specs.Steps.{StepsOn, TouchesFor, AddsOn, AddsEntry, FailsToAdd, TouchesToEnd, EndsOn, FencesRegion}
use Rattle.region_log.specs.Steps.{EndsLog, FailsToEnd}

-- a part of the logging of an entry, which is under way
pub record LogsPart (e : Entry) (before after : Log) (old new : Memory) (result : Result LogStep ImageFailed) : Type 0 where
  pub room : result ≢ Ok Full
  pub more : result ≡ Ok More → TouchesFor e before after old new ⊎ AddsOn e before after old new
  pub logged : result ≡ Ok Logged → AddsEntry e before after old new
  pub failed : OnErr result (FailsToAdd e before after old new)
  pub one_call : OneCall old new
  pub steps : StepsOn before after old new

-- a part of the end of the innermost region
pub record EndsPart (before after : Log) (old new : Memory) (result : Result EndStep ImageFailed) : Type 0 where
  pub at_once : EndsAtOnce before → (result ≡ Ok Ended) × (after ≡ record before { depth = before.depth - 1 }) × (new ≡ old)
  pub more : result ≡ Ok EndMore → TouchesToEnd before after old new ⊎ EndsOn before after old new
  pub fenced : result ≡ Ok AllFenced → FencesRegion before after old new
  pub ended : result ≡ Ok Ended → ¬ EndsAtOnce before → EndsLog before after old new
  pub failed : OnErr result (FailsToEnd before after old new)
  pub one_call : ¬ EndsAtOnce before → OneCall old new
  pub steps : StepsOn before after old new
  pub region : KeepsRegion before old → KeepsRegion after new
