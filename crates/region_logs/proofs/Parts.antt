-- What the rows need of a part of a logging, and of a region's end: whether more parts are left.
use Rattle.std.proofs.Common.{◌≡◌, ◌≢◌, ⊎_elim, true, length, Ok, refl, sym, ap, subst}
use Rattle.line_memory.specs.Memory.{Memory}
use Rattle.region_log.specs.declared.entry.Entry.{Entry}
use Rattle.region_log.specs.declared.entry.EntryStage.{EntryStage}
use Rattle.region_log.specs.declared.entry.EndStage.{EndStage}
use Rattle.region_log.specs.declared.entry.EndStage.TheVariants.{AllFenced as StageFenced}
use Rattle.region_log.specs.declared.entry.Underway.TheVariants.{Nothing, Adding, Ending}
use Rattle.region_log.specs.declared.log.LogStep.TheVariants.{More, Logged}
use Rattle.region_log.specs.declared.log.EndStep.{EndStep}
use Rattle.region_log.specs.declared.log.EndStep.TheVariants.{More as EndMore, AllFenced, Ended}
use Rattle.region_log.specs.Guarding.{is_adding}
use Rattle.region_log.specs.Log.{Log}
use Rattle.region_log.specs.Stages.{CanEnd, entry_stage, next_stage, end_stage, next_end}
use Rattle.region_log.specs.Steps.{TouchesFor, AddsOn, TouchesToEnd, EndsOn}
use Rattle.region_logs.specs.Calls.{LogsPart, EndsPart}

pub record GoesOn (before after : Log) : Type 0 where
  pub named : is_adding after.underway ≡ true
  pub depth : after.depth ≡ before.depth

adds : (before after : Log) (e : Entry) (stage : EntryStage) → after ≡ record before { underway = Adding e stage }
    → GoesOn before after
adds before after e stage is = record {
  named = ap (λ (l : Log). is_adding l.underway) is;
  depth = ap (λ (l : Log). l.depth) is;
}

pub goes-on : (e : Entry) (before after : Log) (old new : Memory) → LogsPart e before after old new (Ok More)
    → GoesOn before after
goes-on e before after old new part = ⊎_elim
    (λ (touched : TouchesFor e before after old new). adds before after e (entry_stage before.underway) touched.log)
    (λ (added : AddsOn e before after old new). adds before after e (next_stage (entry_stage before.underway)) added.log)
    (part.more refl)

pub record IsLoggedNow (before after : Log) : Type 0 where
  pub idle : after.underway ≡ Nothing
  pub depth : after.depth ≡ before.depth

pub logged-now : (e : Entry) (before after : Log) (old new : Memory) → LogsPart e before after old new (Ok Logged)
    → IsLoggedNow before after
logged-now e before after old new part =
    let is = (part.logged refl).log in record {
      idle = ap (λ (l : Log). l.underway) is;
      depth = ap (λ (l : Log). l.depth) is;
    }

pub record EndGoesOn (before after : Log) : Type 0 where
  pub can : CanEnd after.underway
  pub depth : after.depth ≡ before.depth

ends : (before after : Log) (stage : EndStage) → after ≡ record before { underway = Ending stage }
    → EndGoesOn before after
ends before after stage is = record {
  can = subst (λ (l : Log). CanEnd l.underway) (sym is) tt;
  depth = ap (λ (l : Log). l.depth) is;
}

pub end-goes-on : (before after : Log) (old new : Memory) (step : EndStep) → step ≢ Ended
    → EndsPart before after old new (Ok step)
    → EndGoesOn before after
end-goes-on before after old new EndMore not part = ⊎_elim
    (λ (touched : TouchesToEnd before after old new). ends before after (end_stage before.underway) touched.log)
    (λ (on : EndsOn before after old new).
    let stage : EndStage = next_end (length before.entries) (end_stage before.underway) in
    ends before after stage on.log)
    (part.more refl)
end-goes-on before after old new AllFenced not part = ends before after StageFenced (part.fenced refl).log
end-goes-on before after old new Ended not part = absurd (not refl)
