use Rattle.std.proofs.Common.{◌≡◌, ◌⊎◌, ⊎_elim, refl, sym, ◌∙◌, ap, subst, rules}
use Rattle.line_memory.specs.Memory.{Memory}
use Rattle.region_log.specs.declared.entry.Entry.{Entry}
use Rattle.region_log.specs.declared.entry.EntryStage.{EntryStage}
use Rattle.region_log.specs.declared.entry.Underway.TheVariants.{Nothing, Adding}
use Rattle.region_log.specs.Log.{Log, entry_of}
use Rattle.region_log.specs.Stages.{CanAdd, entry_stage, next_stage}
use Rattle.region_log.specs.Steps.{TouchesFor, AddsOn}
use Rattle.region_rows.proofs.regions.log_word.Goals as goal

pub log_next-requires-clause-unlogged : goal.log_next-requires-clause-unlogged
log_next-requires-clause-unlogged g c = rw c.loop-call.invariant.entries c.requires.unlogged

-- after More the entry is under way
adds : (before after : Log) (e : Entry) (old new : Memory) → TouchesFor e before after old new ⊎ AddsOn e before after old new
    → (s : EntryStage) × (after ≡ record before { underway = Adding e s })
adds before after e old new more = ⊎_elim
    (λ (touched : TouchesFor e before after old new). (entry_stage before.underway, touched.log))
    (λ (added : AddsOn e before after old new). (next_stage (entry_stage before.underway), added.log))
    more

not_nothing : (e : Entry) (s : EntryStage) → Adding e s ≡ Nothing → ⊥
not_nothing e s is = cc

pub loop-call-preserved : goal.loop-call-preserved
loop-call-preserved g c =
    let before : Log = c.loop-call.log in
    let after : Log = c.log_next.new.self in
    let e : Entry = entry_of c.args.spot c.load-old.result in
    let inv = c.loop-call.invariant in
    let more : TouchesFor e before after c.loop-call.memory c.log_next.new.memory ⊎ AddsOn e before after c.loop-call.memory c.log_next.new.memory = search rules in
    let st = adds before after e c.loop-call.memory c.log_next.new.memory more in
    record {
      keeps = c.log_next.ensures.steps.keeps;
      can = subst (λ (log : Log). CanAdd log.underway e) (sym st.1) refl;
      shows = λ nothing. absurd (not_nothing e st.0 (sym (ap (λ (log : Log). log.underway) st.1) ∙ nothing));
      entries = ap (λ (log : Log). log.entries) st.1 ∙ inv.entries;
      depth = ap (λ (log : Log). log.depth) st.1 ∙ inv.depth;
      thread = ap (λ (log : Log). log.thread) st.1 ∙ inv.thread;
      size = c.log_next.ensures.steps.size ∙ inv.size;
    }
