use Rattle.std.proofs.Common.{◌≡◌, ◌<◌, Some, Ok, ◌∙◌, ap, subst, arith, rules}
use Rattle.line_memory.specs.Memory.{Memory}
use Rattle.region_log.specs.declared.entry.Entry.{Entry}
use Rattle.region_log.specs.declared.entry.Underway.{Underway}
use Rattle.region_log.specs.declared.log.LogStep.TheVariants.{More, Logged}
use Rattle.region_log.specs.Log.{Log}
use Rattle.region_log.specs.Readers.{added_entry}
use Rattle.region_logs.specs.Calls.{LogsPart}
use Rattle.region_logs.specs.Logs.{log_at}
use Rattle.region_logs.proofs.Guards.{adding-is}
use Rattle.region_logs.proofs.Parts.{GoesOn, IsLoggedNow, goes-on, logged-now}
use Rattle.region_logs.proofs.rows.log_word.Goals as goal

pub loop-call-preserved : goal.loop-call-preserved
loop-call-preserved g c =
    let before : Log = log_at c.loop-call.logs c.args.t in
    let after : Log = log_at c.log_next.new.self c.args.t in
    let inv = c.loop-call.invariant in
    let is = adding-is before.underway inv.named in
    let e : Entry = is.0 in
    let added : added_entry before.underway ≡ Some e = ap (λ (u : Underway). added_entry u) is.2 in
    let more : c.log_next.result ≡ Ok More = search rules in
    let part : LogsPart e before after c.loop-call.memory c.log_next.new.memory (Ok More) =
    subst (λ r. LogsPart e before after c.loop-call.memory c.log_next.new.memory r) more
    (c.log_next.ensures.part e added) in
    let on : GoesOn before after = goes-on e before after c.loop-call.memory c.log_next.new.memory part in
    let depth : after.depth ≡ before.depth = on.depth in
    let opened : 0 < before.depth = inv.opened in
    record {
      lines = c.log_next.ensures.others.lines ∙ inv.lines;
      named = on.named;
      opened = omega (arith, depth, opened);
      depth = on.depth ∙ inv.depth;
      keeps = part.steps.keeps;
    }

pub returns-in-Ok-Logged-clause-idle : goal.returns-in-Ok-Logged-clause-idle
returns-in-Ok-Logged-clause-idle g c =
    let before : Log = log_at c.loop-call.logs c.args.t in
    let after : Log = log_at c.log_next.new.self c.args.t in
    let is = adding-is before.underway c.loop-call.invariant.named in
    let e : Entry = is.0 in
    let added : added_entry before.underway ≡ Some e = ap (λ (u : Underway). added_entry u) is.2 in
    let logged : c.log_next.result ≡ Ok Logged = search rules in
    let part : LogsPart e before after c.loop-call.memory c.log_next.new.memory (Ok Logged) =
    subst (λ r. LogsPart e before after c.loop-call.memory c.log_next.new.memory r) logged
    (c.log_next.ensures.part e added) in
    let now : IsLoggedNow before after =
    logged-now e before after c.loop-call.memory c.log_next.new.memory part in
    λ yes. now.idle

pub returns-in-Ok-Logged-clause-depth : goal.returns-in-Ok-Logged-clause-depth
returns-in-Ok-Logged-clause-depth g c =
    let before : Log = log_at c.loop-call.logs c.args.t in
    let after : Log = log_at c.log_next.new.self c.args.t in
    let is = adding-is before.underway c.loop-call.invariant.named in
    let e : Entry = is.0 in
    let added : added_entry before.underway ≡ Some e = ap (λ (u : Underway). added_entry u) is.2 in
    let logged : c.log_next.result ≡ Ok Logged = search rules in
    let part : LogsPart e before after c.loop-call.memory c.log_next.new.memory (Ok Logged) =
    subst (λ r. LogsPart e before after c.loop-call.memory c.log_next.new.memory r) logged
    (c.log_next.ensures.part e added) in
    let now : IsLoggedNow before after =
    logged-now e before after c.loop-call.memory c.log_next.new.memory part in
    λ yes. now.depth ∙ c.loop-call.invariant.depth

pub returns-in-Ok-Logged-clause-keeps : goal.returns-in-Ok-Logged-clause-keeps
returns-in-Ok-Logged-clause-keeps g c =
    let before : Log = log_at c.loop-call.logs c.args.t in
    let is = adding-is before.underway c.loop-call.invariant.named in
    let added : added_entry before.underway ≡ Some is.0 = ap (λ (u : Underway). added_entry u) is.2 in
    let part = c.log_next.ensures.part is.0 added in
    λ yes. part.steps.keeps
