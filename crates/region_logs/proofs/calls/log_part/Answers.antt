use Rattle.std.proofs.Common.{◌≡◌, Some, Ok, rules}
use Rattle.region_log.specs.declared.entry.Entry.{Entry}
use Rattle.region_log.specs.declared.log.LogStep.TheVariants.{Full}
use Rattle.region_log.specs.Log.{Log}
use Rattle.region_log.specs.Readers.{added_entry}
use Rattle.region_logs.specs.Calls.{LogsPart}
use Rattle.region_logs.proofs.Guards.{added-is, added-unlogged, busy, log-stays}
use Rattle.region_logs.proofs.calls.log_part.Goals as goal

pub log_next-requires-clause-unlogged : goal.log_next-requires-clause-unlogged
log_next-requires-clause-unlogged g c =
    let named : added_entry c.args.log.now.underway ≡ Some c.unwrap-entry.result = search rules in
    added-unlogged c.args.log.now c.args.memory.now c.unwrap-entry.result c.requires.keeps named

pub returns-clause-guards : goal.returns-clause-guards
returns-clause-guards g c =
    let before : Log = c.args.log.now in
    let after : Log = c.log_next.new.self in
    let e : Entry = c.unwrap-entry.result in
    let named : added_entry before.underway ≡ Some e = search rules in
    let said = c.log_next.ensures in
    let room = λ (full : c.log_next.result ≡ Ok Full). busy before.underway c.requires.named (said.full.0 full).0 in
    let part : LogsPart e before after c.args.memory.now c.log_next.new.memory c.log_next.result = record {
      room = room;
      more = said.more;
      logged = said.logged;
      failed = said.failed;
      one_call = said.one_call room;
      steps = said.steps;
    } in
    let was = added-is before.underway e named in
    (log-stays e was.0 before after c.args.memory.now c.log_next.new.memory c.log_next.result was.1 part).guards
