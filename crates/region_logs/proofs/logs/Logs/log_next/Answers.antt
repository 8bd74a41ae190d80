use Rattle.std.proofs.Common.{◌≡◌, ◌<◌, Some, length, sym, subst, arith}
use Rattle.std.specs.Prelude.{slice_set}
use Rattle.region_log.specs.Log.{Log}
use Rattle.region_log.specs.Readers.{added_entry}
use Rattle.region_logs.specs.Calls.{LogsPart}
use Rattle.region_logs.specs.Logs.{AllLogs, log_at}
use Rattle.region_logs.proofs.Tables.{Stays, log-is, log-now, table-goes}
use Rattle.region_logs.proofs.logs.Logs.log_next.Goals as goal

pub invariant_of-self : goal.invariant_of-self
invariant_of-self g c =
    let inside = c.self.inside in
    let was : Log = c.index_mut-log.result.now in
    let now : Log = c.log_part.new.log in
    let stays : Stays was now = record { thread = c.log_part.ensures.thread; guards = c.log_part.ensures.guards } in
    table-goes inside.logs.items inside.lines c.number.result inside.table.items was now c.self.invariant
    c.number.ensures.below c.index_mut-log.ensures.value stays

pub returns-clause-part : goal.returns-clause-part
returns-clause-part g c e added =
    let inside = c.self.inside in
    let was : Log = c.index_mut-log.result.now in
    let now : Log = c.log_part.new.log in
    let there : c.number.result < length inside.logs.items = omega (arith, c.number.ensures.below, c.self.invariant.count) in
    let is : was ≡ log_at c.args.self.now c.args.t = log-is inside.logs.items inside.lines c.args.self.now c.number.result
    c.args.t was c.self.view_is c.number.ensures.same there c.index_mut-log.ensures.value in
    let all : AllLogs = record { logs = slice_set inside.logs.items c.number.result now; lines = inside.lines } in
    let here : now ≡ log_at all c.args.t =
    log-now inside.logs.items inside.lines c.number.result c.args.t now c.number.ensures.same there in
    let part : LogsPart e was now c.args.memory.now c.log_part.new.memory c.log_part.result =
    c.log_part.ensures.part e (subst (λ (l : Log). added_entry l.underway ≡ Some e) (sym is) added) in
    subst (λ (l : Log). LogsPart e l (log_at all c.args.t) c.args.memory.now c.log_part.new.memory c.log_part.result) is
    (subst (λ (l : Log). LogsPart e was l c.args.memory.now c.log_part.new.memory c.log_part.result) here part)
