use Rattle.std.proofs.Common.{◌≡◌, ◌<◌, length, refl, sym, subst, arith}
use Rattle.region_log.specs.Log.{Log}
use Rattle.region_logs.specs.Logs.{AllLogs, log_at}
use Rattle.region_logs.specs.Table.{Names}
use Rattle.region_logs.proofs.Tables.{log-is, table-moves}
use Rattle.region_logs.proofs.logs.Logs.end_next.Goals as goal

pub end_part-requires-clause-names : goal.end_part-requires-clause-names
end_part-requires-clause-names g c =
    let inside = c.self.inside in
    let was : Log = c.index_mut-log.result.now in
    let all : AllLogs = record { logs = inside.logs.items; lines = inside.lines } in
    let there : c.number.result < length inside.logs.items = omega (arith, c.number.ensures.below, c.self.invariant.count) in
    let is : was ≡ log_at all c.args.t = log-is inside.logs.items inside.lines all c.number.result c.args.t was refl
    c.number.ensures.same there c.index_mut-log.ensures.value in
    subst (λ (l : Log). Names inside.table.items c.args.t l) (sym is) (c.self.invariant.names c.args.t)

pub invariant_of-self : goal.invariant_of-self
invariant_of-self g c =
    let inside = c.self.inside in
    table-moves inside.logs.items inside.lines c.number.result c.args.t inside.table.items c.end_part.new.table.items
    c.index_mut-log.result.now c.end_part.new.log c.self.invariant c.number.ensures.below c.number.ensures.same
    c.index_mut-log.ensures.value c.end_part.ensures.thread c.end_part.ensures.names c.end_part.ensures.others
