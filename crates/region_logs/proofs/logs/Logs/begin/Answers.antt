use Rattle.std.proofs.Common.{ap}
use Rattle.region_log.specs.Log.{Log}
use Rattle.region_logs.proofs.Tables.{Stays, same-guards, table-goes}
use Rattle.region_logs.proofs.logs.Logs.begin.Goals as goal

pub invariant_of-self : goal.invariant_of-self
invariant_of-self c =
    let inside = c.self.inside in
    let was : Log = c.index_mut-log.result.now in
    let now : Log = c.begin.new.self in
    let is = c.begin.ensures.opened in
    let stays : Stays was now = same-guards was now (ap (λ (l : Log). l.thread) is) (ap (λ (l : Log). l.entries) is)
    (ap (λ (l : Log). l.underway) is) in
    table-goes inside.logs.items inside.lines c.number.result inside.table.items was now c.self.invariant
    c.number.ensures.below c.index_mut-log.ensures.value stays
