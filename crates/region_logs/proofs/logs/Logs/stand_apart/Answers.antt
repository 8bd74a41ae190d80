use Rattle.std.proofs.Common.{subst}
use Rattle.region_logs.specs.Logs.{AllLogs, AreApart}
use Rattle.region_logs.proofs.Tables.{stands-apart}
use Rattle.region_logs.proofs.logs.Logs.stand_apart.Goals as goal

pub returns : goal.returns
returns c =
    let inside = c.self.inside in
    subst (λ (all : AllLogs). AreApart all) c.self.view_is
    (stands-apart inside.logs.items inside.lines inside.table.items c.self.invariant)
