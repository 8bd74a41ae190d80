use Rattle.std.proofs.Common.{◌-◌, length}
use Rattle.audit_keeping.proofs.Spreading.{IsSpreading}
use Rattle.audit_keeping.proofs.wishes.spread_each.Given as goal

abbrev pub invariant-asked : goal.invariant-asked
invariant-asked l = IsSpreading l.heap l.durable l.holder l.object l.fn.asked.items l.asked.items l.at

abbrev pub decreases-asked : goal.decreases-asked
decreases-asked l = length l.asked.items - l.at
