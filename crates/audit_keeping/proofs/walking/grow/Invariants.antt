use Rattle.std.proofs.Common.{◌+◌, ◌-◌, length}
use Rattle.audit_keeping.specs.Walking.{IsWalking, unmarked}
use Rattle.audit_keeping.proofs.walking.grow.Given as goal

abbrev pub invariant-walk : goal.invariant-walk
invariant-walk l = IsWalking l.heap l.fn.marks l.start l.marks l.queue.items l.at

abbrev pub decreases-walk : goal.decreases-walk
decreases-walk l = unmarked l.marks + (length l.queue.items - l.at)
