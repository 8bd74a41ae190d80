use Rattle.std.proofs.Common.{◌≡◌}
use Rattle.audit_rows.proofs.histories.push_all.Given as goal

abbrev pub invariant-loop-op : goal.invariant-loop-op
invariant-loop-op l = l.acts.room ≡ l.fn.acts.room
