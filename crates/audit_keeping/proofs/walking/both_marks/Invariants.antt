use Rattle.std.proofs.Common.{◌≡◌, ◌++◌, length}
use Rattle.audit_keeping.specs.Wishing.{both_marks}
use Rattle.audit_keeping.proofs.walking.both_marks.Given as goal

abbrev pub invariant-marks : goal.invariant-marks
invariant-marks l = l.both.items ++ both_marks l.rest l.others ≡ both_marks l.durable l.marks

abbrev pub decreases-marks : goal.decreases-marks
decreases-marks l = length l.rest
