use Rattle.std.proofs.Common.{◌≡◌, ◌-◌}
use Rattle.annotations.specs.Annotations.{marks_from}
use Rattle.annotations.proofs.Loops.{with_before}
use Rattle.annotations.proofs.reading.some_annotations.Given as goal

abbrev pub invariant-loop : goal.invariant-loop
invariant-loop l = with_before l.marks (marks_from l.pool (l.count - l.counter) l.file) ≡ marks_from l.pool l.count l.fn.file
