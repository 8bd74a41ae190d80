-- Behind the brackets stands the same.
use Rattle.std.proofs.Common.{◌≡◌, length}
use Rattle.directories.specs.ClassSets.{behind_brackets}
use Rattle.directories.proofs.agreeing.behind_brackets.Given as goal

abbrev pub decreases-loop-rest : goal.decreases-loop-rest
decreases-loop-rest l = length l.rest

abbrev pub invariant-loop-rest : goal.invariant-loop-rest
invariant-loop-rest l = behind_brackets l.rest ≡ behind_brackets l.name
