use Rattle.std.proofs.Common.{◌≡◌, length}
use Rattle.printed_output.specs.Output.{behind}
use Rattle.printed_output.proofs.output.behind.Given as goal

abbrev pub invariant-piece : goal.invariant-piece
invariant-piece l = behind l.left l.rest ≡ behind l.piece l.bytes

abbrev pub decreases-piece : goal.decreases-piece
decreases-piece l = length l.left
