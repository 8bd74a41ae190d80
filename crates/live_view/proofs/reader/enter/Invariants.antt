use Rattle.std.proofs.Common.{◌≡◌}
use Rattle.left_right.specs.Sides.{view}
use Rattle.live_view.proofs.reader.enter.Given as goal

abbrev pub invariant-loop : goal.invariant-loop
invariant-loop g l = view l.reader.place ≡ view l.fn.reader.place
