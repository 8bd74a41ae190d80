use Rattle.std.proofs.Common.{◌≡◌}
use Rattle.frame_cells.proofs.Inserts.{Carries}
use Rattle.frame_cells.proofs.stack.CellStack.insert.Given as goal

abbrev pub invariant-loop-i : goal.invariant-loop-i
invariant-loop-i g l = Carries l.fn.self.entries l.self.entries l.fn.at l.i l.fn.value l.carried
    × (l.self.ready ≡ l.fn.self.ready)
