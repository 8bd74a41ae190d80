use Rattle.std.proofs.Common.{◌≡◌, ◌-◌, ◌+◌, ◌≤◌, length}
use Rattle.code_form.specs.Reading.{placed_at}
use Rattle.code_form.proofs.Placing.{with_placed}
use Rattle.code_form.proofs.reading.all_placed.Given as goal

abbrev pub invariant-loop-rest : goal.invariant-loop-rest
invariant-loop-rest l = record {
  so_far : with_placed l.code.items (placed_at (length l.bytes - length l.code.items) (length l.bytes) l.rest)
      ≡ placed_at (length l.bytes) (length l.bytes) l.bytes;
  enough : length l.code.items + length l.rest ≤ length l.bytes;
}

abbrev pub decreases-loop-rest : goal.decreases-loop-rest
decreases-loop-rest l = length l.rest
