use Rattle.std.proofs.Common.{◌≡◌, ◌+◌, ◌≤◌, drop}
use Rattle.std.specs.Prelude.{sum_by}
use Rattle.listing_lines.specs.Instructions.{cell_count}
use Rattle.listing_lines.proofs.instructions.interface_count.Given as goal

abbrev pub invariant-loop-field : goal.invariant-loop-field
invariant-loop-field l = (l.count ≤ 255)
    × (l.count + sum_by cell_count (drop l.field-index l.types) ≡ 1 + sum_by cell_count l.types)
