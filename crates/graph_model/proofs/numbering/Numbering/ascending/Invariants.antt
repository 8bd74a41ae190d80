use Rattle.std.proofs.Common.{◌≡◌}
use Rattle.std.specs.Prelude.{filter}
use Rattle.std.specs.List.{range_with_len}
use Rattle.graph_model.specs.Heaps.{has_number}
use Rattle.graph_model.proofs.numbering.Numbering.ascending.Given as goal

abbrev pub invariant-loop-object : goal.invariant-loop-object
invariant-loop-object l = l.ascending.items ≡ filter (has_number l.self-inside.found.items) (range_with_len 0 l.object)
