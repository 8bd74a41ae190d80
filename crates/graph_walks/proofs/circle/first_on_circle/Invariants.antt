use Rattle.std.proofs.Common.{ℕ, ◌<◌}
use Rattle.graph_walks.specs.Paths.{Leads}
use Rattle.graph_walks.proofs.circle.first_on_circle.Given as goal

abbrev pub invariant-loop-vertex : goal.invariant-loop-vertex
invariant-loop-vertex l = (u : ℕ) → u < l.vertex → Leads l.edges u u → ⊥
