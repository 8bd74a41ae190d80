use Rattle.std.proofs.Common.{◌≡◌, ◌<◌, length}
use Rattle.std.specs.Prelude.{All}
use Rattle.graph_model.specs.declared.types.Root.{Root}
use Rattle.audit_keeping.specs.Beginning.{with_roots}
use Rattle.audit_keeping.proofs.beginning.mark_roots.Given as goal

abbrev pub invariant-roots : goal.invariant-roots
invariant-roots l =
    (with_roots l.marks l.rest ≡ with_roots l.fn.marks l.roots)
    × (length l.marks ≡ length l.fn.marks)
    × All (λ (r : Root). r.at < length l.fn.marks) l.rest

abbrev pub decreases-roots : goal.decreases-roots
decreases-roots l = length l.rest
