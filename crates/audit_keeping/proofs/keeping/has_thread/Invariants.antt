use Rattle.std.proofs.Common.{◌≡◌, length}
use Rattle.graph_model.specs.Heaps.{has_number}
use Rattle.audit_keeping.proofs.keeping.has_thread.Given as goal

abbrev pub invariant-threads : goal.invariant-threads
invariant-threads l = has_number l.rest l.t ≡ has_number l.threads l.t

abbrev pub decreases-threads : goal.decreases-threads
decreases-threads l = length l.rest
