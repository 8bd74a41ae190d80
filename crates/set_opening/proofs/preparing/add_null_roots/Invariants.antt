-- The roots so far are added.
use Rattle.std.proofs.Common.{◌≡◌, take}
use Rattle.set_opening.specs.Fitted.{with_null_roots}
use Rattle.set_opening.proofs.preparing.add_null_roots.Given as goal

abbrev pub invariant-loop-name : goal.invariant-loop-name
invariant-loop-name l = l.graph ≡ with_null_roots l.fn.graph (take l.name-index l.names)
