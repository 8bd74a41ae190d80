use Rattle.std.proofs.Common.{◌≡◌, ◌≤◌, ◌-◌, drop, length}
use Rattle.printed_output.specs.Output.{is_output}
use Rattle.printed_output.proofs.output.is_output.Given as goal

abbrev pub invariant-acts : goal.invariant-acts
invariant-acts l = (l.i ≤ length l.acts.acts) × (is_output (drop l.i l.acts.acts) l.rest ≡ is_output l.acts.acts l.output)

abbrev pub decreases-acts : goal.decreases-acts
decreases-acts l = length l.acts.acts - l.i
