use Rattle.std.proofs.Common.{◌≡◌, ◌+◌, length}
use Rattle.run_history.specs.OpenGuards.{first_guard}
use Rattle.run_history.proofs.open_guard.first_guard.Given as goal

abbrev pub invariant-acts : goal.invariant-acts
invariant-acts l =
    (first_guard l.regions l.place l.before l.rest ≡ first_guard l.regions l.place 0 l.acts)
    × (l.before + length l.rest ≡ length l.acts)

abbrev pub decreases-acts : goal.decreases-acts
decreases-acts l = length l.rest
