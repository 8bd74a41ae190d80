use Rattle.std.proofs.Common.{◌≡◌, ◌+◌, ◌≤◌, length}
use Rattle.std.specs.Prelude.{All, replicate}
use Rattle.run_history.specs.OpenGuards.{IsNumbered, no_region, regions_from}
use Rattle.run_history.proofs.open_guard.regions_after.Given as goal

abbrev pub invariant-acts : goal.invariant-acts
invariant-acts l =
    (regions_from l.count l.threads l.regions l.rest ≡ regions_from 0 1 (replicate 64 no_region) l.acts)
    × (All IsNumbered l.rest → All IsNumbered l.acts)
    × (l.count + length l.rest ≡ length l.acts) × (l.threads ≤ 1 + l.count)

abbrev pub decreases-acts : goal.decreases-acts
decreases-acts l = length l.rest
