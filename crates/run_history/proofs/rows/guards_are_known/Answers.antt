use Rattle.std.proofs.Common.{◌≡◌, ℕ, zero, suc, refl}
use Rattle.run_history.specs.Worlds.{depth_of}
use Rattle.run_history.specs.Knowing.{known_after_op}
use Rattle.run_history.specs.GuardRows.{alone}
use Rattle.run_history.proofs.rows.guards_are_known.Goals as goal

outside : (t : ℕ) → depth_of alone.world t ≡ 0
outside zero = refl
outside (suc t) = refl

pub returns : goal.returns
unfolding known_after_op
returns c = record {
  guards = record {
    first = record { one_thread = refl; outside = outside; unguarded = refl };
    guards = refl;
  };
}
