use Rattle.std.proofs.Common.{◌≡◌, ℕ, zero, suc, refl}
use Rattle.graph_model.specs.declared.types.Graph.{Graph}
use Rattle.run_history.specs.Worlds.{depth_of}
use Rattle.plain_model.specs.Facts.{SetFacts}
use Rattle.plain_model.specs.First.{first_known, first_world}
use Rattle.plain_launch.proofs.laws.plain_runs_begin_outside_regions.Goals as goal

outside : (set : SetFacts) (opening : Graph) (t : ℕ) → depth_of (first_known set opening).world t ≡ 0
unfolding first_world
outside set opening zero = refl
outside set opening (suc t) = refl

pub returns : goal.returns
unfolding first_world
returns c = record {
  outside = λ set opening. record { one_thread = refl; outside = outside set opening; unguarded = refl };
}
