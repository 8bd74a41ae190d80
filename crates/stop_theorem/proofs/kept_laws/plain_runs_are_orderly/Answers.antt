use Rattle.std.proofs.Common.{refl, [], ◌∷◌}
use Rattle.run_history.specs.Wanted.{NoWish}
use Rattle.plain_model.specs.First.{first_known}
use Rattle.stop_theorem.proofs.Runs.{orderly_first, orderly_run}
use Rattle.stop_theorem.proofs.kept_laws.plain_runs_are_orderly.Goals as goal

pub returns : goal.returns
returns c _ set main opening code acts run =
    orderly_run set main opening code (first_known set opening).world.heap (first_known set opening)
    (code.main_frames ∷ []) NoWish acts
    (orderly_first (first_known set opening) refl) run
