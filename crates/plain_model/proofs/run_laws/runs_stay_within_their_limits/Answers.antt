use Rattle.plain_model.proofs.Within.{runs_stay_within, each_act_leaves_a_mark}
use Rattle.plain_model.proofs.run_laws.runs_stay_within_their_limits.Goals as goal

pub returns-clause-within : goal.returns-clause-within
returns-clause-within g c set main opening code limits lines acts run quiet =
    runs_stay_within set main opening code limits lines acts run quiet

pub returns-clause-marks : goal.returns-clause-marks
returns-clause-marks g c = each_act_leaves_a_mark
