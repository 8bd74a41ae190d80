use Rattle.run_history.specs.Wanted.{NoWish}
use Rattle.plain_model.specs.First.{first_known}
use Rattle.plain_model.specs.Runs.{first_frames}
use Rattle.plain_model.proofs.Appended.{known_after-append, wants_after-push, frames_after-push, GoesOn-push, GoesOn-pushed}
use Rattle.plain_model.proofs.Appended.{GoesOn-front}
use Rattle.std.proofs.Common.{[], ◌∷◌}
use Rattle.plain_model.proofs.Visible.{visible_is_step}
use Rattle.plain_model.proofs.laws.one_more_act.Goals as goal

pub returns-clause-goes_on : goal.returns-clause-goes_on
returns-clause-goes_on g c set main opening code acts a =
    let known = first_known set opening in
    let frames = first_frames set main opening code in
    record {
      run = (GoesOn-pushed set main opening code known frames NoWish acts a, GoesOn-push set main opening code known frames NoWish acts a);
      known = known_after-append known acts (a ∷ []);
      wants = wants_after-push known NoWish acts a;
      frames = frames_after-push set main opening code known frames acts a;
    }

pub returns-clause-fronts : goal.returns-clause-fronts
returns-clause-fronts g c set main opening code front rest =
    GoesOn-front set main opening code (first_known set opening) (first_frames set main opening code) NoWish front rest

pub returns-clause-steps : goal.returns-clause-steps
returns-clause-steps g c set main opening code front a rest run visible = visible_is_step set main opening code front a rest run visible
