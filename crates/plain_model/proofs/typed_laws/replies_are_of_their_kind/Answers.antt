use Rattle.plain_model.proofs.StepReplies.{reply_is_of_its_kind, reply_is_there}
use Rattle.plain_model.proofs.TypedRuns.{replied_is_of_its_kind}
use Rattle.plain_model.proofs.typed_laws.replies_are_of_their_kind.Goals as goal

pub returns-clause-kinds : goal.returns-clause-kinds
returns-clause-kinds g c set world t taken request o r consistent of_set typed fit does =
    reply_is_of_its_kind set world consistent of_set typed t taken request o r fit does

pub returns-clause-objects : goal.returns-clause-objects
returns-clause-objects g c set world t taken request o r sound fit does =
    reply_is_there set world sound t taken request o r fit does

pub returns-clause-runs : goal.returns-clause-runs
returns-clause-runs g c set main opening code acts t taken request o r consistent is duties run asks does =
    replied_is_of_its_kind set main opening code consistent is duties acts t taken request o r run asks does
