use Rattle.plain_model.proofs.Owning.{exits_follow_enters, one_owner_a_key}
use Rattle.plain_model.proofs.run_laws.monitors_have_one_owner.Goals as goal

pub returns-clause-exits : goal.returns-clause-exits
returns-clause-exits g c set main opening code front a rest key run is =
    exits_follow_enters set main opening code front a rest key run is

pub returns-clause-one_owner : goal.returns-clause-one_owner
returns-clause-one_owner g c set main opening code acts key t u run first second =
    one_owner_a_key set main opening code acts key t u run first second
