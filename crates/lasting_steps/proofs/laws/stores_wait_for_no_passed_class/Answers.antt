use Rattle.lasting_steps.proofs.Storing.{stores_have_passed, passed_stores_dont_wait}
use Rattle.lasting_steps.proofs.laws.stores_wait_for_no_passed_class.Goals as goal

pub returns-clause-stores : goal.returns-clause-stores
returns-clause-stores c = stores_have_passed

pub returns-clause-passed : goal.returns-clause-passed
returns-clause-passed c = passed_stores_dont_wait
