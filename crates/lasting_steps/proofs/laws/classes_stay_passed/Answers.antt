use Rattle.lasting_steps.proofs.Passing.{classes_stay_passed, classes_stay_passed_by}
use Rattle.lasting_steps.proofs.Storing.{stores_never_wait}
use Rattle.lasting_steps.proofs.laws.classes_stay_passed.Goals as goal

pub returns-clause-one : goal.returns-clause-one
returns-clause-one g c = classes_stay_passed

pub returns-clause-many : goal.returns-clause-many
returns-clause-many g c = classes_stay_passed_by

pub returns-clause-never : goal.returns-clause-never
returns-clause-never g c = stores_never_wait
