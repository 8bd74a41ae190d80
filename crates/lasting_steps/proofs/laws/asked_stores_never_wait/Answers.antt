use Rattle.lasting_steps.proofs.Storing.{asked_places_are_passed, asked_places_stay_passed, asked_stores_never_wait}
use Rattle.lasting_steps.proofs.laws.asked_stores_never_wait.Goals as goal

pub returns-clause-passed : goal.returns-clause-passed
returns-clause-passed g c = asked_places_are_passed

pub returns-clause-stay : goal.returns-clause-stay
returns-clause-stay g c = asked_places_stay_passed

pub returns-clause-never : goal.returns-clause-never
returns-clause-never g c = asked_stores_never_wait
