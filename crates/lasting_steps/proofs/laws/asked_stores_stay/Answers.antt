use Rattle.lasting_steps.proofs.Staying.{stores_of_objects_stay, asked_stores_stay}
use Rattle.lasting_steps.proofs.laws.asked_stores_stay.Goals as goal

pub returns-clause-stores : goal.returns-clause-stores
returns-clause-stores g c = stores_of_objects_stay

pub returns-clause-acts : goal.returns-clause-acts
returns-clause-acts g c = asked_stores_stay
