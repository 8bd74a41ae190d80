use Rattle.plain_model.proofs.Durable.{durable_stays_after}
use Rattle.plain_model.proofs.laws.durable_objects_stay.Goals as goal

pub returns : goal.returns
returns c = durable_stays_after
