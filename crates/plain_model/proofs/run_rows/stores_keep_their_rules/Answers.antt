use Rattle.plain_model.proofs.Fenced.{stores_are_fenced, only_durable_places_are_asked}
use Rattle.plain_model.proofs.run_rows.stores_keep_their_rules.Goals as goal

pub returns : goal.returns
returns c = record { fenced = stores_are_fenced; asked = only_durable_places_are_asked }
