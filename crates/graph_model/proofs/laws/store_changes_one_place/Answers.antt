use Rattle.graph_model.proofs.Stores.{value_at-stored}
use Rattle.graph_model.proofs.laws.store_changes_one_place.Goals as goal

pub returns : goal.returns
returns c heap place other value h = value_at-stored heap place other value h
