use Rattle.plain_model.proofs.Regions.{regions_guard, regions_nest}
use Rattle.plain_model.proofs.run_rows.regions_keep_their_rules.Goals as goal

pub returns : goal.returns
returns c = record { guard = regions_guard; nest = regions_nest }
