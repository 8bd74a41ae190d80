use Rattle.plain_model.proofs.Printing.{regions_commit}
use Rattle.plain_model.proofs.run_rows.regions_commit_at_their_end.Goals as goal

pub returns : goal.returns
returns c = regions_commit
