use Rattle.first_spaces.proofs.Opening.{appended_opened, empty_opened, found_opened}
use Rattle.first_spaces.proofs.laws.a_run_can_begin_over_recovered_images.Goals as goal

pub returns-clause-found : goal.returns-clause-found
returns-clause-found c = found_opened

pub returns-clause-empty : goal.returns-clause-empty
returns-clause-empty c = empty_opened

pub returns-clause-appended : goal.returns-clause-appended
returns-clause-appended c = appended_opened
