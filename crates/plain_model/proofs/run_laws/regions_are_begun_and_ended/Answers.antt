use Rattle.plain_model.proofs.Depths.{depth_is_begins_less_ends}
use Rattle.plain_model.proofs.Guarding.{guards_are_of_open_regions, one_guard_a_place}
use Rattle.plain_model.proofs.Guarded.{guards_were_made, stores_were_guarded}
use Rattle.plain_model.proofs.run_laws.regions_are_begun_and_ended.Goals as goal

pub returns-clause-depth : goal.returns-clause-depth
returns-clause-depth g c set main opening code acts t run = depth_is_begins_less_ends set main opening code acts t run

pub returns-clause-guards : goal.returns-clause-guards
returns-clause-guards g c set main opening code acts t run outside =
    guards_are_of_open_regions set main opening code acts t run outside

pub returns-clause-one_guard : goal.returns-clause-one_guard
returns-clause-one_guard g c set main opening code acts place run = one_guard_a_place set main opening code acts place run

pub returns-clause-within : goal.returns-clause-within
returns-clause-within g c set main opening code acts t place run is =
    guards_were_made set main opening code acts t place run is

pub returns-clause-stores : goal.returns-clause-stores
returns-clause-stores g c set main opening code front a rest place value run is durable deep =
    stores_were_guarded set main opening code front a rest place value run is durable deep
