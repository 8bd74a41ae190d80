use Rattle.two_spaces.proofs.Moved.{keys, monitors_stay, moves_key}
use Rattle.two_spaces.proofs.Rekeyed.{rekeyed_world}
use Rattle.two_spaces.proofs.laws.forwards_move_keys.Goals as goal

pub returns-clause-others : goal.returns-clause-others
returns-clause-others c = keys

pub returns-clause-monitors : goal.returns-clause-monitors
returns-clause-monitors c = monitors_stay

pub returns-clause-forwards : goal.returns-clause-forwards
returns-clause-forwards c = moves_key

pub returns-clause-rekeyed : goal.returns-clause-rekeyed
returns-clause-rekeyed c = rekeyed_world
