use Rattle.two_spaces.proofs.Quieted.{calls_quiet, quiet_keys, quiet_monitors, quiet_moves, quiet_shows, quiet_whole}
use Rattle.two_spaces.proofs.Quieted.{quiet_world, stores_quiet}
use Rattle.two_spaces.proofs.laws.calls_of_the_image_show_the_same.Goals as goal

pub returns-clause-calls : goal.returns-clause-calls
returns-clause-calls c = calls_quiet

pub returns-clause-beside : goal.returns-clause-beside
returns-clause-beside c = stores_quiet

pub returns-clause-none : goal.returns-clause-none
returns-clause-none c = quiet_moves

pub returns-clause-whole : goal.returns-clause-whole
returns-clause-whole c = quiet_whole

pub returns-clause-shows : goal.returns-clause-shows
returns-clause-shows c = quiet_shows

pub returns-clause-keys : goal.returns-clause-keys
returns-clause-keys c = quiet_keys

pub returns-clause-world : goal.returns-clause-world
returns-clause-world c = quiet_world

pub returns-clause-monitors : goal.returns-clause-monitors
returns-clause-monitors c = quiet_monitors
