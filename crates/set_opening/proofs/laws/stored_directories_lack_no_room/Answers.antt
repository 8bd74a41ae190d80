use Rattle.set_opening.proofs.Room.{stored_has_room}
use Rattle.set_opening.proofs.laws.stored_directories_lack_no_room.Goals as goal

pub returns : goal.returns
returns c = record { room = stored_has_room }
