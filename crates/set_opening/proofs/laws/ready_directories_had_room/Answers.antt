use Rattle.set_opening.proofs.Room.{ready_had_room}
use Rattle.set_opening.proofs.laws.ready_directories_had_room.Goals as goal

pub returns : goal.returns
returns c = record { room = ready_had_room }
