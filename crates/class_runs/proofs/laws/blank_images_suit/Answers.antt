use Rattle.class_runs.proofs.Blank.{blank_admits, blank_room}
use Rattle.class_runs.proofs.laws.blank_images_suit.Goals as goal

pub returns : goal.returns
returns c = record { suit = record { admits = blank_admits; room = blank_room } }
