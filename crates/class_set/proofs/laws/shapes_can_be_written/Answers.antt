use Rattle.class_set.proofs.Written.{class_shapes, made_shapes, statics_named}
use Rattle.class_set.proofs.laws.shapes_can_be_written.Goals as goal

pub returns : goal.returns
returns c = record { classes = class_shapes; arrays = made_shapes; names = statics_named }
