use Rattle.launch_laws.proofs.Shapes.{agreeing_is_of_class}
use Rattle.launch_laws.proofs.start_laws.agreeing_directories_have_the_classes_shapes.Goals as goal

pub returns : goal.returns
returns c = agreeing_is_of_class
