use Rattle.two_spaces.proofs.Starting.{beginnings_stand, own_classes, own_shapes_stand}
use Rattle.two_spaces.proofs.laws.heaps_begin_whole.Goals as goal

pub returns-clause-begins : goal.returns-clause-begins
returns-clause-begins c = beginnings_stand

pub returns-clause-own_classes : goal.returns-clause-own_classes
returns-clause-own_classes c = own_classes

pub returns-clause-own_shapes : goal.returns-clause-own_shapes
returns-clause-own_shapes c = own_shapes_stand
