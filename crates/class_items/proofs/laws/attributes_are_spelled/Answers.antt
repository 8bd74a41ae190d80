use Rattle.class_items.proofs.Taken.{attributes_taken}
use Rattle.class_items.proofs.laws.attributes_are_spelled.Goals as goal

pub returns-clause-spelled : goal.returns-clause-spelled
returns-clause-spelled c = λ pool file x fits e. (attributes_taken pool file x fits e).takes.parts

pub returns-clause-count : goal.returns-clause-count
returns-clause-count c = λ pool file x fits e. (attributes_taken pool file x fits e).count

pub returns-clause-sizes : goal.returns-clause-sizes
returns-clause-sizes c = λ pool file x fits e. (attributes_taken pool file x fits e).sizes
