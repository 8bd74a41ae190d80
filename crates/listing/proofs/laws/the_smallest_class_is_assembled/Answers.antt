use Rattle.listing.proofs.Rows.{smallest, class_goes_on}
use Rattle.listing.proofs.laws.the_smallest_class_is_assembled.Goals as goal

pub returns-clause-smallest : goal.returns-clause-smallest
returns-clause-smallest c = smallest

pub returns-clause-goes_on : goal.returns-clause-goes_on
returns-clause-goes_on c = class_goes_on
