use Rattle.plain_model.proofs.Printed.{output_of-append, output_by_operations}
use Rattle.plain_model.proofs.laws.output_is_that_of_the_acts.Goals as goal

pub returns-clause-parts : goal.returns-clause-parts
returns-clause-parts c = output_of-append

pub returns-clause-operations : goal.returns-clause-operations
returns-clause-operations c = output_by_operations
