use Rattle.code_form.proofs.Rows.{loads_are_read, stores_are_read, arithmetic_is_read, jumps_are_read, objects_are_read}
use Rattle.code_form.proofs.laws.each_instruction_is_read.Goals as goal

pub returns-clause-loads : goal.returns-clause-loads
returns-clause-loads c = loads_are_read

pub returns-clause-stores : goal.returns-clause-stores
returns-clause-stores c = stores_are_read

pub returns-clause-arithmetic : goal.returns-clause-arithmetic
returns-clause-arithmetic c = arithmetic_is_read

pub returns-clause-jumps : goal.returns-clause-jumps
returns-clause-jumps c = jumps_are_read

pub returns-clause-objects : goal.returns-clause-objects
returns-clause-objects c = objects_are_read
