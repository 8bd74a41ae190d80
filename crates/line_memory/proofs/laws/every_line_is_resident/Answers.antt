use Rattle.line_memory.proofs.Residence.{every_line_is_resident}
use Rattle.line_memory.proofs.laws.every_line_is_resident.Goals as goal

pub returns : goal.returns
returns c = every_line_is_resident
