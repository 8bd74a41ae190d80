use Rattle.line_memory.proofs.StopSets.{leaves_what_is_read, reads_what_was_written}
use Rattle.line_memory.proofs.laws.fences_leave_what_was_written.Goals as goal

pub returns : goal.returns
returns c = record { read = leaves_what_is_read; written = reads_what_was_written }
