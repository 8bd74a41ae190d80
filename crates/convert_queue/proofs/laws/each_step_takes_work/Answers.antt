use Rattle.convert_queue.proofs.WorkLaws.{work_stored, work_written, work_fenced, work_put, work_copied, work_forwarded}
use Rattle.convert_queue.proofs.WorkLaws.{work_repaired, work_to_repair, work_next, work_to_flush, work_begun}
use Rattle.convert_queue.proofs.laws.each_step_takes_work.Goals as goal

pub returns-clause-stored : goal.returns-clause-stored
returns-clause-stored c = work_stored

pub returns-clause-written : goal.returns-clause-written
returns-clause-written c = work_written

pub returns-clause-fenced : goal.returns-clause-fenced
returns-clause-fenced c = work_fenced

pub returns-clause-put : goal.returns-clause-put
returns-clause-put c = work_put

pub returns-clause-copied : goal.returns-clause-copied
returns-clause-copied c = work_copied

pub returns-clause-forwarded : goal.returns-clause-forwarded
returns-clause-forwarded c = work_forwarded

pub returns-clause-repaired : goal.returns-clause-repaired
returns-clause-repaired c = work_repaired

pub returns-clause-to_repair : goal.returns-clause-to_repair
returns-clause-to_repair c = work_to_repair

pub returns-clause-next : goal.returns-clause-next
returns-clause-next c = work_next

pub returns-clause-to_flush : goal.returns-clause-to_flush
returns-clause-to_flush c = work_to_flush

pub returns-clause-begun : goal.returns-clause-begun
returns-clause-begun c = work_begun
