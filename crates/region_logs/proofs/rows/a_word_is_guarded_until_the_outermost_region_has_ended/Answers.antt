use Rattle.std.proofs.Common.{◌≡◌}
use Rattle.line_memory.specs.Memory.{Memory}
use Rattle.region_log.specs.Kept.{KeepsLog}
use Rattle.region_logs.specs.Logs.{log_at}
use Rattle.region_logs.proofs.rows.a_word_is_guarded_until_the_outermost_region_has_ended.Goals as goal

pub log_word-requires-clause-keeps : goal.log_word-requires-clause-keeps
log_word-requires-clause-keeps g c =
    let m : Memory = c.in_ok-memory.memory in
    let first : KeepsLog (log_at c.in_ok-logs.logs c.main-main.result) m =
    rw (c.main-main.ensures.zero, c.in_ok-logs.ensures.empty 0) c.in_ok-memory.ensures.keeps in
    c.begin-2.ensures.keeps m (c.begin.ensures.keeps m first)
