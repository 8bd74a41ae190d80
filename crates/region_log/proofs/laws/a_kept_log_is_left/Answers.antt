use Rattle.region_log.proofs.Left.{underway_left}
use Rattle.region_log.proofs.laws.a_kept_log_is_left.Goals as goal

pub returns : goal.returns
returns c log m left keeps tells all = underway_left m left all log.thread log.entries log.underway
    (keeps.words tells)
