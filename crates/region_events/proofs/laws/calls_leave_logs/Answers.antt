use Rattle.region_events.proofs.Going.{calls_leave}
use Rattle.region_events.proofs.laws.calls_leave_logs.Goals as goal

pub returns : goal.returns
returns c = calls_leave
