use Rattle.std.proofs.Common.{Option, [], get_or, sym, subst}
use Rattle.line_image.specs.Trace.{Trace, LeavesNow}
use Rattle.line_image.proofs.Moments.{within-from_now_on, within-past, within-write, within-fence}
use Rattle.line_image.proofs.Versions.{newest_left}
use Rattle.line_image.proofs.laws.laws_of_stops.Goals as goal

pub returns-clause-readable : goal.returns-clause-readable
returns-clause-readable c h l w = newest_left (get_or h.first l []) h.done l w

pub returns-clause-fenced : goal.returns-clause-fenced
returns-clause-fenced c h k fenced left l w = fenced l w (k l w) (left l w)

pub returns-clause-from_now_on : goal.returns-clause-from_now_on
returns-clause-from_now_on c told m k counted lt left = subst (λ (p : Option Trace). LeavesNow p k) (sym (within-from_now_on told m counted lt)) left

pub returns-clause-past : goal.returns-clause-past
returns-clause-past c = within-past

pub returns-clause-in_write : goal.returns-clause-in_write
returns-clause-in_write c = within-write

pub returns-clause-in_fence : goal.returns-clause-in_fence
returns-clause-in_fence c = within-fence
