use Rattle.std.proofs.Common.{◌≡◌, length, IfSome}
use Rattle.frames.specs.Calls.{throws}
use Rattle.frame_thread.specs.Stacked.{list_of, IsBelowEnd}
use Rattle.frame_steps.specs.Sized.{AreOf}
use Rattle.frame_steps.proofs.throws.throws.Given as goal

-- the throwable leaves the frames that are left
abbrev pub invariant-loop-standing : goal.invariant-loop-standing
invariant-loop-standing g l =
    (throws (g.H.Host.setting l.host) l.thrown l.class (list_of l.fn.thread) ≡
    throws (g.H.Host.setting l.host) l.thrown l.class (list_of l.thread)) ×
    IfSome l.thread.form IsBelowEnd × AreOf (g.H.Host.setting l.host).program (list_of l.thread)

abbrev pub decreases-loop-standing : goal.decreases-loop-standing
decreases-loop-standing g l = length (list_of l.thread)
