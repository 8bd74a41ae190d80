use Rattle.std.proofs.Common.{◌≡◌, length, IfSome}
use Rattle.frames.specs.Calls.{returns_to}
use Rattle.frame_thread.specs.Stacked.{list_of, IsBelowEnd}
use Rattle.frame_steps.specs.Sized.{AreOf}
use Rattle.frame_steps.proofs.gives.gives_any.Given as goal

-- the value that is left goes to the frames that are left
abbrev pub invariant-loop-standing : goal.invariant-loop-standing
invariant-loop-standing g l =
    (returns_to (g.H.Host.setting l.host) l.fn.value (list_of l.fn.thread) ≡
    returns_to (g.H.Host.setting l.host) l.value (list_of l.thread)) ×
    IfSome l.thread.form IsBelowEnd × AreOf (g.H.Host.setting l.host).program (list_of l.thread)

abbrev pub decreases-loop-standing : goal.decreases-loop-standing
decreases-loop-standing g l = length (list_of l.thread)
