use Rattle.std.proofs.Common.{sym}
use Rattle.frame_thread.proofs.Slots.{room-left}
use Rattle.frame_thread.proofs.thread.Thread.left.Goals as goal

pub returns-clause-left : goal.returns-clause-left
returns-clause-left g c =
    let i = c.self.inside in
    rw (← c.self.view_is) (sym (room-left i.forms.form i.left i.cells i.forms.saved c.self.invariant.0))
