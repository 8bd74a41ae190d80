use Rattle.std.proofs.Common.{refl, arith}
use Rattle.frame_thread.proofs.Slots.{nested-saved, may-do, laid-left}
use Rattle.frame_thread.proofs.thread.Thread.pop.Goals as goal

pub leave-requires-clause-order : goal.leave-requires-clause-order
leave-requires-clause-order g c =
    let i = c.self.inside in
    let b = c.in-Some.ensures in
    let h = nested-saved i.forms.form i.left i.cells i.forms.saved _ c.pop.new.self.saved c.self.invariant.0 b.saved in
    (h.0.order, h.0.within)

pub leave-requires-clause-stack : goal.leave-requires-clause-stack
leave-requires-clause-stack g c =
    let i = c.self.inside in
    let b = c.in-Some.ensures in
    let h = nested-saved i.forms.form i.left i.cells i.forms.saved _ c.pop.new.self.saved c.self.invariant.0 b.saved in
    h.0.room

pub leave-requires-clause-room : goal.leave-requires-clause-room
leave-requires-clause-room g c =
    let i = c.self.inside in
    let b = c.in-Some.ensures in
    let h = nested-saved i.forms.form i.left i.cells i.forms.saved _ c.pop.new.self.saved c.self.invariant.0 b.saved in
    omega (arith, h.0.cells)

pub invariant_of-self-2 : goal.invariant_of-self-2
invariant_of-self-2 g c =
    let i = c.self.inside in
    let b = c.in-Some.ensures in
    let h = nested-saved i.forms.form i.left i.cells i.forms.saved _ c.pop.new.self.saved c.self.invariant.0 b.saved in (
      rw (b.form, c.leave.ensures) (laid-left _ c.pop.new.self.saved i.cells.under h),
      rw b.form (may-do i.doing b.last h.0.waits),
    )

pub returns-clause-frames : goal.returns-clause-frames
returns-clause-frames g c =
    let b = c.in-Some.ensures in
    rw (← c.self.view_is, b.form, b.saved, c.leave.ensures) refl

pub returns-clause-waits : goal.returns-clause-waits
returns-clause-waits g c =
    let i = c.self.inside in
    let b = c.in-Some.ensures in
    let h = nested-saved i.forms.form i.left i.cells i.forms.saved _ c.pop.new.self.saved c.self.invariant.0 b.saved in
    rw b.form h.0.waits
