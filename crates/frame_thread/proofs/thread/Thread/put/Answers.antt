use Rattle.std.proofs.Common.{ap}
use Rattle.frame_thread.proofs.Slots.{laid-after}
use Rattle.frame_thread.proofs.thread.Thread.put.Goals as goal

pub invariant_of-self : goal.invariant_of-self
invariant_of-self g c =
    let i = c.self.inside in (
      laid-after i.forms.form i.left i.cells c.put_given.new.cells i.forms.saved c.self.invariant.0
          (ap (λ w. w.under) c.put_given.ensures.own) c.put_given.ensures.size,
      c.self.invariant.1,
    )
