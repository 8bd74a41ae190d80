-- Only Joined acts name objects.
use Rattle.run_history.proofs.HeldLaws.{all-named-rightly}
use Rattle.run_history.proofs.acts.Acts.named.Goals as goal

pub returns-in-Some-clause-rightly : goal.returns-in-Some-clause-rightly
returns-in-Some-clause-rightly c =
    let inside = c.self.inside in
    rw (← c.self.view_is) (all-named-rightly inside.objects.items inside.taken inside.held.items c.self.invariant.parts)

pub returns-in-None-clause-rightly : goal.returns-in-None-clause-rightly
returns-in-None-clause-rightly c =
    let inside = c.self.inside in
    rw (← c.self.view_is) (all-named-rightly inside.objects.items inside.taken inside.held.items c.self.invariant.parts)
