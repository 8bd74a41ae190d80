use Rattle.live_heap.proofs.Marked.{AreMarked-push}
use Rattle.live_heap.proofs.walk.Walk.add.Goals as goal

pub invariant_of-self-then-not-index : goal.invariant_of-self-then-not-index
invariant_of-self-then-not-index c =
    rw (c.in_ok-push.ensures.items)
    (AreMarked-push c.self.inside.found.items c.self.inside.marks.items c.args.object c.self.invariant)
