use Rattle.graph_walks.proofs.Marks.{AreMarked-push, room_left}
use Rattle.graph_walks.proofs.walk.Reached.add.Goals as goal

pub returns-in_err-push-clause-room : goal.returns-in_err-push-clause-room
returns-in_err-push-clause-room c =
    let order = c.self.inside.order.items in
    let marks = c.self.inside.marks.items in
    rw (← c.self.view_is) (room_left order marks c.args.vertex c.self.invariant (rw (← c.self.view_is) at c.requires.within)
    (rw (← c.self.view_is) at c.requires.new))

pub invariant_of-self-2 : goal.invariant_of-self-2
invariant_of-self-2 c =
    let order = c.self.inside.order.items in
    let marks = c.self.inside.marks.items in
    rw c.in_ok-push.ensures.items (AreMarked-push order marks c.args.vertex c.self.invariant
    (rw (← c.self.view_is) at c.requires.within) (rw (← c.self.view_is) at c.requires.new))

pub returns-clause-room : goal.returns-clause-room
returns-clause-room c =
    let order = c.self.inside.order.items in
    let marks = c.self.inside.marks.items in
    rw (← c.self.view_is) (room_left order marks c.args.vertex c.self.invariant (rw (← c.self.view_is) at c.requires.within)
    (rw (← c.self.view_is) at c.requires.new))
