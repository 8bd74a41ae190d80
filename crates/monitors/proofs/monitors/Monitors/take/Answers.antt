use Rattle.std.proofs.Common.{◌≡◌, length, ◌∙◌, arith}
use Rattle.monitors.proofs.Becomes.{held_pushed, push_entered}
use Rattle.monitors.proofs.Indexing.{index_pushed}
use Rattle.monitors.proofs.monitors.Monitors.take.Goals as goal

pub link-requires-clause-before : goal.link-requires-clause-before
link-requires-clause-before c =
    let count : c.len-n.result ≡ length c.self.inside.held.items = c.len-n.ensures ∙ c.self.inside.held.ok.0 in
    rw (c.deref.ensures.value, c.push_reserved.ensures.items, count)
    (index_pushed c.self.inside.held.items _ c.self.inside.index.latest.items c.self.inside.index.earlier.items c.self.invariant.index)

pub invariant_of-self : goal.invariant_of-self
invariant_of-self c =
    let count : c.len-n.result ≡ length c.self.inside.held.items = c.len-n.ensures ∙ c.self.inside.held.ok.0 in
    held_pushed c.self.inside.held.items c.push_reserved.new.self.items c.args.key c.args.owner _ c.link.new.self.latest.items
    c.link.new.self.earlier.items c.self.invariant.sound (rw c.self.view_is c.requires.free) c.push_reserved.ensures.items
    (rw (← c.deref.ensures.value, ← count) c.link.ensures.linked) (omega (arith, count, c.if-n-ge-MOST_MONITORS.false))
    (omega (arith, c.self.invariant.fit, c.push_reserved.ensures.capacity))

pub returns-clause-taken : goal.returns-clause-taken
returns-clause-taken c e = rw (← c.self.view_is) (c.push_reserved.ensures.items ∙ push_entered c.self.inside.held.items c.args.key c.args.owner (rw c.self.view_is c.requires.free))
