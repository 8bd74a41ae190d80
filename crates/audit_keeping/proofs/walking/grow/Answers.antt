use Rattle.std.proofs.Common.{◌≡◌, suc, ◌+◌, ◌-◌, ◌<◌, length, subst, arith}
use Rattle.audit_keeping.specs.Walking.{IsWalking, marks_met, queue_met, unmarked}
use Rattle.graph_model.specs.Heaps.{values_of}
use Rattle.audit_keeping.proofs.Walks.{values-below, walk-begins, walk-goes, walk-ends, walk-nears}
use Rattle.audit_keeping.proofs.walking.grow.Goals as goal

pub walk-init : goal.walk-init
walk-init c = rw (c.in_ok-meet.ensures.marks, c.in_ok-meet.ensures.queue, c.new-queue.ensures.items)
    (walk-begins c.args.heap.now c.args.marks.now c.args.start c.requires.long c.requires.closed c.requires.start)

pub walk-preserved : goal.walk-preserved
walk-preserved c =
    let n = c.index-n.result.now in
    let inside : c.walk.at < length c.walk.queue.items = (let t = c.walk-test.true in let l = c.len.ensures in omega (arith, t, l)) in
    let below = values-below c.args.heap.now c.args.marks.now c.args.start c.requires.long c.requires.closed c.walk.marks c.walk.queue.items c.walk.at n c.requires.sound c.walk.invariant inside c.index-n.ensures in
    let next : suc c.walk.at ≡ c.walk.at + 1 = omega arith in
    rw (c.in_ok-meet-2.ensures.marks, c.in_ok-meet-2.ensures.queue, c.values.ensures)
    (subst (λ i. IsWalking c.args.heap.now c.args.marks.now c.args.start (marks_met (values_of c.args.heap.now n) c.walk.marks) (queue_met (values_of c.args.heap.now n) c.walk.marks c.walk.queue.items) i) next
    (walk-goes c.args.heap.now c.args.marks.now c.args.start c.requires.long c.requires.closed c.walk.marks c.walk.queue.items c.walk.at n c.walk.invariant inside c.index-n.ensures below))

pub walk-smaller : goal.walk-smaller
walk-smaller c =
    let n = c.index-n.result.now in
    let inside : c.walk.at < length c.walk.queue.items = (let t = c.walk-test.true in let l = c.len.ensures in omega (arith, t, l)) in
    let below = values-below c.args.heap.now c.args.marks.now c.args.start c.requires.long c.requires.closed c.walk.marks c.walk.queue.items c.walk.at n c.requires.sound c.walk.invariant inside c.index-n.ensures in
    let next : suc c.walk.at ≡ c.walk.at + 1 = omega arith in
    rw (c.in_ok-meet-2.ensures.marks, c.in_ok-meet-2.ensures.queue, c.values.ensures)
    (subst (λ i. unmarked (marks_met (values_of c.args.heap.now n) c.walk.marks) + (length (queue_met (values_of c.args.heap.now n) c.walk.marks c.walk.queue.items) - i)
    < unmarked c.walk.marks + (length c.walk.queue.items - c.walk.at)) next
    (walk-nears (values_of c.args.heap.now n) c.walk.marks c.walk.queue.items c.walk.at below inside))

pub returns : goal.returns
returns c = record { grown = walk-ends c.args.heap.now c.args.marks.now c.args.start c.requires.long c.requires.closed c.walk.marks c.walk.queue.items c.walk.at c.walk.invariant (let t = c.walk-test.false in let l = c.len.ensures in omega (arith, t, l)) }
