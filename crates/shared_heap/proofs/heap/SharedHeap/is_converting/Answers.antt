use Rattle.std.proofs.Common.{rules, ◌≡◌, ◌≢◌}
use Rattle.std.specs.Prelude.{None, slice_get}
use Rattle.convert_queue.specs.declared.phase.Phase.TheVariants.{Flush}
use Rattle.convert_queue.specs.Queues.{phase_of, queue_of}
use Rattle.shared_heap.proofs.Converting.{begun_now, not_begun_now}
use Rattle.shared_heap.proofs.heap.SharedHeap.is_converting.Goals as goal

pub returns-then-eq : goal.returns-then-eq
returns-then-eq g c =
    let none : slice_get (queue_of c.self.inside.queue c.args.t) 0 ≡ None = search rules in
    let flush : phase_of c.self.inside.queue c.args.t ≡ Flush = search rules in
    begun_now _ c.args.self.now c.args.t c.group.result c.has_other.result c.self.view_is none c.group.ensures.group
    c.has_other.ensures.small flush c.has_other.ensures.other

pub returns-else-eq : goal.returns-else-eq
returns-else-eq g c =
    let none : slice_get (queue_of c.self.inside.queue c.args.t) 0 ≡ None = search rules in
    let other : phase_of c.self.inside.queue c.args.t ≢ Flush = search rules in
    not_begun_now _ c.args.self.now c.args.t c.eq.result c.self.view_is none other c.if-eq.false
