use Rattle.std.proofs.Common.{◌≤◌, length, arith}
use Rattle.graph_model.specs.Canon.{found_from}
use Rattle.graph_model.proofs.FoundAfter.{found_after-few}
use Rattle.live_heap.proofs.walk.count_reached.Goals as goal

pub overflow_cast-result : goal.overflow_cast-result
unfolding found_from
overflow_cast-result c =
    let heap = c.args.heap.now in
    let few = found_after-few heap c.args.start.now c.requires.sound c.requires.start (length heap.objects) in
    let size : c.len.result ≤ length heap.objects = rw (c.len.ensures, c.in_ok-walk.ensures.numbers) few in
    omega (arith, size, c.requires.sound.few)
