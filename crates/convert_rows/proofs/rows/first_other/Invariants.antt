-- The world is whole.
use Rattle.convert_rows.specs.Worlds.{IsWorld}
use Rattle.convert_rows.proofs.rows.first_other.Given as goal

abbrev pub invariant-loop-thread : goal.invariant-loop-thread
invariant-loop-thread l = record {
  whole : IsWorld l.world.heap.space l.world.heap.memory l.world.heap.marks l.world.queue l.world.space l.world.monitors l.world.objects.items;
}
