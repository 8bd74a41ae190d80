-- The world is whole.
use Rattle.convert_rows.specs.Worlds.{IsWorld}
use Rattle.convert_rows.proofs.rows.nodes.Given as goal

abbrev pub invariant-loop-number : goal.invariant-loop-number
invariant-loop-number l = record {
  whole : IsWorld l.world.heap.space l.world.heap.memory l.world.heap.marks l.world.queue l.world.space l.world.monitors l.world.objects.items;
}
