-- The world is whole.
use Rattle.convert_rows.specs.Worlds.{IsWorld}
use Rattle.convert_rows.proofs.rows.run.Given as goal

abbrev pub invariant-loop : goal.invariant-loop
invariant-loop l = record {
  whole : IsWorld l.world.heap.space l.world.heap.memory l.world.heap.marks l.world.queue l.world.space l.world.monitors l.world.objects.items;
}
