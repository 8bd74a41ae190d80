-- What is seen before the first act: the first heap, of which the nodes of the opening graph are durable.
use Rattle.std.specs.Prelude.{◌-◌, true, false, ◌++◌, length, replicate}
use Rattle.graph_model.specs.declared.types.Graph.{Graph}
use Rattle.plain_model.specs.Facts.{SetFacts}
use Rattle.plain_model.specs.First.{first_heap, first_objects}
use Rattle.live_heap.specs.Seen.{Seen}

abbrev pub first_seen : SetFacts → Graph → Seen
first_seen set opening = record {
  heap = first_heap set opening;
  durable = replicate (length opening.nodes) true
      ++ replicate (length (first_objects set opening) - length opening.nodes) false;
  acts = 0;
  stores = 0;
}
