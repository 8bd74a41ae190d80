use Rattle.std.proofs.Common.{◌≡◌, drop, map}
use Rattle.class_set.specs.Tables.{static_now}
use Rattle.plain_model.specs.First.{root_static}
use Rattle.first_heap.specs.Places.{behind}
use Rattle.first_heap.proofs.places.root_static.Given as goal

abbrev pub invariant-loop-field : goal.invariant-loop-field
invariant-loop-field l = record {
  place : l.place ≡ l.field-index;
  left : root_static (map (static_now l.set.files) l.field-items) l.name
      ≡ behind l.field-index (root_static (map (static_now l.set.files) (drop l.field-index l.field-items)) l.name);
}
