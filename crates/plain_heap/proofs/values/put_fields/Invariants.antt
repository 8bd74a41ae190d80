use Rattle.std.proofs.Common.{◌≡◌, take, map, length, vec_capacity}
use Rattle.graph_model.specs.declared.types.Field.{Field}
use Rattle.graph_model.specs.Heaps.{default_of}
use Rattle.plain_heap.proofs.values.put_fields.Given as goal

abbrev pub invariant-loop-field : goal.invariant-loop-field
invariant-loop-field l = record {
  items : l.values.items ≡ map (λ (f : Field). default_of f.kind) (take l.field-index l.fields);
  counted : length l.values.items ≡ l.field-index;
  room : vec_capacity l.values ≡ vec_capacity l.fn.values;
}
