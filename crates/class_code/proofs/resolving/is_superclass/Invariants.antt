use Rattle.std.proofs.Common.{◌≡◌, ◌-◌, drop}
use Rattle.graph_model.specs.Heaps.{has_number}
use Rattle.plain_model.specs.Facts.{classes_of, superclasses_from, superclasses_of}
use Rattle.class_set.specs.Linked.{class_count}
use Rattle.class_set.specs.Facts.{facts_of}
use Rattle.class_code.proofs.resolving.is_superclass.Given as goal

abbrev pub invariant-loop : goal.invariant-loop
invariant-loop l = record {
  count : l.end ≡ class_count l.set;
  rest : has_number (drop 1 (superclasses_of (facts_of l.set) l.of)) l.class
      ≡ has_number (drop 1 (superclasses_from (classes_of (facts_of l.set)) (l.end - l.counter) l.at)) l.class;
}
