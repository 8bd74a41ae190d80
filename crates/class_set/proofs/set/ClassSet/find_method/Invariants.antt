use Rattle.std.proofs.Common.{◌≡◌, ◌-◌}
use Rattle.plain_model.specs.Facts.{classes_of, superclasses_from}
use Rattle.class_set.specs.Linked.{class_count}
use Rattle.class_set.specs.Facts.{facts_of}
use Rattle.class_set.specs.Lookups.{find_method, own_method, first_some}
use Rattle.class_set.proofs.set.ClassSet.find_method.Given as goal

abbrev pub invariant-loop : goal.invariant-loop
invariant-loop l = record {
  count : l.end ≡ class_count l.self;
  rest : find_method l.self l.class l.name l.descriptor
      ≡ first_some (own_method l.self l.name l.descriptor)
      (superclasses_from (classes_of (facts_of l.self)) (l.end - l.counter) l.at);
}
