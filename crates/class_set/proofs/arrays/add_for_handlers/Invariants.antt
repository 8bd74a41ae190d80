use Rattle.std.proofs.Common.{◌≡◌, drop}
use Rattle.std.specs.List.{flat_map}
use Rattle.code_attribute.specs.declared.code.Handler.{Handler}
use Rattle.class_links.specs.Names.{class_name}
use Rattle.class_set.specs.ArrayTypes.{named, with_arrays}
use Rattle.class_set.specs.Marks.{AreMarked}
use Rattle.class_set.proofs.arrays.add_for_handlers.Given as goal

abbrev pub invariant-loop-handler : goal.invariant-loop-handler
invariant-loop-handler l = record {
  listed : with_arrays l.arrays
      (flat_map (λ (h : Handler). named l.what (class_name l.pool h.catch)) (drop l.handler-index l.handler-items)) ≡
      with_arrays l.fn.arrays (flat_map (λ (h : Handler). named l.what (class_name l.pool h.catch)) l.handler-items);
  marked : AreMarked l.what l.pool l.arrays l.marks;
}
