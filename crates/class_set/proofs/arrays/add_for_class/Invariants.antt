use Rattle.std.proofs.Common.{◌≡◌, drop}
use Rattle.std.specs.List.{flat_map}
use Rattle.class_file.specs.declared.method.Method.{Method}
use Rattle.class_file.specs.Members.{code_in}
use Rattle.class_set.specs.ArrayTypes.{listed_by_code}
use Rattle.class_set.specs.Marks.{AreMarked}
use Rattle.class_set.specs.ArrayTypes.{with_arrays}
use Rattle.class_set.proofs.arrays.add_for_class.Given as goal

abbrev pub invariant-loop-method : goal.invariant-loop-method
invariant-loop-method l = record {
  listed : with_arrays l.arrays
      (flat_map (λ (m : Method). listed_by_code l.what l.file.pool (code_in m.attributes))
      (drop l.method-index l.method-items)) ≡ with_arrays l.fn.arrays
      (flat_map (λ (m : Method). listed_by_code l.what l.file.pool (code_in m.attributes)) l.method-items);
  marked : AreMarked l.what l.file.pool l.arrays l.marks;
}
