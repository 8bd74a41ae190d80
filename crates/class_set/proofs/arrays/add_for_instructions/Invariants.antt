use Rattle.std.proofs.Common.{◌≡◌, drop}
use Rattle.std.specs.List.{flat_map}
use Rattle.code_form.specs.declared.ins.Placed.{Placed}
use Rattle.class_set.specs.ArrayTypes.{listed_by}
use Rattle.class_set.specs.Marks.{AreMarked}
use Rattle.class_set.specs.ArrayTypes.{with_arrays}
use Rattle.class_set.proofs.arrays.add_for_instructions.Given as goal

abbrev pub invariant-loop-placed : goal.invariant-loop-placed
invariant-loop-placed l = record {
  listed : with_arrays l.arrays
      (flat_map (λ (p : Placed). listed_by l.what l.pool p.ins) (drop l.placed-index l.placed-items)) ≡ with_arrays
      l.fn.arrays (flat_map (λ (p : Placed). listed_by l.what l.pool p.ins) l.placed-items);
  marked : AreMarked l.what l.pool l.arrays l.marks;
}
