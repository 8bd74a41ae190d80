use Rattle.std.proofs.Common.{drop, ap, ◌∙◌, arith, ◌+◌}
use Rattle.std.specs.List.{flat_map}
use Rattle.class_file.specs.declared.method.Method.{Method}
use Rattle.class_file.specs.Members.{code_in}
use Rattle.class_set.specs.ArrayTypes.{listed_by_code}
use Rattle.class_set.specs.ArrayTypes.{with_arrays}
use Rattle.class_set.proofs.Needed.{needed_next}
use Rattle.class_set.proofs.arrays.add_for_class.Goals as goal

pub loop-method-preserved : goal.loop-method-preserved
loop-method-preserved c =
    let items = c.as_slice-method-items.result.now in
    let i = c.loop-method.method-index in
    let needed = λ (m : Method). listed_by_code c.args.what c.args.file.now.pool (code_in m.attributes) in
    record {
      listed = ap (λ ns. with_arrays ns (flat_map needed (drop (i + 1) items))) c.in_ok-add_for_method.ensures.arrays
          ∙ needed_next needed items i c.method-item.result c.loop-method.arrays (omega arith) c.method-item.is
          ∙ c.loop-method.invariant.listed;
      marked = c.in_ok-add_for_method.ensures.marked;
    }
