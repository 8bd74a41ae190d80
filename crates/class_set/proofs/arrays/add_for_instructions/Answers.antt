use Rattle.std.proofs.Common.{drop, ap, ◌∙◌, arith, ◌+◌}
use Rattle.std.specs.List.{flat_map}
use Rattle.code_form.specs.declared.ins.Placed.{Placed}
use Rattle.class_set.specs.ArrayTypes.{listed_by, with_arrays}
use Rattle.class_set.proofs.Needed.{needed_next}
use Rattle.class_set.proofs.arrays.add_for_instructions.Goals as goal

pub loop-placed-preserved : goal.loop-placed-preserved
loop-placed-preserved c =
    let items = c.as_slice-placed-items.result.now in
    let i = c.loop-placed.placed-index in
    let needed = λ (p : Placed). listed_by c.args.what c.args.pool.now p.ins in
    record {
      listed = ap (λ ns. with_arrays ns (flat_map needed (drop (i + 1) items))) c.in_ok-add_for_instruction.ensures.arrays
          ∙ needed_next needed items i c.placed-item.result c.loop-placed.arrays (omega arith) c.placed-item.is
          ∙ c.loop-placed.invariant.listed;
      marked = c.in_ok-add_for_instruction.ensures.marked;
    }
