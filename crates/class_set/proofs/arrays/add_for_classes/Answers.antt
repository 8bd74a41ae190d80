use Rattle.std.proofs.Common.{drop, ap, ◌∙◌, arith, ◌+◌}
use Rattle.std.specs.List.{flat_map}
use Rattle.class_set.specs.ArrayTypes.{listed_by_class}
use Rattle.class_set.specs.ArrayTypes.{with_arrays}
use Rattle.class_set.proofs.Needed.{needed_next}
use Rattle.class_set.proofs.arrays.add_for_classes.Goals as goal

pub loop-file-preserved : goal.loop-file-preserved
loop-file-preserved c =
    let files = c.args.files.now in
    let i = c.loop-file.file-index in
    ap (λ ns. with_arrays ns (flat_map (listed_by_class c.args.what) (drop (i + 1) files))) c.in_ok-add_for_class.ensures
    ∙ needed_next (listed_by_class c.args.what) files i c.file-item.result c.loop-file.arrays (omega arith) c.file-item.is
    ∙ c.loop-file.invariant
