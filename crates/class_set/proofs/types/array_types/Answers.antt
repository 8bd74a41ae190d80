use Rattle.std.proofs.Common.{◌-◌, length, take, drop, map, ap, ◌∙◌}
use Rattle.class_set.specs.ArrayTypes.{array_type}
use Rattle.class_set.specs.Tables.{array_now}
use Rattle.class_set.proofs.Copied.{mapped_more}
use Rattle.class_set.proofs.types.array_types.Goals as goal

pub loop-text-preserved : goal.loop-text-preserved
loop-text-preserved c = λ files are.
    let items = take (length c.as_slice.result.now - c.args.classes) (drop c.args.classes c.as_slice.result.now) in
    let text = c.text-item.result in
    ap (map array_now) c.in_ok-push.ensures.items
    ∙ mapped_more array_now (array_type files) c.loop-text.arrays.items c.in_ok-array_type.field-0 items c.loop-text.text-index text
    c.loop-text-test.true (c.loop-text.invariant files are)
    (c.in_ok-array_type.ensures files are ∙ ap (array_type files) (c.as_slice-in-loop-text.ensures.same ∙ c.text-item.is))
