use Rattle.std.proofs.Common.{◌≡◌, length, arith, ap, sym, ◌∙◌}
use Rattle.std.proofs.lemmas.List.{length-map}
use Rattle.built_in_table.specs.Rows.{row_name}
use Rattle.class_set.proofs.Numbers.{built_in_size}
use Rattle.class_set.proofs.names.add_built_ins.Goals as goal

pub add-requires : goal.add-requires
add-requires c =
    let items = c.built_in_classes-class-items.result.now in
    let size : length items ≡ 28 = sym (length-map items row_name) ∙ ap length c.built_in_classes-class-items.ensures.names ∙ built_in_size in
    record { room = omega (arith, size, c.loop-class.invariant.few) }
