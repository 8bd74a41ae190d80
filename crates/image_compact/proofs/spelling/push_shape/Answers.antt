use Rattle.std.proofs.Common.{List, ap, length, arith}
use Rattle.graph_model.specs.declared.types.Field.{Field}
use Rattle.image_compact.proofs.Spellings.{shape_count, name_count, fields_few}
use Rattle.image_compact.proofs.spelling.push_shape.Goals as goal

pub overflow_mul-fields : goal.overflow_mul-fields
overflow_mul-fields c =
    omega (arith, shape_count c.args.shape.now, fields_few c.args.shape.now.fields, c.requires, ap (λ (all : List Field). length all) c.as_slice-fields.ensures)

pub overflow_add-name : goal.overflow_add-name
overflow_add-name c =
    omega (
      arith,
      shape_count c.args.shape.now,
      fields_few c.args.shape.now.fields,
      c.requires,
      name_count c.args.shape.now.name,
      ap (λ (all : List Field). length all) c.as_slice-fields.ensures,
      ap length c.as_slice-name.ensures.same,
    )
