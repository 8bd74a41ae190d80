use Rattle.std.proofs.Common.{ap, length, arith}
use Rattle.image_compact.proofs.Spellings.{letter_low, name_count}
use Rattle.image_compact.proofs.spelling.push_field.Goals as goal

pub overflow_mul-name : goal.overflow_mul-name
overflow_mul-name c = omega (arith, name_count c.args.field.now.name, c.requires, ap length c.as_slice-name.ensures.same)

pub overflow_add-letter : goal.overflow_add-letter
overflow_add-letter c =
    omega (
      arith,
      name_count c.args.field.now.name,
      c.requires,
      ap length c.as_slice-name.ensures.same,
      letter_low c.args.field.now.kind,
      c.letter.ensures,
    )
