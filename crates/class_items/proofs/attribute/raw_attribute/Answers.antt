use Rattle.std.proofs.Common.{arith}
use Rattle.const_pool.specs.declared.entry.Tag.TheVariants.{Utf8}
use Rattle.parsing.proofs.Fields.{number_moves}
use Rattle.class_items.proofs.Moves.{index_moves}
use Rattle.class_items.proofs.attribute.raw_attribute.Goals as goal

pub returns-clause-within : goal.returns-clause-within
returns-clause-within c =
    let name = index_moves c.args.pool.now Utf8 c.args.file.now _ c.in_ok-name.ensures in
    let size = number_moves 4 c.index.new.file _ c.in_ok-size.ensures in
    omega (arith, name, size, c.in_ok-content.ensures.within, c.at-at.ensures)
