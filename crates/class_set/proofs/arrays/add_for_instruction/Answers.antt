use Rattle.std.proofs.Common.{[], ◌∷◌}
use Rattle.class_set.proofs.Again.{marked_after}
use Rattle.class_set.proofs.arrays.add_for_instruction.Goals as goal

pub returns-in-NewArray-clause-marked : goal.returns-in-NewArray-clause-marked
returns-in-NewArray-clause-marked c =
    marked_after c.add_array.result c.args.what c.args.pool.now c.args.arrays.now c.add_array.new.arrays
    ((91 ∷ c.primitive_letter.result ∷ []) ∷ []) c.args.marks.now c.requires.marked c.add_array.ensures
