use Rattle.std.proofs.Common.{refl}
use Rattle.class_set.specs.declared.arrays.Listed.TheVariants.{Needed}
use Rattle.class_set.specs.ArrayTypes.{named}
use Rattle.class_set.specs.Marks.{spelled}
use Rattle.class_set.proofs.Again.{classes_after}
use Rattle.class_set.proofs.arrays.add_named.Goals as goal

pub returns-in-Needed-clause-marked : goal.returns-in-Needed-clause-marked
returns-in-Needed-clause-marked c =
    let pool = c.args.pool.now in
    let marks = c.args.marks.now in
    classes_after c.add_needed.result c.args.what pool c.args.arrays.now c.add_needed.new.arrays (named Needed (spelled pool c.args.class))
    marks (record { elements = marks.elements; classes = c.add_needed.new.marks }) c.requires.marked c.in-Needed.is refl
    c.add_needed.ensures.arrays c.add_needed.ensures.marked
