use Rattle.std.proofs.Common.{◌≡◌, [], Some, ap, sym, ◌∙◌, subst}
use Rattle.class_set.specs.ArrayTypes.{with_arrays}
use Rattle.class_set.specs.Marks.{AreListed, array_of_class, spelled}
use Rattle.class_set.proofs.Again.{listed_after, listed_more}
use Rattle.class_set.proofs.arrays.add_made.Goals as goal

pub returns-in_default-clause-marked : goal.returns-in_default-clause-marked
returns-in_default-clause-marked c =
    listed_after c.add_array_of.result array_of_class c.args.pool.now c.args.arrays.now c.add_array_of.new.arrays (array_of_class [])
    c.args.marks.now.items c.requires.marked c.add_array_of.ensures

pub returns-clause-marked : goal.returns-clause-marked
returns-clause-marked c =
    let pool = c.args.pool.now in
    let old = c.args.arrays.now in
    let marks = c.mark.new.marks.items in
    let listed : c.add_array_of-2.new.arrays ≡ with_arrays old (array_of_class (spelled pool (Some c.in-Some.name))) =
    c.in_ok-add_array_of.ensures ∙ ap (λ t. with_arrays old (array_of_class t)) c.text_at.ensures in
    subst (λ xs. AreListed array_of_class pool xs marks) (sym listed)
    (listed_more array_of_class pool old c.args.marks.now.items marks c.in-Some.name c.requires.marked c.mark.ensures)
