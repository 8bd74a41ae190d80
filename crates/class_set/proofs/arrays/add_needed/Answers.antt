use Rattle.std.proofs.Common.{◌≡◌, [], Some, ap, sym, ◌∙◌, subst}
use Rattle.class_set.specs.declared.arrays.Listed.TheVariants.{Needed}
use Rattle.class_set.specs.ArrayTypes.{named, with_arrays}
use Rattle.class_set.specs.Marks.{AreListed, spelled}
use Rattle.class_set.proofs.Again.{listed_after, listed_more}
use Rattle.class_set.proofs.arrays.add_needed.Goals as goal

pub returns-in_default-clause-marked : goal.returns-in_default-clause-marked
returns-in_default-clause-marked c =
    listed_after c.add_array.result (named Needed) c.args.pool.now c.args.arrays.now c.add_array.new.arrays (named Needed [])
    c.args.marks.now.items c.requires.marked c.add_array.ensures

pub returns-clause-marked : goal.returns-clause-marked
returns-clause-marked c =
    let pool = c.args.pool.now in
    let old = c.args.arrays.now in
    let marks = c.mark.new.marks.items in
    let listed : c.add_array-2.new.arrays ≡ with_arrays old (named Needed (spelled pool (Some c.in-Some.name))) =
    c.in_ok-add_array.ensures ∙ ap (λ t. with_arrays old (named Needed t)) c.text_at.ensures in
    subst (λ xs. AreListed (named Needed) pool xs marks) (sym listed)
    (listed_more (named Needed) pool old c.args.marks.now.items marks c.in-Some.name c.requires.marked c.mark.ensures)
