use Rattle.std.proofs.Common.{sym, subst}
use Rattle.class_set.specs.ArrayTypes.{named}
use Rattle.class_set.specs.Marks.{AreListed, array_of_class, spelled}
use Rattle.class_set.proofs.Again.{listed_still}
use Rattle.class_set.proofs.arrays.add_for_new_array.Goals as goal

pub add_named-requires : goal.add_named-requires
add_named-requires c =
    let pool = c.args.pool.now in
    let what = c.args.what in
    let marks = c.args.marks.now.classes.items in
    record {
      marked = (
        c.in_ok-add_made.ensures.marked,
        subst (λ xs. AreListed (named what) pool xs marks) (sym c.in_ok-add_made.ensures.arrays)
            (listed_still (named what) pool c.args.arrays.now (array_of_class (spelled pool c.args.class)) marks c.requires.marked.1),
      );
    }
