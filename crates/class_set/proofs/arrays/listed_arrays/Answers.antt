use Rattle.std.proofs.Common.{[], ◌∷◌, ap, ◌∙◌}
use Rattle.std.specs.Prelude.{codes}
use Rattle.std.specs.List.{flat_map}
use Rattle.class_set.specs.ArrayTypes.{listed_by_class, with_arrays}
use Rattle.class_set.proofs.Needed.{with_arrays-append}
use Rattle.class_set.proofs.arrays.listed_arrays.Goals as goal

pub returns : goal.returns
returns c =
    let rest = flat_map (listed_by_class c.args.what) c.args.files.now in
    let chars = codes "[C" ∷ [] in
    let strings = codes "[Ljava/lang/String;" ∷ [] in
    c.in_ok-add_for_classes.ensures
    ∙ ap (λ ns. with_arrays ns rest) (c.in_ok-add_array-2.ensures
    ∙ ap (λ ns. with_arrays ns strings) (c.in_ok-add_array.ensures ∙ ap (λ ns. with_arrays ns chars) c.new-arrays.ensures))
    ∙ with_arrays-append (with_arrays [] chars) strings rest
    ∙ with_arrays-append [] chars (codes "[Ljava/lang/String;" ∷ rest)
