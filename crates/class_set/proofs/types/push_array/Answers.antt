use Rattle.std.proofs.Common.{◌++◌, [], ◌∷◌, map, ap, ◌∙◌}
use Rattle.std.proofs.lemmas.List.{map-append}
use Rattle.class_set.specs.Tables.{array_now, array_shape}
use Rattle.class_set.proofs.types.push_array.Goals as goal

pub returns-clause-arrays : goal.returns-clause-arrays
returns-clause-arrays c = λ files are.
    let kept = c.args.arrays.now.items in
    ap (map array_now) (c.in_ok-push.ensures.items ∙ ap (λ xs. xs ++ c.in_ok-array.array ∷ []) c.in_ok-reserve.ensures.items)
    ∙ map-append array_now kept (c.in_ok-array.array ∷ [])
    ∙ ap (λ a. map array_now kept ++ a ∷ []) (c.in_ok-array.ensures files are)

pub returns-clause-shapes : goal.returns-clause-shapes
returns-clause-shapes c = λ files are.
    c.in_ok-push-2.ensures.items
    ∙ ap (λ xs. xs ++ c.in_ok-shape.shape ∷ []) c.in_ok-reserve-2.ensures.items
    ∙ ap (λ s. c.args.shapes.now.items ++ s ∷ []) (c.in_ok-shape.ensures ∙ ap array_shape (c.in_ok-array.ensures files are))
