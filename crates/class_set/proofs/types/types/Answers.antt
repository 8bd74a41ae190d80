use Rattle.std.proofs.Common.{◌≡◌, ◌+◌, ◌++◌, drop, length, map, ap, sym, ◌∙◌, arith}
use Rattle.plain_model.specs.Classes.{ClassFacts}
use Rattle.class_set.specs.ArrayTypes.{array_type}
use Rattle.class_set.specs.Facts.{named_classes}
use Rattle.class_set.specs.Tables.{AreNames, array_now, array_shape, linked_of}
use Rattle.class_set.proofs.Above.{names_counted, supers_counted}
use Rattle.class_set.proofs.Shaped.{all_shapes}
use Rattle.class_set.proofs.types.types.Goals as goal

pub array_types-requires-clause-classes : goal.array_types-requires-clause-classes
array_types-requires-clause-classes c =
    let files = c.args.files.now in
    omega (arith, names_counted files c.args.names.now c.requires.names, ap length c.requires.supers, supers_counted files)

pub returns-clause-arrays : goal.returns-clause-arrays
returns-clause-arrays c =
    let files = c.args.files.now in
    let names = c.args.names.now in
    let size : length c.args.supers.now ≡ length files + 28 = ap length c.requires.supers ∙ supers_counted files in
    let are : AreNames files names (length c.args.supers.now) = record { listed = c.requires.names; count = size } in
    c.in_ok-arrays.ensures files are
    ∙ ap (λ n. map (array_type files) (drop n names)) size

pub returns-clause-shapes : goal.returns-clause-shapes
returns-clause-shapes c =
    let files = c.args.files.now in
    let names = c.args.names.now in
    let size : length c.args.supers.now ≡ length files + 28 = ap length c.requires.supers ∙ supers_counted files in
    let are : AreNames files names (length c.args.supers.now) = record { listed = c.requires.names; count = size } in
    c.in_ok-add_array_shapes.ensures
    ∙ ap (λ ss. ss ++ map array_shape (map array_now c.as_slice.result.now)) c.in_ok-shapes.ensures
    ∙ ap (λ xs. map (λ (k : ClassFacts). k.shape) (named_classes files) ++ map array_shape (map array_now xs)) c.as_slice.ensures.value
    ∙ ap (λ xs. map (λ (k : ClassFacts). k.shape) (named_classes files) ++ map array_shape xs)
    (c.in_ok-arrays.ensures files are ∙ ap (λ n. map (array_type files) (drop n names)) size)
    ∙ sym (all_shapes (linked_of files names))
