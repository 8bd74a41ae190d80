-- The shapes of the classes of files and of the built-in ones.
use Rattle.std.proofs.Common.{◌≡◌, ℕ, ◌<◌, slice_index_or, arith, List, [], ◌∷◌, ◌++◌, map, length, refl, ap, ◌∙◌}
use Rattle.std.proofs.lemmas.List.{get_or-map, get_or_append_left, length-append, length-map, map-append}
use Rattle.class_file.specs.declared.class.ClassFile.{ClassFile}
use Rattle.graph_model.specs.declared.types.Shape.{Shape}
use Rattle.plain_model.specs.Classes.{ArrayType, ClassFacts}
use Rattle.plain_model.specs.BuiltIn.{array_class, built_in_classes}
use Rattle.plain_model.specs.Facts.{shapes_of}
use Rattle.class_set.specs.Linked.{Linked}
use Rattle.class_set.specs.ArrayTypes.{array_type}
use Rattle.class_set.specs.Facts.{class_facts, facts_of, named_classes}
use Rattle.class_set.specs.Tables.{array_shape}
use Rattle.class_set.proofs.Supertypes.{classes_listed}

abbrev shape : ClassFacts → Shape
shape c = c.shape

file_shapes : (all files : List ClassFile) → map shape (map (class_facts all) files) ≡ map (λ (c : ClassFile). (class_facts all c).shape) files
file_shapes all [] = refl
file_shapes all (c ∷ cs) = ap (λ ss. (class_facts all c).shape ∷ ss) (file_shapes all cs)

same_shapes : (first : ℕ) → map shape (built_in_classes first) ≡ map shape (built_in_classes 0)
same_shapes first = refl

array_shapes : (first : ℕ) (types : List ArrayType) → map shape (map (array_class first) types) ≡ map array_shape types
array_shapes first [] = refl
array_shapes first (a ∷ more) = ap (λ ss. array_shape a ∷ ss) (array_shapes first more)

pub all_shapes : (set : Linked) → shapes_of (facts_of set)
    ≡ map (λ (c : ClassFacts). c.shape) (named_classes set.files) ++ map array_shape (map (array_type set.files) set.arrays)
all_shapes set =
    let types = map (array_type set.files) set.arrays in
    ap (map shape) (classes_listed set)
    ∙ map-append shape (named_classes set.files) (map (array_class (length set.files)) types)
    ∙ ap (λ ss. map shape (named_classes set.files) ++ ss) (array_shapes (length set.files) types)

pub shapes_named : (files : List ClassFile) → map (λ (c : ClassFacts). c.shape) (named_classes files)
    ≡ map (λ (c : ClassFile). (class_facts files c).shape) files ++ map (λ (c : ClassFacts). c.shape) (built_in_classes 0)
shapes_named files =
    map-append shape (map (class_facts files) files) (built_in_classes (length files))
    ∙ ap (λ ss. ss ++ map shape (built_in_classes (length files))) (file_shapes files files)
    ∙ ap (λ ss. map (λ (c : ClassFile). (class_facts files c).shape) files ++ ss) (same_shapes (length files))

pub shape_of_file : (set : Linked) (n : ℕ) (d : Shape) (f : ClassFile) → n < length set.files
    → slice_index_or (shapes_of (facts_of set)) n d ≡ (class_facts set.files (slice_index_or set.files n f)).shape
shape_of_file set n d f l =
    let files = set.files in
    let own = map (λ (c : ClassFile). (class_facts files c).shape) files in
    let built_in = map (λ (c : ClassFacts). c.shape) (built_in_classes 0) in
    let types = map array_shape (map (array_type files) set.arrays) in
    let size = length-map files (λ (c : ClassFile). (class_facts files c).shape) in
    ap (λ ss. slice_index_or ss n d) (all_shapes set ∙ ap (λ ss. ss ++ types) (shapes_named files))
    ∙ get_or_append_left (own ++ built_in) types d n (omega (arith, l, size, length-append own built_in))
    ∙ get_or_append_left own built_in d n (omega (arith, l, size))
    ∙ get_or-map (λ (c : ClassFile). (class_facts files c).shape) files n f d l
