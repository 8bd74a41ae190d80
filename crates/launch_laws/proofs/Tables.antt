-- A heap that was made with the tables of a directory.
use Rattle.std.proofs.Common.{ℕ, List, length, ap, ◌∙◌, arith, length-append}
use Rattle.std.specs.Prelude.{slice_index}
use Rattle.std.proofs.lemmas.List.{length-map}
use Rattle.graph_model.specs.declared.types.Shape.{Shape}
use Rattle.twin_heap.specs.Here.{kinds_of}
use Rattle.launch_laws.specs.Shapes.{MadeHeapsHaveTheirDirectory}

pub made_has_directory : MadeHeapsHaveTheirDirectory
made_has_directory set directory tables s are has classes =
    let many = ap (λ (cs : List ℕ). length cs) has.classes ∙ are.classed.long
    ∙ length-map tables.heap_shapes kinds_of in
    let shapes = ap (λ (ss : List Shape). length ss) are.heap_shapes_are in
    let both = length-append directory.shapes are.further in
    record {
      many = omega (arith, many, shapes, both);
      named = λ k lt. ap (λ (cs : List ℕ). slice_index cs k) has.classes ∙ are.named k lt;
      classes = classes;
    }
