use Rattle.std.proofs.Common.{ℕ, List, ap, ◌∙◌}
use Rattle.text_table.specs.Sorted.{insert_text}
use Rattle.directories.proofs.SortedNames.{shapes_taken}
use Rattle.directories.proofs.names.shape_names.Goals as goal

pub loop-shape-preserved : goal.loop-shape-preserved
loop-shape-preserved c =
    shapes_taken c.args.shapes.now c.shape-item.result c.loop-shape.shape-index c.loop-shape.names c.add.new.self
    c.loop-shape-test.true c.shape-item.is (c.in_ok-add.ensures.added ∙ ap (λ (t : List ℕ). insert_text c.loop-shape.names t) c.as_slice.ensures.same)
    c.loop-shape.invariant
