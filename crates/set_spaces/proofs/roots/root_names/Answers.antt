use Rattle.std.proofs.Common.{ℕ, List, ◌∙◌, ap}
use Rattle.text_table.specs.Sorted.{insert_text}
use Rattle.set_directory.proofs.Steps.{root_added}
use Rattle.set_spaces.proofs.roots.root_names.Goals as goal

pub loop-root-preserved : goal.loop-root-preserved
loop-root-preserved c =
    root_added c.as_slice-root-items.result.now c.root-item.result c.loop-root.root-index c.loop-root.names
    c.add.new.self
    c.loop-root-test.true c.root-item.is
    (c.in_ok-add.ensures.added ∙ ap (λ (t : List ℕ). insert_text c.loop-root.names t) c.as_slice.ensures.same)
    c.loop-root.invariant
