use Rattle.std.proofs.Common.{ℕ, List, map, take, sym, ◌∙◌, ap, subst}
use Rattle.graph_model.specs.declared.types.Root.{Root}
use Rattle.text_table.specs.Sorted.{insert_text}
use Rattle.directories.specs.ClassSets.{AreInOrder}
use Rattle.set_directory.proofs.Sorted.{sorted_in_order}
use Rattle.set_directory.proofs.Steps.{root_added}
use Rattle.set_directory.proofs.names.root_names.Goals as goal

pub loop-root-preserved : goal.loop-root-preserved
loop-root-preserved c =
    root_added c.as_slice-root-items.result.now c.root-item.result c.loop-root.root-index c.loop-root.names c.add.new.self
    c.loop-root-test.true c.root-item.is
    (c.in_ok-add.ensures.added ∙ ap (λ (t : List ℕ). insert_text c.loop-root.names t) c.as_slice.ensures.same)
    c.loop-root.invariant

pub listed-requires : goal.listed-requires
listed-requires c = record {
  in_order = subst (λ (ts : List (List ℕ)). AreInOrder ts) (sym c.loop-root.invariant)
      (sorted_in_order (map (λ (r : Root). r.name) (take c.loop-root.root-index c.as_slice-root-items.result.now)));
}
