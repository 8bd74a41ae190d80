use Rattle.std.proofs.Common.{◌≡◌, map, take}
use Rattle.graph_model.specs.declared.types.Root.{Root}
use Rattle.text_table.specs.Sorted.{sorted_texts}
use Rattle.set_spaces.proofs.roots.root_names.Given as goal

abbrev pub invariant-loop-root : goal.invariant-loop-root
invariant-loop-root l = l.names ≡ sorted_texts (map (λ (r : Root). r.name) (take l.root-index l.root-items))
