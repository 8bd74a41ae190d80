use Rattle.std.proofs.Common.{◌≡◌, ◌<◌, length, slice_index_or, arith, subst, ap, ◌∙◌}
use Rattle.std.specs.Prelude.{All}
use Rattle.std.proofs.lemmas.List.{get_or-map, length-map}
use Rattle.graph_model.specs.declared.types.Value.TheVariants.{Null}
use Rattle.graph_model.specs.declared.types.Root.{Root}
use Rattle.graph_model.specs.declared.types.Heap.{Heap}
use Rattle.graph_model.specs.Heaps.{root_values, IsSound}
use Rattle.graph_model.specs.Canon.{canon_of, graph_by, found_from}
use Rattle.graph_model.specs.Found.{IsNumbered, IsNumberedRoot}
use Rattle.graph_model.proofs.FoundAfter.{root_values-below, start-numbered, values_of-numbered}
use Rattle.graph_model.proofs.canonical.canon.Goals as goal

roots_numbered : (heap : Heap) → IsSound heap → All (IsNumberedRoot heap (found_from heap (root_values heap))) heap.roots
roots_numbered heap sound =
    let value : Root → _ = λ r. slice_index_or heap.statics r.at Null in
    let found = found_from heap (root_values heap) in
    let all = start-numbered heap (root_values heap) sound (root_values-below heap sound) in
    λ k d l.
    let there : k < length (root_values heap) = omega (arith, length-map heap.roots value, l) in
    subst (λ v. IsNumbered found v) (get_or-map value heap.roots k d Null l) (all k Null there)

pub of-requires-clause-start : goal.of-requires-clause-start
of-requires-clause-start c = rw (c.deref.ensures.value, c.in_ok-starts.ensures) (root_values-below c.args.heap.now c.requires.sound)

pub named_roots-requires-clause-numbered : goal.named_roots-requires-clause-numbered
named_roots-requires-clause-numbered c =
    rw (c.in_ok-numbering.ensures.numbers, c.deref.ensures.value, c.in_ok-starts.ensures) (roots_numbered c.args.heap.now c.requires.sound)

pub nodes-requires-clause-nodes : goal.nodes-requires-clause-nodes
nodes-requires-clause-nodes c =
    let heap = c.args.heap.now in
    rw (c.in_ok-numbering.ensures.numbers, c.deref.ensures.value, c.in_ok-starts.ensures)
    (values_of-numbered heap (root_values heap) c.requires.sound (root_values-below heap c.requires.sound))

pub returns : goal.returns
unfolding canon_of
returns c =
    let heap = c.args.heap.now in
    let numbers : c.in_ok-numbering.numbering.numbers ≡ found_from heap (root_values heap) =
    c.in_ok-numbering.ensures.numbers ∙ ap (found_from heap) (c.deref.ensures.value ∙ c.in_ok-starts.ensures) in
    record { canon = rw (c.in_ok-named_roots.ensures, c.in_ok-nodes.ensures) (ap (graph_by heap) numbers) }
