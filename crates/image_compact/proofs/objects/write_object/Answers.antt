use Rattle.std.proofs.Common.{◌≡◌, ◌∙◌, ◌≤◌, ◌<◌, ◌+◌, ℕ, List, length, ap, sym, subst, arith, slice_index_or}
use Rattle.std.proofs.lemmas.Result.{on_ok_weaker}
use Rattle.graph_model.specs.declared.types.Node.{Node}
use Rattle.image_meaning.specs.Opening.{graph_node}
use Rattle.image_meaning.proofs.Ranges.{get_or_any}
use Rattle.image_compact.specs.Planning.{ArePlaces}
use Rattle.image_compact.proofs.ObjectWords.{same_values, object_within, object_wrote, object_changes}
use Rattle.image_compact.proofs.objects.write_object.Goals as goal

pub overflow_cast-values : goal.overflow_cast-values
overflow_cast-values g c =
    let graph = c.args.graph.now in
    let h = c.requires.node in
    let values = c.values-values.result.now in
    let same = same_values graph c.args.n h c.nodes-nodes.result.now values c.index-nodes-n.result c.nodes-nodes.ensures.same (c.values-values.ensures.same ∙ ap (λ (d : Node). d.values) c.index-nodes-n.is) in
    omega (arith, object_within graph c.args.n h values same, c.requires.plan.room.objects, c.requires.most)

pub write_values-requires-clause-within : goal.write_values-requires-clause-within
write_values-requires-clause-within g c =
    let graph = c.args.graph.now in
    let h = c.requires.node in
    let values = c.values-values.result.now in
    let same = same_values graph c.args.n h c.nodes-nodes.result.now values c.index-nodes-n.result c.nodes-nodes.ensures.same (c.values-values.ensures.same ∙ ap (λ (d : Node). d.values) c.index-nodes-n.is) in
    let lines = c.args.plan.now.lines.items in
    let there : c.args.n < length lines = omega (arith, h, c.requires.plan.lines.count) in
    let first : c.index-2.result.now ≡ slice_index_or lines c.args.n 0 =
    c.index-2.ensures ∙ sym (get_or_any lines c.args.n 0 c.index-2.result.now there) in
    omega (arith, first ∙ c.requires.plan.lines.each c.args.n h, object_within graph c.args.n h values same, c.requires.plan.room.objects)

pub returns-clause-wrote : goal.returns-clause-wrote
returns-clause-wrote g c =
    let graph = c.args.graph.now in
    let h = c.requires.node in
    let values = c.values-values.result.now in
    let same = same_values graph c.args.n h c.nodes-nodes.result.now values c.index-nodes-n.result c.nodes-nodes.ensures.same (c.values-values.ensures.same ∙ ap (λ (d : Node). d.values) c.index-nodes-n.is) in
    let numbers = c.args.plan.now.numbers.items in
    let kept = c.args.plan.now.lines.items in
    let lines = c.as_slice.result.now in
    let places : ArePlaces graph.nodes lines = subst (λ (ls : List ℕ). ArePlaces graph.nodes ls) (sym c.as_slice.ensures.value) c.requires.plan.lines in
    let number : c.index.result.now ≡ slice_index_or numbers c.args.n 0 =
    c.index.ensures ∙ sym (get_or_any numbers c.args.n 0 c.index.result.now (omega (arith, h, c.requires.plan.numbers.count))) in
    let first : c.index-2.result.now ≡ slice_index_or lines c.args.n 0 =
    c.index-2.ensures ∙ sym (get_or_any kept c.args.n 0 c.index-2.result.now (omega (arith, h, c.requires.plan.lines.count)))
    ∙ ap (λ (ls : List ℕ). slice_index_or ls c.args.n 0) (sym c.as_slice.ensures.value) in
    on_ok_weaker c.write_values.result
    (λ wrote. object_wrote graph c.args.n h values same c.requires.graph numbers lines c.requires.plan.numbers places
    c.head_word-head.result c.index.result.now c.index-2.result.now c.head_word-head.ensures.head number first
    c.args.memory.now c.write_values.new.memory wrote)
    c.write_values.ensures.wrote

pub returns-clause-changes : goal.returns-clause-changes
returns-clause-changes g c =
    let graph = c.args.graph.now in
    let h = c.requires.node in
    let values = c.values-values.result.now in
    let same = same_values graph c.args.n h c.nodes-nodes.result.now values c.index-nodes-n.result c.nodes-nodes.ensures.same (c.values-values.ensures.same ∙ ap (λ (d : Node). d.values) c.index-nodes-n.is) in
    let numbers = c.args.plan.now.numbers.items in
    let kept = c.args.plan.now.lines.items in
    let lines = c.as_slice.result.now in
    let places : ArePlaces graph.nodes lines = subst (λ (ls : List ℕ). ArePlaces graph.nodes ls) (sym c.as_slice.ensures.value) c.requires.plan.lines in
    let number : c.index.result.now ≡ slice_index_or numbers c.args.n 0 =
    c.index.ensures ∙ sym (get_or_any numbers c.args.n 0 c.index.result.now (omega (arith, h, c.requires.plan.numbers.count))) in
    let first : c.index-2.result.now ≡ slice_index_or lines c.args.n 0 =
    c.index-2.ensures ∙ sym (get_or_any kept c.args.n 0 c.index-2.result.now (omega (arith, h, c.requires.plan.lines.count)))
    ∙ ap (λ (ls : List ℕ). slice_index_or ls c.args.n 0) (sym c.as_slice.ensures.value) in
    object_changes graph c.args.n h values same c.requires.graph numbers lines c.requires.plan.numbers places
    c.head_word-head.result c.index.result.now c.index-2.result.now c.head_word-head.ensures.head number first
    c.args.memory.now c.write_values.new.memory c.write_values.ensures.changes
