use Rattle.std.proofs.Common.{◌∙◌, List, [], map, ap, sym, subst}
use Rattle.std.proofs.lemmas.List.{take_all}
use Rattle.graph_model.specs.declared.types.Node.{Node}
use Rattle.class_set.specs.Facts.{facts_of}
use Rattle.plain_model.specs.Facts.{classes_of}
use Rattle.plain_model.specs.First.{class_named, node_object}
use Rattle.first_heap.specs.Objects.{IsOfClass}
use Rattle.first_heap.proofs.Lists.{made_more}
use Rattle.first_heap.proofs.Starting.{object_made}
use Rattle.first_heap.proofs.objects.node_objects.Goals as goal

pub class_of-requires : goal.class_of-requires
class_of-requires c = record {
  class = subst (IsOfClass (facts_of c.args.set.now)) (sym c.node-item.is)
      (c.requires.classes c.loop-node.node-index c.node-item.result c.loop-node-test.true);
}

pub loop-node-preserved : goal.loop-node-preserved
loop-node-preserved c opening =
    let set = facts_of c.args.set.now in
    let node = c.node-item.result in
    made_more (node_object set opening) c.args.nodes.now node c.loop-node.node-index c.new.result []
    c.loop-node.objects.items c.push.new.self.items c.loop-node-test.true c.node-item.is
    (object_made (class_named (classes_of set) node.shape.name) c.class_of.result node.values
    c.in_ok-values.values.items c.new.result c.new.ensures c.class_of.ensures
    (c.in_ok-values.ensures.items ∙ c.as_slice.ensures))
    c.in_ok-push.ensures.items (c.loop-node.invariant opening)

pub returns : goal.returns
returns c opening =
    c.loop-node.invariant opening
    ∙ ap (λ (ns : List Node). map (node_object (facts_of c.args.set.now) opening) ns)
    (take_all c.loop-node.node-index c.args.nodes.now c.loop-node-test.false)
