use Rattle.std.proofs.Common.{◌∙◌, sym, subst}
use Rattle.graph_model.specs.Heaps.{IsSound}
use Rattle.class_set.specs.Facts.{facts_of}
use Rattle.first_heap.proofs.Starting.{heap_made}
use Rattle.first_heap.proofs.first.first_heap.Goals as goal

pub returns-clause-heap : goal.returns-clause-heap
returns-clause-heap c =
    let opening = c.args.opening.now in
    heap_made (facts_of c.args.set.now) opening _ (c.from_vec.ensures ∙ c.in_ok-shapes.ensures)
    (c.from_vec-2.ensures ∙ c.in_ok-objects.ensures opening (sym c.as_slice.ensures)) (c.from_vec-3.ensures ∙ c.in_ok-statics.ensures)
    c.in_ok-roots.ensures

pub returns-clause-sound : goal.returns-clause-sound
returns-clause-sound c =
    let set = c.args.set.now in
    let opening = c.args.opening.now in
    let consistent = c.linked_sets_are_consistent.ensures.consistent set c.shapes-linked.ensures.linked in
    let is = heap_made (facts_of set) opening _ (c.from_vec.ensures ∙ c.in_ok-shapes.ensures)
    (c.from_vec-2.ensures ∙ c.in_ok-objects.ensures opening (sym c.as_slice.ensures)) (c.from_vec-3.ensures ∙ c.in_ok-statics.ensures)
    c.in_ok-roots.ensures in
    subst IsSound (sym is) (c.the_first_heap_is_sound.ensures (facts_of set) opening consistent.complete c.requires)
