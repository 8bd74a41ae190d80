use Rattle.std.proofs.Common.{[], ap}
use Rattle.run_types.specs.declared.known.Known.{Known}
use Rattle.class_set.specs.Facts.{facts_of}
use Rattle.plain_model.specs.Facts.{arguments_class, stream_class}
use Rattle.first_heap.proofs.Starting.{object_made, objects_listed}
use Rattle.first_heap.proofs.objects.first_objects.Goals as goal

pub returns : goal.returns
returns c opening nodes =
    let set = facts_of c.args.set.now in
    objects_listed set opening c.args.nodes.now c.args.literals.now c.in_ok-objects.objects.items
    c.push.new.self.items c.push-2.new.self.items c.add_texts.new.objects.items c.new-2.result c.new-4.result
    c.known.result.string nodes c.requires.literals (c.in_ok-objects.ensures opening)
    (object_made (stream_class set) c.stream_class.result [] c.new.result.items c.new-2.result c.new-2.ensures
    c.stream_class.ensures c.new.ensures.items)
    (object_made (arguments_class set) c.array_named-array.result [] c.new-3.result.items c.new-4.result
    c.new-4.ensures c.array_named-array.ensures c.new-3.ensures.items)
    (ap (λ (k : Known). k.string) c.known.ensures)
    c.in_ok-push.ensures.items c.in_ok-push-2.ensures.items c.in_ok-add_texts.ensures
