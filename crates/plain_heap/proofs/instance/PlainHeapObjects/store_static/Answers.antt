use Rattle.plain_heap.proofs.Changing.{static-back, static-stored}
use Rattle.plain_heap.proofs.instance.PlainHeapObjects.store_static.Goals as goal

pub returns-clause-stored : goal.returns-clause-stored
returns-clause-stored c =
    let h = c.args.self.now in
    static-stored h.shapes h.objects.items h.statics.items h.left c.args.field c.args.item c.value_of.result
    (c.value_of.ensures.value _ c.requires.known)

pub returns-clause-heap : goal.returns-clause-heap
returns-clause-heap c =
    let h = c.args.self.now in
    static-back h.shapes h.objects.items h.statics.items h.left c.args.field c.value_of.result
    c.index-before.result.now c.index-before.ensures
