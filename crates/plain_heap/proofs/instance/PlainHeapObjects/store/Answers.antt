use Rattle.std.proofs.Common.{subst, sym, List}
use Rattle.graph_model.specs.declared.types.Obj.{Obj}
use Rattle.plain_heap.specs.Sound.{IsSoundHeap}
use Rattle.plain_heap.proofs.Changing.{slot-back, slot-place, slot-placed, slot-sound, slot-stored, slot-was, objects-back}
use Rattle.plain_heap.proofs.instance.PlainHeapObjects.store.Goals as goal

pub invariant_of-self : goal.invariant_of-self
invariant_of-self c =
    let h = c.args.self.now in
    let at = slot-place h.shapes h.objects.items h.statics.items h.left c.args.object c.in-Volatile.n
    c.args.index
    c.index_mut.result.now c.in-Volatile.is c.requires.slot c.index_mut.ensures.value in
    let was = slot-was h.objects.items c.in-Volatile.n c.args.index c.index.result.now c.index_mut.result.now
    c.get-before.result at.0 c.index.ensures c.index_mut.ensures.value c.get-before.ensures in
    let sound = slot-sound h.shapes h.objects.items h.statics.items c.in-Volatile.n c.args.index
    c.index_mut.result.now c.value_of.result c.get-before.result at.0 c.index_mut.ensures.value at.1 was
    (c.value_of.ensures.below _ c.requires.known) h.sound in
    let back = objects-back h.shapes h.objects.items h.statics.items c.in-Volatile.n c.args.index
    c.index_mut.result.now c.value_of.result c.get-before.result at.0 c.index_mut.ensures.value at.1 was in
    let placed = slot-placed h.shapes h.objects.items h.statics.items c.in-Volatile.n c.args.index
    c.index_mut.result.now c.value_of.result c.get-before.result at.0 c.index_mut.ensures.value at.1 was in
    rw c.set.ensures (record {
      sound = sound;
      sound_before = subst (λ (os : List Obj). IsSoundHeap h.shapes os h.statics.items) (sym back) h.sound;
      placed = placed;
    })

pub returns-in-Volatile-clause-stored : goal.returns-in-Volatile-clause-stored
returns-in-Volatile-clause-stored c =
    let h = c.args.self.now in
    let at = slot-place h.shapes h.objects.items h.statics.items h.left c.args.object c.in-Volatile.n
    c.args.index
    c.index_mut.result.now c.in-Volatile.is c.requires.slot c.index_mut.ensures.value in
    let was = slot-was h.objects.items c.in-Volatile.n c.args.index c.index.result.now c.index_mut.result.now
    c.get-before.result at.0 c.index.ensures c.index_mut.ensures.value c.get-before.ensures in
    rw c.set.ensures (slot-stored h.shapes h.objects.items h.statics.items c.in-Volatile.n c.args.index
    c.index_mut.result.now c.value_of.result c.get-before.result at.0 c.index_mut.ensures.value at.1 was
    h.left
    c.args.object c.args.item c.in-Volatile.is (c.value_of.ensures.value _ c.requires.known))

pub returns-in-Volatile-clause-heap : goal.returns-in-Volatile-clause-heap
returns-in-Volatile-clause-heap c n e =
    let h = c.args.self.now in
    let at = slot-place h.shapes h.objects.items h.statics.items h.left c.args.object c.in-Volatile.n
    c.args.index
    c.index_mut.result.now c.in-Volatile.is c.requires.slot c.index_mut.ensures.value in
    let was = slot-was h.objects.items c.in-Volatile.n c.args.index c.index.result.now c.index_mut.result.now
    c.get-before.result at.0 c.index.ensures c.index_mut.ensures.value c.get-before.ensures in
    rw c.set.ensures (slot-back h.shapes h.objects.items h.statics.items c.in-Volatile.n c.args.index
    c.index_mut.result.now c.value_of.result c.get-before.result at.0 c.index_mut.ensures.value at.1 was
    h.left)
