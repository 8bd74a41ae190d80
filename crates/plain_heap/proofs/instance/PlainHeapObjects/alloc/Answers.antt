use Rattle.std.proofs.Common.{◌∙◌, refl, subst, sym, IsTrue, List, arith}
use Rattle.graph_model.specs.declared.types.Obj.{Obj}
use Rattle.graph_model.specs.declared.types.Shape.{Shape}
use Rattle.run_history.specs.Worlds.{may_have}
use Rattle.plain_heap.specs.Sound.{IsSoundHeap}
use Rattle.plain_heap.proofs.Changing.{made-back, made-pushed, made-sound, shape-there}
use Rattle.plain_heap.proofs.instance.PlainHeapObjects.alloc.Goals as goal

pub invariant_of-self : goal.invariant_of-self
invariant_of-self c =
    let h = c.args.self.now in
    let is = c.push_reserved.ensures.items ∙ made-pushed h.objects.items c.new.result c.args.shape
    c.put_fresh.new.values.items c.new.ensures in
    let shape = shape-there h.shapes c.as_slice.result.now c.args.shape c.index-as_slice-shape.result
    c.requires.shape c.as_slice.ensures c.index-as_slice-shape.is in
    let room = c.requires.may (omega (arith, c.if-left-need.false, c.from-need.ensures)) in
    let sound = made-sound h.shapes h.objects.items c.push_reserved.new.self.items h.statics.items
    c.args.shape
    c.args.slots c.index-as_slice-shape.result c.put_fresh.new.values.items h.sound is c.put_fresh.ensures
    (subst (λ (s : Shape). IsTrue (may_have s c.args.slots)) (sym shape) c.requires.slots) c.requires.shape
    c.requires.few (omega (arith, room.1)) in
    record {
      sound = sound;
      sound_before = subst (λ (os : List Obj). IsSoundHeap h.shapes os h.statics.items)
          (sym (made-back h.objects.items c.push_reserved.new.self.items _ is)) h.sound;
      placed = refl;
    }
