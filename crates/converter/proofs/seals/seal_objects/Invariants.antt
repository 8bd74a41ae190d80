use Rattle.std.proofs.Common.{◌≡◌, List}
use Rattle.twin_forms.specs.Table.{Entry, View}
use Rattle.twin_forms.specs.Sights.{sight}
use Rattle.converter.specs.Sealing.{AreSealedTo}
use Rattle.converter.proofs.seals.seal_objects.Given as goal

abbrev pub invariant-loop-i : goal.invariant-loop-i
invariant-loop-i g l = record {
  sealed : (v0 : View) (es0 es : List Entry) → AreSealedTo l.queue v0 es0 l.set l.u 0 (sight l.fn.heap.space l.fn.heap.memory l.fn.heap.marks) es
      → (es' : List Entry) × AreSealedTo l.queue v0 es0 l.set l.u l.i (sight l.heap.space l.heap.memory l.heap.marks) es';
  memory : l.heap.memory ≡ l.fn.heap.memory;
  kinds : l.heap.marks.kinds ≡ l.fn.heap.marks.kinds;
  left : l.heap.space.left ≡ l.fn.heap.space.left;
}
