-- The objects so far were looked at.
use Rattle.std.proofs.Common.{◌≡◌, ◌≤◌, ◌-◌, List, [], length}
use Rattle.graph_model.specs.declared.types.Value.{Value}
use Rattle.graph_model.specs.Canon.{with_new}
use Rattle.image_meaning.specs.Checks.{Words}
use Rattle.image_walk.specs.Walking.{Shows, Looks}
use Rattle.image_walk.proofs.Walks.{IsWalking}
use Rattle.image_walk.proofs.walking.walk_objects.Given as goal

abbrev pub decreases-loop-line : goal.decreases-loop-line
decreases-loop-line g l = l.fn.memory.size - l.next

abbrev pub invariant-loop-line : goal.invariant-loop-line
invariant-loop-line g l = record {
  looks : Looks l.fn.memory l.memory;
  spared : l.memory.faults ≡ l.fn.memory.faults;
  objects : l.found.objects ≡ l.fn.memory.size;
  lines : length l.taken ≡ l.fn.memory.size;
  within : l.next ≤ l.fn.memory.size;
  so_far : (c : Words) (start : List Value) → Shows l.fn.memory c → l.fn.found.numbers ≡ with_new [] start
      → IsWalking l.shapes l.fn.memory.size c start l.next l.found.numbers l.taken l.nodes.items l.free;
}
