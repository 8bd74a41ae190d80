-- The slots so far pass, and their values are read.
use Rattle.std.proofs.Common.{◌≡◌, None}
use Rattle.std.specs.Prelude.{All}
use Rattle.image_meaning.specs.Checks.{Words, first_fault}
use Rattle.image_meaning.specs.Objects.{slot_fault}
use Rattle.image_walk.specs.Walking.{Shows, Looks, NamesIn, slot_values}
use Rattle.image_walk.proofs.slots.read_values.Given as goal

abbrev pub invariant-loop-i : goal.invariant-loop-i
invariant-loop-i g l = record {
  looks : Looks l.fn.memory l.memory;
  spared : l.memory.faults ≡ l.fn.memory.faults;
  passes : (c : Words) → Shows l.fn.memory c → first_fault (slot_fault l.fn.memory.size c l.shape l.line) l.i ≡ None;
  reads : (c : Words) → Shows l.fn.memory c → l.values.items ≡ slot_values c l.shape l.line l.i;
  within : All (NamesIn l.fn.memory.size) l.values.items;
}
