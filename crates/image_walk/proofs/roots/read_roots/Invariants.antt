-- The root slots so far pass, and the values of those in use are read.
use Rattle.std.proofs.Common.{◌≡◌, None, min}
use Rattle.std.specs.Prelude.{All}
use Rattle.image_meaning.specs.Checks.{Words, first_fault}
use Rattle.image_meaning.specs.Meaning.{root_fault, root_values_of}
use Rattle.image_walk.specs.Walking.{Shows, Looks, NamesIn}
use Rattle.image_walk.proofs.roots.read_roots.Given as goal

abbrev pub invariant-loop-root : goal.invariant-loop-root
invariant-loop-root g l = record {
  looks : Looks l.fn.memory l.memory;
  spared : l.memory.faults ≡ l.fn.memory.faults;
  passes : (c : Words) → Shows l.fn.memory c → first_fault (root_fault l.fn.memory.size c l.roots) l.root ≡ None;
  reads : (c : Words) → Shows l.fn.memory c → l.values.items ≡ root_values_of c (min l.root l.roots);
  within : All (NamesIn l.fn.memory.size) l.values.items;
}
