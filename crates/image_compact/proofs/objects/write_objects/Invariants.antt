-- The objects so far are written.
use Rattle.std.proofs.Common.{◌≡◌}
use Rattle.word_changes.specs.Changes.{ChangesTo, GoesOn, WritesAll}
use Rattle.image_compact.specs.Writing.{OfObjects}
use Rattle.image_compact.proofs.objects.write_objects.Given as goal

abbrev pub invariant-loop-n : goal.invariant-loop-n
invariant-loop-n g l = record {
  wrote : WritesAll (OfObjects l.graph l.n) l.fn.memory l.memory;
  changes : ChangesTo (OfObjects l.graph l.n) l.fn.memory l.memory;
  goes_on : GoesOn l.fn.memory l.memory;
  spared : l.memory.faults ≡ l.fn.memory.faults;
}
