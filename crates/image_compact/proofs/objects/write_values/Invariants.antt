-- The lines so far are written.
use Rattle.std.proofs.Common.{◌≡◌, ◌∷◌, map}
use Rattle.word_changes.specs.Changes.{ChangesTo, GoesOn, WritesAll}
use Rattle.image_compact.specs.Planning.{word_by}
use Rattle.image_compact.specs.Writing.{OfWords}
use Rattle.image_compact.proofs.objects.write_values.Given as goal

abbrev pub invariant-loop-i : goal.invariant-loop-i
invariant-loop-i g l = record {
  wrote : WritesAll (OfWords (l.head ∷ map (word_by l.lines) l.values) l.from l.i) l.fn.memory l.memory;
  changes : ChangesTo (OfWords (l.head ∷ map (word_by l.lines) l.values) l.from l.i) l.fn.memory l.memory;
  goes_on : GoesOn l.fn.memory l.memory;
  spared : l.memory.faults ≡ l.fn.memory.faults;
}
