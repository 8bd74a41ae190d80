use Rattle.std.proofs.Common.{◌≡◌, drop}
use Rattle.const_pool.specs.Reading.{wrong_from}
use Rattle.const_pool.proofs.reading.first_wrong_reference.Given as goal

abbrev pub invariant-loop-index : goal.invariant-loop-index
invariant-loop-index l = wrong_from l.slots l.index (drop l.index l.slots) ≡ wrong_from l.slots 0 l.slots
