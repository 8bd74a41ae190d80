use Rattle.set_spaces.specs.Numbering.{ArePlaces}
use Rattle.set_spaces.proofs.heap.places_of.Given as goal

abbrev pub invariant-loop-place : goal.invariant-loop-place
invariant-loop-place l = ArePlaces l.classes l.place l.count l.places.items
