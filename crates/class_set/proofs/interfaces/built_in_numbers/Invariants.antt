use Rattle.std.proofs.Common.{◌≡◌, ◌+◌, map, take}
use Rattle.class_set.proofs.interfaces.built_in_numbers.Given as goal

abbrev pub invariant-loop-place : goal.invariant-loop-place
invariant-loop-place l = l.numbers.items ≡ map (λ place. l.first + place) (take l.place-index l.place-items)
