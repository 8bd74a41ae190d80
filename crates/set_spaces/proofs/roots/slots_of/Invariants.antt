use Rattle.std.proofs.Common.{◌≡◌, take}
use Rattle.set_spaces.proofs.roots.slots_of.Given as goal

abbrev pub invariant-loop-name : goal.invariant-loop-name
invariant-loop-name l = l.slots ≡ take l.name-index l.names
