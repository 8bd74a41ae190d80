use Rattle.std.proofs.Common.{◌≡◌, map, take}
use Rattle.first_heap.proofs.Named.{name_in}
use Rattle.first_heap.proofs.roots.names_of.Given as goal

abbrev pub invariant-loop-root : goal.invariant-loop-root
invariant-loop-root l = l.names ≡ map name_in (take l.root-index l.roots)
