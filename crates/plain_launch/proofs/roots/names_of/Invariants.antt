use Rattle.std.proofs.Common.{◌≡◌, map, take}
use Rattle.plain_launch.proofs.Named.{name_in}
use Rattle.plain_launch.proofs.roots.names_of.Given as goal

abbrev pub invariant-loop-root : goal.invariant-loop-root
invariant-loop-root l = l.names ≡ map name_in (take l.root-index l.roots)
