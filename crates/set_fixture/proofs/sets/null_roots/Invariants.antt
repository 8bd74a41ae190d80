use Rattle.std.proofs.Common.{◌≡◌, map, take}
use Rattle.set_fixture.specs.Openings.{null_root}
use Rattle.set_fixture.proofs.sets.null_roots.Given as goal

abbrev pub invariant-loop-root : goal.invariant-loop-root
invariant-loop-root l = l.values.items ≡ map null_root (take l.root-index l.roots)
