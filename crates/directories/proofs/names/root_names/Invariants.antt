-- The names of the roots so far.
use Rattle.std.proofs.Common.{take}
use Rattle.directories.specs.Names.{HaveNames}
use Rattle.directories.proofs.names.root_names.Given as goal

abbrev pub invariant-loop-root : goal.invariant-loop-root
invariant-loop-root l = HaveNames l.names (take l.root-index l.roots)
