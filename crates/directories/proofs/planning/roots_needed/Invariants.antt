-- The roots so far.
use Rattle.std.proofs.Common.{◌≡◌, ◌-◌, ◌^◌, map, take, min}
use Rattle.directories.specs.Read.{entry_of}
use Rattle.directories.specs.Planning.{root_count}
use Rattle.directories.proofs.planning.roots_needed.Given as goal

abbrev pub invariant-loop-entry : goal.invariant-loop-entry
invariant-loop-entry l = l.roots ≡ min (root_count (map entry_of (take l.entry-index l.entries))) (2 ^ 64 - 1)
