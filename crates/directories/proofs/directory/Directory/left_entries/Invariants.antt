-- Copies of the entries so far, and those that come then, are all that are left.
use Rattle.std.proofs.Common.{◌≡◌, ◌++◌, map, drop}
use Rattle.directories.specs.Read.{entry_of}
use Rattle.directories.proofs.directory.Directory.left_entries.Given as goal

abbrev pub invariant-loop-i : goal.invariant-loop-i
invariant-loop-i l = map entry_of l.entries.items ++ drop l.i (map entry_of l.self-inside.planned.items)
    ≡ drop l.self-inside.appended (map entry_of l.self-inside.planned.items)
