-- The words of the entries so far.
use Rattle.std.proofs.Common.{◌≡◌, ◌-◌, ◌^◌, length, map, take, min}
use Rattle.image_meaning.specs.Directories.{spelled_all}
use Rattle.directories.specs.Read.{entry_of}
use Rattle.directories.proofs.planning.words_needed.Given as goal

abbrev pub invariant-loop-entry : goal.invariant-loop-entry
invariant-loop-entry l = l.words ≡ min (length (spelled_all (map entry_of (take l.entry-index l.entries)))) (2 ^ 64 - 1)
