-- The words of the entries so far are there.
use Rattle.std.proofs.Common.{◌≡◌, map, take}
use Rattle.image_meaning.specs.Directories.{spelled_all}
use Rattle.directories.specs.Read.{entry_of}
use Rattle.directories.proofs.planning.spell_all.Given as goal

abbrev pub invariant-loop-entry : goal.invariant-loop-entry
invariant-loop-entry l = l.words.items ≡ spelled_all (map entry_of (take l.entry-index l.entries))
