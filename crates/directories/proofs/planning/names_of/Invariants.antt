-- The shapes and the names of the roots so far.
use Rattle.std.proofs.Common.{◌≡◌, map, take}
use Rattle.image_meaning.specs.Directories.{no_entries, with_all}
use Rattle.directories.specs.Read.{entry_of, the_directory}
use Rattle.directories.proofs.planning.names_of.Given as goal

abbrev pub invariant-loop-entry : goal.invariant-loop-entry
invariant-loop-entry l = the_directory l.shapes.items l.roots.items ≡ with_all no_entries (map entry_of (take l.entry-index l.entries))
