-- What is lacking of the entries so far is there.
use Rattle.std.proofs.Common.{◌≡◌, map, take}
use Rattle.directories.specs.Read.{entry_of}
use Rattle.directories.specs.Planning.{lacking, directory_of_kept}
use Rattle.directories.proofs.directory.Directory.missing.Given as goal

abbrev pub invariant-loop-entry : goal.invariant-loop-entry
invariant-loop-entry l =
    map entry_of l.missing.items ≡ lacking (directory_of_kept l.self) (map entry_of (take l.entry-index l.entries))
