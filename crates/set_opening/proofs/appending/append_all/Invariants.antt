-- The entries so far are appended, and there is room for those that are left.
use Rattle.std.proofs.Common.{◌≡◌, ◌≤◌, ◌++◌, List, length}
use Rattle.image_layout.specs.Places.{min_lines, directory_words}
use Rattle.image_meaning.specs.Directories.{spelled_all}
use Rattle.image_meaning.specs.Entries.{DirectoryEntry}
use Rattle.word_changes.specs.Changes.{GoesOn}
use Rattle.directories.specs.Growing.{HasAppended, HasDurable}
use Rattle.directories.specs.Kept.{SameEntries}
use Rattle.set_opening.proofs.Steps.{HasRoom, work}
use Rattle.set_opening.proofs.appending.append_all.Given as goal

abbrev pub invariant-entries : goal.invariant-entries
invariant-entries g l = record {
  appended : (had : List DirectoryEntry) → HasDurable had l.fn.directory l.fn.memory
      → length (spelled_all (had ++ l.fn.directory.left)) ≤ directory_words
      → HasAppended had l.fn.directory l.directory l.fn.memory l.memory;
  entries : SameEntries l.fn.directory l.directory;
  goes_on : GoesOn l.fn.memory l.memory;
  enough : min_lines ≤ l.memory.size;
  room : HasRoom l.directory;
  spared : l.memory.faults ≡ l.fn.memory.faults;
}

abbrev pub decreases-entries : goal.decreases-entries
decreases-entries g l = work l.directory
