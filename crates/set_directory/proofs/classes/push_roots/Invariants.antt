-- The roots with the names so far stand behind the entries.
use Rattle.std.proofs.Common.{◌≡◌, ◌++◌, map, take}
use Rattle.image_meaning.specs.Entries.{RootEntry}
use Rattle.directories.specs.Read.{entry_of}
use Rattle.set_directory.proofs.classes.push_roots.Given as goal

abbrev pub invariant-loop-name : goal.invariant-loop-name
invariant-loop-name l = map entry_of l.entries.items
    ≡ map entry_of l.fn.entries.items ++ map RootEntry (take l.name-index l.name-items)
