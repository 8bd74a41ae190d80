-- The words of the roots so far are there.
use Rattle.std.proofs.Common.{List, ◌++◌, map, take}
use Rattle.image_meaning.specs.Entries.{DirectoryEntry}
use Rattle.dense_image.specs.Graphs.{root_entry}
use Rattle.image_compact.specs.Planning.{Spell}
use Rattle.image_compact.proofs.shapes.add_roots.Given as goal

abbrev pub invariant-loop-root : goal.invariant-loop-root
invariant-loop-root l =
    (entries : List DirectoryEntry) → Spell entries l.fn.words → Spell (entries ++ map root_entry (take l.root-index l.roots)) l.words
