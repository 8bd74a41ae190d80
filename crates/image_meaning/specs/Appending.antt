-- A directory with one more entry: what the image then stands for. Of this project's own format.
use Rattle.std.specs.Prelude.{◌≡◌, ℕ, ◌+◌, ◌<◌, ◌≤◌, Bool, false, List, [], ◌∷◌, ◌++◌, length, slice_index_or}
use Rattle.graph_model.specs.declared.types.Value.TheVariants.{Null}
use Rattle.graph_model.specs.declared.types.Shape.{Shape}
use Rattle.graph_model.specs.declared.types.Heap.{Heap}
use Rattle.graph_model.specs.declared.types.Graph.{Graph}
use Rattle.graph_model.specs.Canon.{canon_of}
use Rattle.image_layout.specs.Places.{root_slots, first_object_line, directory_words, directory_line, directory_word}
use Rattle.image_meaning.specs.Checks.{Words}
use Rattle.image_meaning.specs.Entries.{DirectoryEntry, ShapeEntry, RootEntry, spelled, IsEntry}
use Rattle.image_meaning.specs.Directories.{Directory, is_refused, with_entry, with_all}
use Rattle.image_meaning.specs.Logs.{SameLogs}
use Rattle.image_meaning.specs.Meaning.{root_word, StandsFor}
use Rattle.image_meaning.specs.Corresponds.{Corresponds}
use Rattle.image_meaning.specs.Arrays.{null_root}
use Rattle.image_meaning.specs.Laws.{Opens, told_by}

-- d has the directory of c in use, then an entry, and the number of its words in use is raised by those of the entry
pub record AddsEntry (c d : Words) (entry : DirectoryEntry) : Type 0 where
  pub super : (word : ℕ) → word < 3 → d 0 word ≡ c 0 word
  pub used : d 0 3 ≡ c 0 3 + length (spelled entry)
  pub room : d 0 3 ≤ directory_words
  pub before : (i : ℕ) → i < c 0 3 → d (directory_line i) (directory_word i) ≡ c (directory_line i) (directory_word i)
  pub added : (i : ℕ) → i < length (spelled entry)
      → d (directory_line (c 0 3 + i)) (directory_word (c 0 3 + i)) ≡ slice_index_or (spelled entry) i 0

-- The image then opens with the entry too, where it may stand there.
abbrev pub AddedEntryOpens : Type 0
AddedEntryOpens = (size : ℕ) (c d : Words) (directory : Directory) (entry : DirectoryEntry)
    → Opens size c directory → IsEntry entry → is_refused directory entry ≡ false → AddsEntry c d entry → SameLogs c d
    → Opens size d (with_entry directory entry)

-- Words correspond to the same heap where the directory has one shape more.
abbrev pub AddedShapeCorresponds : Type 0
AddedShapeCorresponds = (lies : ℕ → ℕ → Bool) (size : ℕ) (words : Words) (directory : Directory) (heap : Heap) (shape : Shape)
    → Corresponds (told_by lies) directory size words heap
    → Corresponds (told_by lies) (with_entry directory (ShapeEntry shape)) size words heap

-- the heap with one more root, whose static is this
abbrev pub with_root : Heap → List ℕ → ℕ → Heap
with_root heap name static = record heap { roots = heap.roots ++ record { name = name; at = static } ∷ [] }

-- Where the directory has one root more, words correspond to the heap with that root and null in its static.
abbrev pub AddedRootCorresponds : Type 0
AddedRootCorresponds = (lies : ℕ → ℕ → Bool) (size : ℕ) (words : Words) (directory : Directory) (heap : Heap)
    (name : List ℕ) (static : ℕ)
    → Corresponds (told_by lies) directory size words heap → is_refused directory (RootEntry name) ≡ false
    → slice_index_or heap.statics static Null ≡ Null
    → Corresponds (told_by lies) (with_entry directory (RootEntry name)) size words (with_root heap name static)

-- the graph with one more root, which is null
abbrev pub with_null_root : Graph → List ℕ → Graph
with_null_root graph name = record graph { roots = graph.roots ++ null_root name ∷ [] }

-- The graph of such a heap.
abbrev pub NullRootIsAdded : Type 0
NullRootIsAdded = (heap : Heap) (name : List ℕ) (static : ℕ) → slice_index_or heap.statics static Null ≡ Null
    → canon_of (with_root heap name static) ≡ with_null_root (canon_of heap) name

-- d has the words of c in the root slots and in the lines of objects
pub record SameBehind (c d : Words) : Type 0 where
  pub roots : (r : ℕ) → r < root_slots → root_word d r ≡ root_word c r
  pub objects : (line word : ℕ) → first_object_line ≤ line → d line word ≡ c line word

-- what an image stands for with this entry too
abbrev pub with_entry_too : Graph → DirectoryEntry → Graph
with_entry_too graph (ShapeEntry shape) = graph
with_entry_too graph (RootEntry name) = with_null_root graph name

-- An added shape leaves the graph as it was, and an added root comes to it as null.
abbrev pub AddedEntryStands : Type 0
AddedEntryStands = (size : ℕ) (c d : Words) (directory : Directory) (entry : DirectoryEntry) (graph : Graph)
    → Opens size c directory → StandsFor size c graph
    → IsEntry entry → is_refused directory entry ≡ false → AddsEntry c d entry → SameLogs c d → SameBehind c d
    → StandsFor size d (with_entry_too graph entry)

-- ---- any number of entries

-- d is c after these entries were added one after another
pub data AddsEach : Words → Directory → List DirectoryEntry → Words → Type 0 where
  Nothing : (c : Words) (directory : Directory) → AddsEach c directory [] c
  Further : (c d e : Words) (directory : Directory) (entry : DirectoryEntry) (entries : List DirectoryEntry)
      → IsEntry entry → is_refused directory entry ≡ false → AddsEntry c d entry → SameLogs c d → SameBehind c d
      → AddsEach d (with_entry directory entry) entries e → AddsEach c directory (entry ∷ entries) e

-- what an image stands for with these entries too: each added root is null
abbrev pub with_all_too : Graph → List DirectoryEntry → Graph
with_all_too graph [] = graph
with_all_too graph (entry ∷ entries) = with_all_too (with_entry_too graph entry) entries

pub record HasEntriesToo (size : ℕ) (d : Words) (directory : Directory) (graph : Graph) (entries : List DirectoryEntry) : Type 0 where
  pub opens : Opens size d (with_all directory entries)
  pub stands : StandsFor size d (with_all_too graph entries)

-- Shapes leave the graph as it was, and roots come to it as null, however many of them were added when a stop comes.
abbrev pub AddedEntriesStand : Type 0
AddedEntriesStand = (size : ℕ) (c d : Words) (directory : Directory) (entries : List DirectoryEntry) (graph : Graph)
    → Opens size c directory → StandsFor size c graph → AddsEach c directory entries d
    → HasEntriesToo size d directory graph entries
