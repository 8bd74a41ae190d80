-- What an image stands for while entries are appended to its directory: for the same graph, new null roots aside. Of this project's own format.
use Rattle.std.specs.Prelude.{◌≡◌, ◌≢◌, ◌⊎◌, ◌<◌, ◌≤◌, ◌+◌, ℕ, List, [], ◌++◌, length, take}
use Rattle.graph_model.specs.declared.types.Graph.{Graph}
use Rattle.line_image.specs.Trace.{Outcome}
use Rattle.line_memory.specs.Memory.{Memory, shown, IsDurable, CanLeave, CanLeaveAll}
use Rattle.image_layout.specs.Places.{min_lines, max_lines, directory_words, directory_line, directory_word}
use Rattle.image_meaning.specs.Checks.{Words}
use Rattle.image_meaning.specs.Entries.{DirectoryEntry}
use Rattle.image_meaning.specs.Directories.{no_entries, with_all, spelled_all, Spells}
use Rattle.image_meaning.specs.Meaning.{empty_graph, StandsFor, IsWellFormed}
use Rattle.image_meaning.specs.Laws.{Opens}
use Rattle.image_meaning.specs.Appending.{with_all_too}
use Rattle.word_changes.specs.Changes.{AllKnown, IsWrittenAs, ChangesTo, StopsLeave}
use Rattle.directories.specs.declared.stepping.Progress.TheVariants as stage
use Rattle.directories.specs.Appending.{OfEntry}
use Rattle.directories.specs.Formatting.{IsFormatted, IsBlankOrFormatted}
use Rattle.directories.specs.Kept.{Kept, next_words, Continues, Stands, StandsOn, HasSome}
use Rattle.directories.specs.Planning.{IsPlanned}

-- ---- a blank image is formatted

-- Wherever the formatting stops, the image stands for the graph without roots and nodes. Once it is formatted, it opens with an empty directory
-- and is well formed.
pub record FormattedImagesStand : Type 0 where
  pub stands : (size : ℕ) (words : Words) → min_lines ≤ size → size ≤ max_lines → IsBlankOrFormatted size words
      → StandsFor size words empty_graph
  pub opens : (size : ℕ) (words : Words) → min_lines ≤ size → size ≤ max_lines → IsFormatted size words → Opens size words no_entries
  pub well_formed : (size : ℕ) (words : Words) → min_lines ≤ size → size ≤ max_lines → IsFormatted size words → IsWellFormed size words
  pub spells : (size : ℕ) (words : Words) → IsFormatted size words → Spells words []

-- ---- entries are appended

-- a word of the directory, or the number of those in use, is given some value
abbrev pub OfDirectory : ℕ → ℕ → ℕ → Type 0
OfDirectory l w v = ((l ≡ 0) × (w ≡ 3)) ⊎ ((directory_line 0 ≤ l) × (l < directory_line directory_words))

-- The number of words in use and these words are durable, and they are those of the entries: the three conditions under which entries are
-- appended.
pub record HasDurable (had : List DirectoryEntry) (kept : Kept) (m : Memory) : Type 0 where
  pub known : AllKnown m
  pub spells : Spells (shown m) had
  pub used : kept.used ≡ length (spelled_all had)
  pub begins : kept.progress ≡ stage.Words 0
  pub count : IsDurable m 0 3
  pub words : (i : ℕ) → i < kept.used → IsDurable m (directory_line i) (directory_word i)

-- From the memory `first` on, where the directory was `start` and its image had these entries, nothing was stored to the image but by
-- `append_next`, and it has led to this directory and this memory.
pub record HasAppended (had : List DirectoryEntry) (start kept : Kept) (first m : Memory) : Type 0 where
  pub begun : HasDurable had start first
  pub room : length (spelled_all (had ++ start.left)) ≤ directory_words
  pub changes : ChangesTo OfDirectory first m
  pub on : StandsOn had start kept m
  pub stops : StopsLeave first m (HasSome had start.left)

-- each stop now leaves an image that isn't blank and stands for this graph
pub record LeavesGraph (graph : Graph) (m : Memory) : Type 0 where
  pub in_use : (c : Outcome) → CanLeaveAll m c → c 0 0 ≢ 0
  pub stands : (c : Outcome) → CanLeaveAll m c → StandsFor m.size c graph

-- the image is well formed and opens with these entries, and stands for the graph with those of its roots that are new, which are null
pub record StandsWith (size : ℕ) (graph : Graph) (had added : List DirectoryEntry) (words : Words) : Type 0 where
  pub opens : Opens size words (with_all no_entries (had ++ added))
  pub stands : StandsFor size words (with_all_too graph added)
  pub well_formed : IsWellFormed size words

-- so it is with the first of the entries that were left
abbrev pub StandsWithSome : ℕ → Graph → List DirectoryEntry → List DirectoryEntry → Outcome → Type 0
StandsWithSome size graph had left c = (k : ℕ) × (k ≤ length left) × StandsWith size graph had (take k left) c

-- one call of `append_next`, by what its clauses say
pub record IsAppendCall (old new : Kept) (before after : Memory) : Type 0 where
  pub changes : ChangesTo (OfEntry old.used (next_words old.left)) before after
  pub stands : (had : List DirectoryEntry) → Stands had old before → StandsOn had old new after
  pub stops : (had : List DirectoryEntry) → Stands had old before → StopsLeave before after (HasSome had old.left)

-- Over any number of calls of `append_next`, each stop leaves an image that stands for the same graph, new null roots aside; and with all of the
-- roots once nothing is left.
pub record AppendedEntriesStand : Type 0 where
  pub begins : (had : List DirectoryEntry) (start : Kept) (m : Memory) → HasDurable had start m → Stands had start m
  pub leaves : (graph : Graph) (m : Memory) → min_lines ≤ m.size → m.size ≤ max_lines
      → ((l w : ℕ) → l < m.size → IsDurable m l w) → shown m 0 0 ≢ 0 → StandsFor m.size (shown m) graph → LeavesGraph graph m
  pub begun : (had : List DirectoryEntry) (start : Kept) (m : Memory) → HasDurable had start m
      → length (spelled_all (had ++ start.left)) ≤ directory_words → HasAppended had start start m m
  pub further : (had : List DirectoryEntry) (start old new : Kept) (first before after : Memory)
      → HasAppended had start old first before → IsAppendCall old new before after → HasAppended had start new first after
  pub stops : (had : List DirectoryEntry) (start kept : Kept) (graph : Graph) (first m : Memory)
      → HasAppended had start kept first m → Continues had start → LeavesGraph graph first
      → StopsLeave first m (StandsWithSome first.size graph had start.left)
  pub whole : (had : List DirectoryEntry) (start kept : Kept) (graph : Graph) (first m : Memory)
      → HasAppended had start kept first m → Continues had start → LeavesGraph graph first → kept.left ≡ []
      → (c : Outcome) → CanLeaveAll m c → StandsWith first.size graph had start.left c

-- Steps that store to no word of the directory: a stop leaves of these words only what it left before, and what was written back is so still.
pub record LeavesDirectory (old new : Memory) : Type 0 where
  pub known : AllKnown old → AllKnown new
  pub leaves : (l w v : ℕ) → OfDirectory l w v → CanLeave new l w v → CanLeave old l w v
  pub written : (l w v : ℕ) → OfDirectory l w v → IsWrittenAs old l w v → IsWrittenAs new l w v

-- They leave it as it stands, whatever they do to other words.
abbrev pub OthersLeaveDirectories : Type 0
OthersLeaveDirectories = (had : List DirectoryEntry) (kept : Kept) (old new : Memory)
    → kept.used + length (next_words kept.left) ≤ directory_words → LeavesDirectory old new → Stands had kept old → Stands had kept new

-- Planning leaves it as it stands: the image's directory has the same entries, and the next entry has come as far.
abbrev pub PlansLeaveDirectories : Type 0
PlansLeaveDirectories = (had entries : List DirectoryEntry) (old new : Kept) (m : Memory) → IsPlanned entries old new
    → Stands had old m → Stands had new m
