-- A directory as it is kept in memory: what its image has and what is planned, and how far the planned entries have come. Of this project's own
-- format.
use Rattle.std.specs.Prelude.{◌≡◌, ◌⊎◌, ◌<◌, ◌≤◌, ℕ, ◌+◌, List, [], ◌∷◌, ◌++◌, length, take, drop, slice_index_or}
use Rattle.graph_model.specs.declared.types.Shape.{Shape}
use Rattle.line_image.specs.Trace.{Outcome}
use Rattle.line_memory.specs.Memory.{Memory, OneCall}
use Rattle.image_layout.specs.Places.{directory_words, directory_line, directory_word}
use Rattle.image_meaning.specs.Entries.{DirectoryEntry, spelled}
use Rattle.image_meaning.specs.Directories.{no_entries, with_all, spelled_all, AreEntries, Spells}
use Rattle.word_changes.specs.Changes.{AllKnown, IsFixed}
use Rattle.directories.specs.declared.stepping.Progress.{Progress}
use Rattle.directories.specs.declared.stepping.Progress.TheVariants.{Words}
use Rattle.directories.specs.Appending.{HasCome, calls_left, IsFetched}

-- The shapes and the roots' names in their order, the planned ones behind the others; the planned entries that aren't in the image yet; how
-- many of the image's directory words are in use; and how far the next of these entries has come.
pub record Kept : Type 0 where
  pub shapes : List Shape
  pub roots : List (List ℕ)
  pub left : List DirectoryEntry
  pub used : ℕ
  pub progress : Progress

-- the words of the entry that comes next
abbrev pub next_words : List DirectoryEntry → List ℕ
next_words [] = []
next_words (entry ∷ later) = spelled entry

-- From word `at` on, the words spell the entries that are left, and the directory has room for them. Each of so many shapes has a word of its own.
pub record AreSpelled (words : List ℕ) (at appended : ℕ) (left : List DirectoryEntry) (used shapes : ℕ) : Type 0 where
  pub within : at ≤ length words
  pub few : appended + length left ≤ directory_words
  pub spelled : drop at words ≡ spelled_all left
  pub room : used + length (spelled_all left) ≤ directory_words
  pub counted : shapes ≤ used + length (spelled_all left)

-- ---- the entries that the image has

-- These entries and those that are left may stand in a directory, and it has these shapes and roots then.
pub record Continues (had : List DirectoryEntry) (kept : Kept) : Type 0 where
  pub are : AreEntries no_entries (had ++ kept.left)
  pub whole : with_all no_entries (had ++ kept.left) ≡ record { shapes = kept.shapes; roots = kept.roots }

-- the next entry has come so far; or there is none, the number of words in use is fixed, and the entry that is planned next begins
abbrev pub NextStands : List DirectoryEntry → Progress → ℕ → Memory → Type 0
NextStands [] progress used m = (progress ≡ Words 0) × IsFixed m 0 3 used
NextStands (entry ∷ later) progress used m = HasCome progress used (spelled entry) m

-- What each line shows is known. Whatever stops, the image's directory has these entries, of which nothing is lost, and of the entry that comes
-- next it has as much as was made of it.
pub record Stands (had : List DirectoryEntry) (kept : Kept) (m : Memory) : Type 0 where
  pub known : AllKnown m
  pub used : kept.used ≡ length (spelled_all had)
  pub words : (i : ℕ) → i < length (spelled_all had)
      → IsFixed m (directory_line i) (directory_word i) (slice_index_or (spelled_all had) i 0)
  pub next : NextStands kept.left kept.progress kept.used m

-- The same with the first of the entries that were left in the image too.
pub record StandsOn (had : List DirectoryEntry) (old new : Kept) (m : Memory) : Type 0 where
  pub added : List DirectoryEntry
  pub left : old.left ≡ added ++ new.left
  pub stands : Stands (had ++ added) new m

-- an image whose directory has these entries and the first of those that were left
abbrev pub HasSome : List DirectoryEntry → List DirectoryEntry → Outcome → Type 0
HasSome had left c = (k : ℕ) × (k ≤ length left) × Spells c (had ++ take k left)

-- ---- one step

-- the shapes and the roots stay
pub record SameEntries (old new : Kept) : Type 0 where
  pub shapes : new.shapes ≡ old.shapes
  pub roots : new.roots ≡ old.roots

-- a line that is needed wasn't resident and is touched, and nothing has come further
abbrev pub Waits : Kept → Kept → Memory → Memory → Type 0
Waits old new before after = (new ≡ old) × IsFetched old.progress old.used (next_words old.left) before after

-- the next entry has come further by one of the image calls that it needs
pub record GoesOn (old new : Kept) : Type 0 where
  pub left : new.left ≡ old.left
  pub used : new.used ≡ old.used
  pub calls : calls_left new.progress new.used (next_words new.left) + 1
      ≡ calls_left old.progress old.used (next_words old.left)

-- by the last call that it needed it is in the directory
pub record GoesIn (old new : Kept) : Type 0 where
  pub entry : DirectoryEntry
  pub left : old.left ≡ entry ∷ new.left
  pub used : new.used ≡ old.used + length (spelled entry)
  pub progress : new.progress ≡ Words 0
  pub calls : calls_left old.progress old.used (next_words old.left) ≡ 1

abbrev pub Steps : Kept → Kept → Memory → Memory → Type 0
Steps old new before after = SameEntries old new
    × (Waits old new before after ⊎ (GoesOn old new × OneCall before after) ⊎ (GoesIn old new × OneCall before after))
