-- The directory of an image: shapes and durable roots (Shull, Huang and Torrellas, "AutoPersist", PLDI 2019), numbered separately, in the order
-- of their entries. Of this project's own format.
use Rattle.std.specs.Prelude.{◌≡◌, ◌<◌, true, false, slice_index_or, ℕ, zero, suc, ◌+◌, ◌||◌, nat_le, Bool, List, [], ◌∷◌, ◌++◌}
use Rattle.std.specs.Prelude.{length, map, if◌then◌else◌, Option, Some, None, Result, Ok, Err}
use Rattle.std.specs.List.{list_any, range_with_len}
use Rattle.std.specs.Str.{bytes_eq}
use Rattle.graph_model.specs.declared.types.Shape.{Shape}
use Rattle.image_layout.specs.declared.superblock.BadReason.TheVariants as bad
use Rattle.image_layout.specs.Places.{root_slots, directory_line, directory_word}
use Rattle.image_meaning.specs.Checks.{Words, Bad}
use Rattle.image_meaning.specs.Entries.{DirectoryEntry, ShapeEntry, RootEntry, IsEntry, spelled, read_entry}

pub record Directory : Type 0 where
  pub shapes : List Shape
  pub roots : List (List ℕ)

abbrev pub no_entries : Directory
no_entries = record { shapes = []; roots = [] }

abbrev pub has_name : List (List ℕ) → List ℕ → Bool
has_name names name = list_any (bytes_eq name) names

-- A name stands twice among the shapes or among the roots, or there is a root slot too few.
abbrev pub is_refused : Directory → DirectoryEntry → Bool
is_refused directory (ShapeEntry shape) = has_name (map (λ (s : Shape). s.name) directory.shapes) shape.name
is_refused directory (RootEntry name) = has_name directory.roots name || nat_le root_slots (length directory.roots)

abbrev pub with_entry : Directory → DirectoryEntry → Directory
with_entry directory (ShapeEntry shape) = record directory { shapes = directory.shapes ++ shape ∷ [] }
with_entry directory (RootEntry name) = record directory { roots = directory.roots ++ name ∷ [] }

-- an entry whose first word is this one of the directory
abbrev pub bad_entry : ℕ → Bad
bad_entry at = (directory_line at, bad.Entry)

-- the directory with this entry too, and how far the entries then reach
abbrev pub take_entry : (ℕ → Directory → List ℕ → Result Directory Bad) → ℕ → Directory → Option (DirectoryEntry × List ℕ)
    → Result Directory Bad
take_entry next at directory None = Err (bad_entry at)
take_entry next at directory (Some (entry, rest)) =
    if is_refused directory entry then Err (bad_entry at)
    else next (at + length (spelled entry)) (with_entry directory entry) rest

-- The directory with all the entries that these words spell, the first of which is word `at` of the directory. There are no more entries
-- than words.
unfoldable pub with_entries : ℕ → ℕ → Directory → List ℕ → Result Directory Bad
with_entries most at directory [] = Ok directory
with_entries zero at directory (w ∷ words) = Err (bad_entry at)
with_entries (suc most) at directory (w ∷ words) = take_entry (with_entries most) at directory (read_entry (w ∷ words))

-- the first n words of the directory
abbrev pub directory_words_of : Words → ℕ → List ℕ
directory_words_of words n = map (λ i. words (directory_line i) (directory_word i)) (range_with_len 0 n)

-- word 3 of the superblock is how many words are in use
unfoldable pub directory_of : Words → Result Directory Bad
directory_of words = with_entries (words 0 3) 0 no_entries (directory_words_of words (words 0 3))

-- ---- the grammar

abbrev pub spelled_all : List DirectoryEntry → List ℕ
spelled_all [] = []
spelled_all (entry ∷ entries) = spelled entry ++ spelled_all entries

abbrev pub with_all : Directory → List DirectoryEntry → Directory
with_all directory [] = directory
with_all directory (entry ∷ entries) = with_all (with_entry directory entry) entries

-- each may stand in a directory after those before it
abbrev pub AreEntries : Directory → List DirectoryEntry → Type 0
AreEntries directory [] = Unit {0}
AreEntries directory (entry ∷ entries) =
    IsEntry entry × (is_refused directory entry ≡ false) × AreEntries (with_entry directory entry) entries

-- no entry that may stand there begins these words
abbrev pub NoEntryBegins : Directory → List ℕ → Type 0
NoEntryBegins directory words = (entry : DirectoryEntry) (rest : List ℕ) → IsEntry entry → words ≡ spelled entry ++ rest
    → is_refused directory entry ≡ true

-- The words spell these entries, and behind them stand words that no further entry begins.
pub record BreaksOff (directory : Directory) (words : List ℕ) (entries : List DirectoryEntry) (rest : List ℕ) : Type 0 where
  pub spelled : words ≡ spelled_all entries ++ rest
  pub before : AreEntries directory entries
  pub more : 0 < length rest
  pub none : NoEntryBegins (with_all directory entries) rest

-- The words of the image's directory spell these entries, and no more are in use.
pub record Spells (words : Words) (entries : List DirectoryEntry) : Type 0 where
  pub used : words 0 3 ≡ length (spelled_all entries)
  pub spelled : (i : ℕ) → i < length (spelled_all entries)
      → words (directory_line i) (directory_word i) ≡ slice_index_or (spelled_all entries) i 0
