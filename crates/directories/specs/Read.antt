-- What the words of a directory are read as.
use Rattle.std.specs.Prelude.{◌≡◌, ℕ, ◌/◌, ◌%◌, ◌^◌, List, drop, length, slice_index_or, true, [], Option, Some, None, Result}
use Rattle.std.specs.Prelude.{Ok, Err}
use Rattle.graph_model.specs.declared.types.Field.{Field}
use Rattle.graph_model.specs.declared.types.Shape as shapes
use Rattle.image_meaning.specs.Entries.{DirectoryEntry, ShapeEntry, RootEntry, spelled, name_from, behind_name, kind_of_letter}
use Rattle.image_layout.specs.declared.superblock.BadReason.TheVariants as bad
use Rattle.image_meaning.specs.Checks as checks
use Rattle.image_meaning.specs.Directories.{Directory}
use Rattle.directories.specs.declared.stepping.Progress.TheVariants.{Words}
use Rattle.directories.specs.declared.reading.DirectoryFault.{DirectoryFault}
use Rattle.directories.specs.declared.reading.DirectoryFault.TheVariants.{Bad, ImageFailed, OutOfMemory}
use Rattle.directories.specs.Kept.{Kept}
use Rattle.directories.specs.declared.entries.Entry.{Entry}
use Rattle.directories.specs.declared.entries.Entry.TheVariants.{Shape, Root}

-- the entry as the format has it
abbrev pub entry_of : Entry → DirectoryEntry
entry_of (Shape shape) = ShapeEntry shape
entry_of (Root name) = RootEntry name

-- the field that the words begin with, and the words behind it
abbrev pub field_at : List ℕ → Field
field_at words = record {
  name = name_from (slice_index_or words 0 0 / 2 ^ 32) (drop 1 words);
  kind = kind_of_letter (slice_index_or words 0 0 % 2 ^ 32);
  kept = true;
}

abbrev pub after_field : List ℕ → List ℕ
after_field words = behind_name (slice_index_or words 0 0 / 2 ^ 32) (drop 1 words)

-- no entry begins the words, or this one, of so many words
abbrev pub IsRead : List ℕ → Option (Entry × ℕ) → Option (DirectoryEntry × List ℕ) → Type 0
IsRead words None read = read ≡ None
IsRead words (Some (entry, count)) read = (count ≡ length (spelled (entry_of entry)))
    × (read ≡ Some (entry_of entry, drop count words))

abbrev pub the_directory : List shapes.Shape → List (List ℕ) → Directory
the_directory shapes roots = record { shapes = shapes; roots = roots }

-- what the words of a directory give is this directory, of which nothing is planned
pub record IsDirectory (count : ℕ) (given : Result Directory checks.Bad) (kept : Kept) : Type 0 where
  pub entries : given ≡ Ok (record { shapes = kept.shapes; roots = kept.roots })
  pub left : kept.left ≡ []
  pub used : kept.used ≡ count
  pub progress : kept.progress ≡ Words 0

-- the fault isn't one of the words
abbrev pub IsUntied : DirectoryFault → Type 0
IsUntied (Bad line) = ⊥
IsUntied ImageFailed = Unit {0}
IsUntied OutOfMemory = Unit {0}

-- the fault, where it is one of the words, is the one that they give
abbrev pub IsFault : Result Directory checks.Bad → DirectoryFault → Type 0
IsFault given (Bad line) = given ≡ Err (line, bad.Entry)
IsFault given ImageFailed = Unit {0}
IsFault given OutOfMemory = Unit {0}
