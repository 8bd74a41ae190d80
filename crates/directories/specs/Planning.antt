-- The entries that a directory lacks of some, and whether there is room for them. Of this project's own format.
use Rattle.std.specs.Prelude.{◌≤◌, ◌≡◌, ◌≢◌, ◌+◌, ◌-◌, ◌^◌, ℕ, Bool, true, false, not, nat_lt, min, List, [], ◌∷◌, ◌++◌, length}
use Rattle.std.specs.Prelude.{map, filter, Option, Some, None, if◌then◌else◌}
use Rattle.std.specs.List.{AllByRecursion}
use Rattle.graph_model.specs.declared.types.Shape.{Shape}
use Rattle.run_types.specs.declared.fault.Full.{Full}
use Rattle.run_types.specs.declared.fault.Which.{Which}
use Rattle.run_types.specs.declared.fault.Which.TheVariants.{DirectoryWords, Roots}
use Rattle.image_layout.specs.Places.{root_slots, directory_words}
use Rattle.image_meaning.specs.Checks.{Words}
use Rattle.image_meaning.specs.Entries.{DirectoryEntry, ShapeEntry, RootEntry, IsEntry}
use Rattle.image_meaning.specs.Directories.{Directory, no_entries, has_name, spelled_all, with_all, with_entries}
use Rattle.image_meaning.specs.Directories.{directory_words_of, Spells}
use Rattle.directories.specs.declared.planning.PlanFault.{PlanFault}
use Rattle.directories.specs.declared.planning.PlanFault.TheVariants.{Full as TooMuch, OutOfMemory}
use Rattle.directories.specs.Kept.{Kept, Continues}
use Rattle.directories.specs.Read.{IsDirectory}

abbrev pub is_root : DirectoryEntry → Bool
is_root (ShapeEntry shape) = false
is_root (RootEntry name) = true

-- the directory has an entry of this kind and name
abbrev pub has_entry : Directory → DirectoryEntry → Bool
has_entry directory (ShapeEntry shape) = has_name (map (λ (s : Shape). s.name) directory.shapes) shape.name
has_entry directory (RootEntry name) = has_name directory.roots name

-- those of the entries that it doesn't have
abbrev pub lacking : Directory → List DirectoryEntry → List DirectoryEntry
lacking directory entries = filter (λ entry. not (has_entry directory entry)) entries

-- its shapes and roots, the planned ones among them
abbrev pub directory_of_kept : Kept → Directory
directory_of_kept kept = record { shapes = kept.shapes; roots = kept.roots }

-- how many words of the directory are left once all that is planned is there, and how many roots
abbrev pub words_left : Kept → ℕ
words_left kept = directory_words - (kept.used + length (spelled_all kept.left))

abbrev pub roots_left : Kept → ℕ
roots_left kept = root_slots - length kept.roots

-- how many of the entries are roots
abbrev pub root_count : List DirectoryEntry → ℕ
root_count entries = length (filter is_root entries)

-- so much is needed of what is left, if it is more; the number of words is told up to the greatest of 64 bits
abbrev pub unless_room : Which → ℕ → ℕ → Option Full → Option Full
unless_room which left need later =
    if nat_lt left need then Some (record { which = which; need = min need (2 ^ 64 - 1); left = left }) else later

-- what there is too little room of for these entries: words of the directory, or else roots
abbrev pub no_room : Kept → List DirectoryEntry → Option Full
no_room kept entries =
    unless_room DirectoryWords (words_left kept) (length (spelled_all entries))
    (unless_room Roots (roots_left kept) (root_count entries) None)

-- These entries are planned behind those that are left, and the directory has them.
pub record IsPlanned (entries : List DirectoryEntry) (old new : Kept) : Type 0 where
  pub left : new.left ≡ old.left ++ entries
  pub directory : directory_of_kept new ≡ with_all (directory_of_kept old) entries
  pub used : new.used ≡ old.used
  pub progress : new.progress ≡ old.progress

-- the fault, where it is want of room, is this one
abbrev pub IsRefused : PlanFault → Option Full → Type 0
IsRefused (TooMuch full) room = room ≡ Some full
IsRefused OutOfMemory room = Unit {0}

-- ---- entries that can be planned

-- their kind and name differ
abbrev pub AreOthers : DirectoryEntry → DirectoryEntry → Type 0
AreOthers (ShapeEntry a) (ShapeEntry b) = a.name ≢ b.name
AreOthers (RootEntry a) (RootEntry b) = a ≢ b
AreOthers a b = Unit {0}

-- A directory can have each of them, and no two are of one kind and name.
abbrev pub CanBePlanned : List DirectoryEntry → Type 0
CanBePlanned [] = Unit {0}
CanBePlanned (entry ∷ entries) = IsEntry entry × AllByRecursion (AreOthers entry) entries × CanBePlanned entries

-- What is planned may stand behind what the image has and what is left, and the directory then has all of it.
abbrev pub PlannedEntriesContinue : Type 0
PlannedEntriesContinue = (had entries : List DirectoryEntry) (old new : Kept) → Continues had old → CanBePlanned entries
    → IsPlanned (lacking (directory_of_kept old) entries) old new → no_room old (lacking (directory_of_kept old) entries) ≡ None
    → Continues had new

-- What was read from the words of a directory are the entries that they spell, and nothing is left.
pub record HasRead (words : Words) (kept : Kept) : Type 0 where
  pub had : List DirectoryEntry
  pub spells : Spells words had
  pub used : kept.used ≡ length (spelled_all had)
  pub continues : Continues had kept

abbrev pub ReadEntriesContinue : Type 0
ReadEntriesContinue = (words : Words) (used : ℕ) (kept : Kept) → words 0 3 ≡ used
    → IsDirectory used (with_entries used 0 no_entries (directory_words_of words used)) kept → HasRead words kept
