-- Superblocks and logs that are checked. These are the undo logs of failure-atomic regions (Shull, Huang and Torrellas,
-- "AutoPersist", PLDI 2019), of this project's own format.
use Rattle.std.specs.Prelude.{◌≡◌, ◌≤◌, ℕ, ◌==◌, not, List, length, filter}
use Rattle.std.specs.List.{range_with_len}
use Rattle.std.specs.Ordering.{nat_cmp}
use Rattle.std.specs.BTreeSet.{BTreeSet, contains}
use Rattle.image_layout.specs.declared.superblock.Super.{Super}
use Rattle.image_layout.specs.declared.superblock.Super.TheVariants.{Blank, Used}
use Rattle.image_layout.specs.Places.{directory_words, logs}
use Rattle.image_meaning.specs.Checks.{Words}
use Rattle.image_meaning.specs.Logs.{Logged, log_count, has_place}

-- these are the places of the entries
abbrev pub HasPlaces : BTreeSet ℕ → List Logged → Type 0
HasPlaces places entries = (place : ℕ) → contains nat_cmp places place ≡ has_place entries place

-- how many logs count an entry
abbrev pub undone_of : Words → ℕ
undone_of words = length (filter (λ t. not (log_count words t == 0)) (range_with_len 0 logs))

-- no more words of the directory are in use than there are
abbrev pub IsInRange : Super → Type 0
IsInRange Blank = Unit {0}
IsInRange (Used version directory) = directory ≤ directory_words
