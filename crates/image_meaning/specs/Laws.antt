-- The laws of what an image stands for. In a law a test tells which object lies at a line. Of this project's own format; heaps and values are
-- those of JVMS 2.3, 2.4 and 2.5.3.
use Rattle.std.specs.Prelude.{◌≡◌, ◌≢◌, ℕ, ◌/◌, ◌%◌, ◌<◌, ◌≤◌, Bool, true, false, List, length, Some, None, Ok, Err}
use Rattle.ap_base.specs.declared.place.Place.TheVariants.{Static, Slot}
use Rattle.graph_model.specs.declared.types.Value.{Value}
use Rattle.graph_model.specs.declared.types.Heap.{Heap}
use Rattle.graph_model.specs.Heaps.{values_of, is_kept_slot, stored, with_fresh}
use Rattle.graph_model.specs.Canon.{canon_of}
use Rattle.image_layout.specs.declared.superblock.BadReason.{BadReason}
use Rattle.image_layout.specs.Places.{min_lines, logs, root_slots, slot_line, object_line, object_word, directory_line}
use Rattle.image_layout.specs.Places.{directory_word, IsBlank, super_check}
use Rattle.image_meaning.specs.Checks.{Words, Bad}
use Rattle.image_meaning.specs.Entries.{DirectoryEntry}
use Rattle.image_meaning.specs.Directories.{Directory, no_entries, bad_entry, directory_words_of, directory_of, with_entries}
use Rattle.image_meaning.specs.Directories.{spelled_all, with_all, AreEntries, BreaksOff}
use Rattle.image_meaning.specs.Logs.{log_count, logged_at, logs_below, logs_fault, is_place, is_log_line, put_back, put_each}
use Rattle.image_meaning.specs.Logs.{SameLogs}
use Rattle.image_meaning.specs.Objects.{shape_of, kind_of, object_slot}
use Rattle.image_meaning.specs.Meaning.{root_word, roots_fault, root_values_of, walk, empty_graph, meaning, StandsFor}
use Rattle.image_meaning.specs.Corresponds.{LiesAt, Holds, HoldsReference, Corresponds, SameWords, SameButSlot, SameButRoot}
use Rattle.image_meaning.specs.Corresponds.{SameObjects, SameObjectSizes, AgreesEverywhere, Either, CanJoin, root_static}

-- the relation that a test tells
abbrev pub told_by : (ℕ → ℕ → Bool) → LiesAt
told_by lies line n = lies line n ≡ true

-- The image isn't blank, its superblock and logs pass, and this is its directory.
pub record Opens (size : ℕ) (words : Words) (directory : Directory) : Type 0 where
  pub super : super_check (words 0) size ≡ None
  pub used : words 0 0 ≢ 0
  pub entries : directory_of words ≡ Ok directory
  pub logs : logs_fault size words ≡ None

-- d has the words of c in the superblock, and in the directory as far as it is in use
pub record SameFront (c d : Words) : Type 0 where
  pub super : (word : ℕ) → word < 4 → d 0 word ≡ c 0 word
  pub directory : (i : ℕ) → i < c 0 3 → d (directory_line i) (directory_word i) ≡ c (directory_line i) (directory_word i)

-- ---- the order of checks

-- What is wrong comes in the order of the checks: the superblock's, then the directory's, the logs', the root slots', the objects'.
pub record ChecksComeInOrder (size : ℕ) (words : Words) : Type 0 where
  pub super : (reason : BadReason) → super_check (words 0) size ≡ Some reason → meaning size words ≡ Err (0, reason)
  pub blank : IsBlank (words 0) size → StandsFor size words empty_graph
  pub directory : (bad : Bad) → super_check (words 0) size ≡ None → words 0 0 ≢ 0 → directory_of words ≡ Err bad
      → meaning size words ≡ Err bad
  pub logs : (directory : Directory) (bad : Bad) → super_check (words 0) size ≡ None → words 0 0 ≢ 0
      → directory_of words ≡ Ok directory → logs_fault size words ≡ Some bad → meaning size words ≡ Err bad
  pub roots : (directory : Directory) (bad : Bad) → Opens size words directory
      → roots_fault size (put_back words) (length directory.roots) ≡ Some bad → meaning size words ≡ Err bad
  pub objects : (directory : Directory) (bad : Bad) → Opens size words directory
      → roots_fault size (put_back words) (length directory.roots) ≡ None
      → walk directory.shapes size (put_back words) (root_values_of (put_back words) (length directory.roots)) size ≡ Err bad
      → meaning size words ≡ Err bad

-- Outside the logs, the words after putting back are those after the counted entries were put back one by one: log by log, and in each log
-- the last entry first.
abbrev pub PutBackOneByOne : Type 0
PutBackOneByOne = (words : Words) (line word : ℕ) → is_log_line line ≡ false
    → put_back words line word ≡ put_each (logs_below words logs) words line word

-- The counted entries of the logs 0 to 63 are put back, and nothing else is: where the logs pass, the place of each gets its old word, and a
-- word outside the logs that none of them names stays as it is.
pub record CountedEntriesArePutBack : Type 0 where
  pub each : (size : ℕ) (words : Words) (t n : ℕ) → logs_fault size words ≡ None → t < 64 → n < log_count words t
      → put_back words ((logged_at words t n).place / 8) ((logged_at words t n).place % 8) ≡ (logged_at words t n).old
  pub others : (words : Words) (line word : ℕ) → is_log_line line ≡ false
      → ((t n : ℕ) → t < 64 → n < log_count words t → is_place (logged_at words t n).place line word ≡ false)
      → put_back words line word ≡ words line word

-- A directory is read exactly where its words spell entries that may stand there, in their order.
pub record DirectoriesAreRead : Type 0 where
  pub again : (entries : List DirectoryEntry) (most at : ℕ) (directory : Directory) → AreEntries directory entries → length entries ≤ most
      → with_entries most at directory (spelled_all entries) ≡ Ok (with_all directory entries)
  pub taken : (most at : ℕ) (directory given : Directory) (words : List ℕ) → with_entries most at directory words ≡ Ok given
      → (entries : List DirectoryEntry) × (words ≡ spelled_all entries) × AreEntries directory entries
      × (given ≡ with_all directory entries)

-- A directory is bad exactly where entries that may stand there are followed by words that no further one begins. The line is that of the
-- first of these words.
pub record BadDirectoriesAreTold : Type 0 where
  pub told : (words : Words) (entries : List DirectoryEntry) (rest : List ℕ)
      → BreaksOff no_entries (directory_words_of words (words 0 3)) entries rest
      → directory_of words ≡ Err (bad_entry (length (spelled_all entries)))
  pub only : (words : Words) (bad : Bad) → directory_of words ≡ Err bad
      → (entries : List DirectoryEntry) × (rest : List ℕ) × BreaksOff no_entries (directory_words_of words (words 0 3)) entries rest
      × (bad ≡ bad_entry (length (spelled_all entries)))

-- What an image stands for, the words of its lines tell, and so the first check that fails: those behind its last line say nothing.
abbrev pub LinesTellTheMeaning : Type 0
LinesTellTheMeaning = (size : ℕ) (c d : Words) → min_lines ≤ size → ((line word : ℕ) → line < size → d line word ≡ c line word)
    → meaning size d ≡ meaning size c

-- ---- words that correspond to a heap

-- Where the words that were put back correspond to a heap, the image stands for the heap's graph.
abbrev pub CorrespondingWordsStand : Type 0
CorrespondingWordsStand = (lies : ℕ → ℕ → Bool) (size : ℕ) (words : Words) (directory : Directory) (heap : Heap)
    → Opens size words directory → Corresponds (told_by lies) directory size (put_back words) heap
    → StandsFor size words (canon_of heap)

-- Other words that agree in the front, the logs, the heads and kept slots of all objects and the root slots
-- stand for the same graph, whatever else they say.
abbrev pub SameWordsStand : Type 0
SameWordsStand = (lies : ℕ → ℕ → Bool) (size : ℕ) (c d : Words) (directory : Directory) (heap : Heap)
    → Opens size c directory → Corresponds (told_by lies) directory size (put_back c) heap
    → SameFront c d → SameLogs c d → SameWords (told_by lies) heap c d
    → StandsFor size d (canon_of heap)

-- The same of a correspondence alone.
abbrev pub SameWordsCorrespond : Type 0
SameWordsCorrespond = (lies : ℕ → ℕ → Bool) (size : ℕ) (c d : Words) (directory : Directory) (heap : Heap)
    → Corresponds (told_by lies) directory size c heap → SameWords (told_by lies) heap c d
    → Corresponds (told_by lies) directory size d heap

-- Words where one slot changed correspond to the heap after the store.
abbrev pub SlotStoreCorresponds : Type 0
SlotStoreCorresponds = (lies : ℕ → ℕ → Bool) (size : ℕ) (c d : Words) (directory : Directory) (heap : Heap)
    (line n i : ℕ) (value : Value)
    → Corresponds (told_by lies) directory size c heap → told_by lies line n → i < length (values_of heap n)
    → SameButSlot (told_by lies) heap c d line i
    → Holds (told_by lies) (kind_of (shape_of directory.shapes d line) i) (object_slot d line i) value
    → Corresponds (told_by lies) directory size d (stored heap (Slot n i) value)

-- Words where one root slot changed correspond to the heap after a store into that root's static, which is no other root's.
abbrev pub RootStoreCorresponds : Type 0
RootStoreCorresponds = (lies : ℕ → ℕ → Bool) (size : ℕ) (c d : Words) (directory : Directory) (heap : Heap)
    (r : ℕ) (value : Value)
    → Corresponds (told_by lies) directory size c heap → r < length heap.roots
    → root_static heap r < length heap.statics
    → ((s : ℕ) → s < length heap.roots → s ≢ r → root_static heap s ≢ root_static heap r)
    → SameButRoot (told_by lies) heap c d r → HoldsReference (told_by lies) (root_word d r) value
    → Corresponds (told_by lies) directory size d (stored heap (Static (root_static heap r)) value)

-- The words correspond to any heap that is the same in the roots and in the kept slots of the objects that lie
-- somewhere.
abbrev pub OtherObjectsCorrespond : Type 0
OtherObjectsCorrespond = (lies : ℕ → ℕ → Bool) (size : ℕ) (words : Words) (directory : Directory) (heap other : Heap)
    → Corresponds (told_by lies) directory size words heap → SameObjects (told_by lies) heap other
    → Corresponds (told_by lies) directory size words other

-- Words that agree with a heap place by place correspond to it, where some words correspond to one of the same sizes.
abbrev pub AgreeingWordsCorrespond : Type 0
AgreeingWordsCorrespond = (lies : ℕ → ℕ → Bool) (size : ℕ) (c d : Words) (directory : Directory) (heap other : Heap)
    → Corresponds (told_by lies) directory size c heap → SameObjectSizes (told_by lies) heap other
    → AgreesEverywhere (told_by lies) heap other c d
    → Corresponds (told_by lies) directory size d other

-- Words of slots and heads are told apart: the word of a slot is no other slot's and no head's, and no root slot lies among
-- objects.
pub record WordsLieApart (R : LiesAt) (heap : Heap) : Type 0 where
  pub slots : (a b m n i j : ℕ) → R a m → R b n → i < length (values_of heap m) → j < length (values_of heap n)
      → object_line a i ≡ object_line b j → object_word i ≡ object_word j → (m ≡ n) × (i ≡ j)
  pub heads : (a b m n i : ℕ) → R a m → R b n → i < length (values_of heap m) → object_line a i ≡ b → object_word i ≢ 0
  pub at_roots : (r a m i : ℕ) → r < root_slots → R a m → slot_line r ≢ object_line a i

abbrev pub CorrespondingWordsLieApart : Type 0
CorrespondingWordsLieApart = (lies : ℕ → ℕ → Bool) (size : ℕ) (words : Words) (directory : Directory) (heap : Heap)
    → Corresponds (told_by lies) directory size words heap → WordsLieApart (told_by lies) heap

-- So it is with a heap that has one object more, after a store into a slot that isn't kept or whose object lies
-- nowhere, and after one into a static that is no root's.
pub record ChangesElsewhereCorrespond : Type 0 where
  pub fresh : (lies : ℕ → ℕ → Bool) (size : ℕ) (words : Words) (directory : Directory) (heap : Heap) (shape count : ℕ)
      → Corresponds (told_by lies) directory size words heap
      → Corresponds (told_by lies) directory size words (with_fresh heap shape count)
  pub slot : (lies : ℕ → ℕ → Bool) (size : ℕ) (words : Words) (directory : Directory) (heap : Heap) (m i : ℕ) (value : Value)
      → Corresponds (told_by lies) directory size words heap
      → ((line : ℕ) → told_by lies line m → is_kept_slot heap m i ≡ false)
      → Corresponds (told_by lies) directory size words (stored heap (Slot m i) value)
  pub static : (lies : ℕ → ℕ → Bool) (size : ℕ) (words : Words) (directory : Directory) (heap : Heap) (s : ℕ) (value : Value)
      → Corresponds (told_by lies) directory size words heap → ((r : ℕ) → r < length heap.roots → root_static heap r ≢ s)
      → Corresponds (told_by lies) directory size words (stored heap (Static s) value)

-- A group of objects whose slots hold the old ones, one another or null can join.
abbrev pub FurtherObjectsCorrespond : Type 0
FurtherObjectsCorrespond = (lies new : ℕ → ℕ → Bool) (size : ℕ) (words : Words) (directory : Directory) (heap : Heap)
    → Corresponds (told_by lies) directory size words heap
    → CanJoin (told_by lies) (told_by new) directory size words heap
    → Corresponds (Either (told_by lies) (told_by new)) directory size words heap
