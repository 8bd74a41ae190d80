-- Images that couldn't be opened for a class set.
pub use Rattle.image_opening.specs.Unopened.{IsOfWrongSize}
use Rattle.std.specs.Prelude.{◌≡◌, ◌≢◌, ◌⊎◌, ℕ, List, [], None, Err}
use Rattle.graph_model.specs.declared.types.Graph.{Graph}
use Rattle.line_image.specs.Told.{Told}
use Rattle.line_image.specs.Trace.{LeavesNow}
use Rattle.line_memory.specs.Memory.{Memory, IsTelling, shown}
use Rattle.line_memory.specs.Moments.{Goes}
use Rattle.image_layout.specs.declared.superblock.BadReason.TheVariants.{Size}
use Rattle.image_meaning.specs.Directories.{Directory, with_all}
use Rattle.image_meaning.specs.Entries.{DirectoryEntry}
use Rattle.image_meaning.specs.Logs.{logs_fault}
use Rattle.image_meaning.specs.Meaning.{meaning, StandsFor}
use Rattle.word_changes.specs.Changes.{ChangesTo, GoesOn, StopsLeave}
use Rattle.image_recovery.specs.Putting.{IsPutBack, IsRecoveringIn}
use Rattle.image_opening.specs.declared.not_opened.NotOpened.{NotOpened}
use Rattle.image_opening.specs.declared.not_opened.NotOpened.TheVariants as opening
use Rattle.class_set.specs.Facts.{facts_of}
use Rattle.class_set.specs.Linked.{Linked}
use Rattle.class_set.specs.Sets.{made_of}
use Rattle.directories.specs.ClassSets.{AreEntriesOf}
use Rattle.directories.specs.Kept.{Kept}
use Rattle.directories.specs.Planning.{lacking}
use Rattle.set_opening.specs.declared.unopened.Unopened.{Unopened}
use Rattle.set_opening.specs.declared.unopened.Unopened.TheVariants.{BadImage, ShapeChanged, Full, ImageFailed, OutOfMemory}
use Rattle.set_opening.specs.Arrays.{with_arrays_of}
use Rattle.set_opening.specs.Attached.{IsAttached}
use Rattle.set_opening.specs.Found.{IsDirectoryIn, IsFound, StoresItsOwn}
use Rattle.set_opening.specs.Fitted.{AllAgree, IsFitted, IsUnfit}
use Rattle.set_opening.specs.Opened.{StandsWithFirst}

-- ---- faults, as they are passed on

abbrev pub IsOfOpening : NotOpened → Unopened → Type 0
IsOfOpening (opening.BadImage line reason) why = why ≡ BadImage line reason
IsOfOpening opening.ImageFailed why = why ≡ ImageFailed
IsOfOpening opening.OutOfMemory why = why ≡ OutOfMemory

-- ---- an image that wasn't attached

abbrev pub IsAttachFault : Told → Unopened → Type 0
IsAttachFault start (BadImage line reason) = (line ≡ 0) × (reason ≡ Size) × IsOfWrongSize start
IsAttachFault start (ShapeChanged name) = ⊥
IsAttachFault start (Full full) = ⊥
IsAttachFault start ImageFailed = Unit {0}
IsAttachFault start OutOfMemory = Unit {0}

-- Nothing was written to it and no fence is made: its lines are too few or too many, or couldn't be read, or
-- the fence behind the reads failed.
pub record IsUnattached (start after : Told) (why : Unopened) : Type 0 where
  pub size : after.size ≡ start.size
  pub trace : after.trace ≡ start.trace
  pub moments : Goes start after (LeavesNow start.trace)
  pub cause : IsAttachFault start why
  pub sized : IsOfWrongSize start → why ≡ BadImage 0 Size

-- ---- one that was attached, and then given back as it was left

-- What is bad is the first check of its words that fails, and then words were put back alone.
abbrev pub IsRecoveryFault : Memory → Memory → Unopened → Type 0
IsRecoveryFault before m (BadImage line reason) =
    (meaning before.size (shown before) ≡ Err (line, reason)) × ChangesTo (IsPutBack (shown before)) before m
IsRecoveryFault before m (ShapeChanged name) = ⊥
IsRecoveryFault before m (Full full) = ⊥
IsRecoveryFault before m ImageFailed = Unit {0}
IsRecoveryFault before m OutOfMemory = Unit {0}

-- Each stop leaves an image that has the directory and stands for the graph that it had, if there are any, with the first of these entries.
pub record IsLeft (start after : Told) (before m : Memory) (added : List DirectoryEntry) : Type 0 where
  pub attached : IsAttached start before
  pub size : after.size ≡ start.size
  pub told : after ≡ m.image
  pub goes_on : GoesOn before m
  pub stops : IsTelling start.trace → (graph : Graph) (found : Directory) → StandsFor before.size (shown before) graph
      → IsDirectoryIn (shown before) found → StopsLeave before m (StandsWithFirst before.size found graph added)

-- It couldn't be recovered. Whatever the cause, in a blank image words of the layout were stored; in any other words were put back from logs
-- and counts of logs cleared, alone (`stores`). A stop within that leaves each word outside the logs as it was or put back, also where there
-- is no graph (`recovering`).
pub record IsUnrecovered (start after : Told) (why : Unopened) : Type 0 where
  pub before : Memory
  pub memory : Memory
  pub left : IsLeft start after before memory []
  pub stores : StoresItsOwn before memory
  pub recovering : IsTelling start.trace → shown before 0 0 ≢ 0 → logs_fault before.size (shown before) ≡ None
      → StopsLeave before memory (IsRecoveringIn before.size (shown before))
  pub cause : IsRecoveryFault before memory why

-- What is in it wasn't found.
abbrev pub IsUnfound : Told → Told → Unopened → Type 0
IsUnfound start after why = IsUnattached start after why ⊎ IsUnrecovered start after why

-- What is in it was found, and nothing was done to it since.
pub record IsLeftAsFound (start after : Told) (directory : Kept) (graph : Graph) : Type 0 where
  pub before : Memory
  pub memory : Memory
  pub lines : List ℕ
  pub free : ℕ
  pub found : IsFound start before memory directory graph lines free
  pub left : IsLeft start after before memory []

-- It was recovered and couldn't be made ready for the set: nothing was done to it since.
pub record IsUnprepared (start after : Told) (old set : Linked) (why : Unopened) : Type 0 where
  pub directory : Kept
  pub graph : Graph
  pub left : IsLeftAsFound start after directory graph
  pub cause : IsUnfit old set directory why

-- ---- what isn't found, or not made ready for the set

abbrev pub IsUnopened : Told → Told → Linked → Linked → Unopened → Type 0
IsUnopened start after old set why =
    (IsUnattached start after why × (set ≡ old)) ⊎ (IsUnrecovered start after why × (set ≡ old))
    ⊎ IsUnprepared start after old set why

-- ---- one that was made ready, and given back

-- Nothing of what is planned was appended: what is in it was found, made ready for the set, and left so.
pub record IsUnbegun (start after : Told) (old set : Linked) : Type 0 where
  pub found : Kept
  pub directory : Kept
  pub stood : Graph
  pub graph : Graph
  pub left : IsLeftAsFound start after found stood
  pub fitted : IsFitted old set found directory stood graph

-- It failed while entries of the set were appended: those that the directory that was found lacks.
pub record IsUnappended (start after : Told) (old set : Linked) : Type 0 where
  pub before : Memory
  pub memory : Memory
  pub found : Directory
  pub found_is : IsDirectoryIn (shown before) found
  pub entries : List DirectoryEntry
  pub are_its : AreEntriesOf (facts_of set) (made_of set) entries
  pub added : List DirectoryEntry
  pub added_is : added ≡ lacking found entries
  pub left : IsLeft start after before memory added
  pub set_is : set ≡ with_arrays_of old found.shapes
  -- each shape of the directory, with all of these too, agrees with the set
  pub agree : AllAgree (facts_of set) (with_all found added).shapes
