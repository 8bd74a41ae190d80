-- Images that couldn't be opened.
use Rattle.std.specs.Prelude.{◌≡◌, ◌≢◌, ◌⊎◌, ◌<◌, ℕ, None, Err}
use Rattle.ap_base.specs.Causes.{next_count}
use Rattle.graph_model.specs.declared.types.Graph.{Graph}
use Rattle.line_image.specs.Told.{Told}
use Rattle.line_image.specs.Trace.{LeavesNow}
use Rattle.line_memory.specs.Memory.{Memory, IsTelling, shown}
use Rattle.line_memory.specs.Moments.{Goes}
use Rattle.line_memory.specs.declared.attach.AttachFault.{AttachFault}
use Rattle.line_memory.specs.declared.attach.AttachFault.TheVariants as attach
use Rattle.image_layout.specs.declared.superblock.BadReason.{BadReason}
use Rattle.image_layout.specs.declared.superblock.BadReason.TheVariants.{Size}
use Rattle.image_layout.specs.Places.{min_lines, max_lines}
use Rattle.image_meaning.specs.Checks.{Words}
use Rattle.image_meaning.specs.Directories.{Directory}
use Rattle.image_meaning.specs.Logs.{logs_fault}
use Rattle.image_meaning.specs.Meaning.{meaning, StandsFor}
use Rattle.word_changes.specs.Changes.{ChangesTo, GoesOn, StopsLeave}
use Rattle.image_walk.specs.declared.fault.RecoverFault.{RecoverFault}
use Rattle.image_walk.specs.declared.fault.RecoverFault.TheVariants as recovery
use Rattle.image_recovery.specs.Putting.{IsPutBack, IsRecoveringIn}
use Rattle.image_recovery.specs.Recoveries.{HasDirectory, StoresItsOwn}
use Rattle.image_opening.specs.declared.not_opened.NotOpened.{NotOpened}
use Rattle.image_opening.specs.declared.not_opened.NotOpened.TheVariants.{BadImage, ImageFailed, OutOfMemory}
use Rattle.image_opening.specs.Attached.{AreRead, IsAttached}

-- ---- faults, as they are passed on

abbrev pub IsOfAttach : AttachFault → NotOpened → Type 0
IsOfAttach attach.Size why = why ≡ BadImage 0 Size
IsOfAttach attach.ImageFailed why = why ≡ ImageFailed
IsOfAttach attach.OutOfMemory why = why ≡ OutOfMemory

abbrev pub IsOfRecovery : RecoverFault → NotOpened → Type 0
IsOfRecovery (recovery.Bad line reason) why = why ≡ BadImage line reason
IsOfRecovery recovery.ImageFailed why = why ≡ ImageFailed
IsOfRecovery recovery.OutOfMemory why = why ≡ OutOfMemory

-- ---- images that are bad

-- it has too few lines or too many
abbrev pub IsOfWrongSize : Told → Type 0
IsOfWrongSize start = (start.size < min_lines) ⊎ (max_lines < start.size)

-- Words that reads of the image give fail a check, first this one. That of the number of lines is the first of all.
pub record IsBad (start : Told) (line : ℕ) (reason : BadReason) : Type 0 where
  pub words : Words
  pub read : AreRead start words
  pub fails : meaning start.size words ≡ Err (line, reason)

-- where it is told that the image is bad, it is so
abbrev pub IsBadThere : Told → NotOpened → Type 0
IsBadThere start (BadImage line reason) = IsBad start line reason
IsBadThere start ImageFailed = Unit {0}
IsBadThere start OutOfMemory = Unit {0}

-- ---- one that wasn't attached

abbrev pub IsAttachFault : Told → NotOpened → Type 0
IsAttachFault start (BadImage line reason) = (line ≡ 0) × (reason ≡ Size) × IsOfWrongSize start
IsAttachFault start ImageFailed = Unit {0}
IsAttachFault start OutOfMemory = Unit {0}

-- Nothing was written to it and no fence is made: its lines are too few or too many, or couldn't be read, or
-- the fence behind the reads failed.
pub record IsUnattached (start after : Told) (why : NotOpened) : Type 0 where
  pub size : after.size ≡ start.size
  pub trace : after.trace ≡ start.trace
  pub moments : Goes start after (LeavesNow start.trace)
  pub cause : IsAttachFault start why
  pub sized : IsOfWrongSize start → why ≡ BadImage 0 Size

-- ---- one that was attached, and then given back as it was left

-- What is bad is the first check of its words that fails, and then words were put back alone.
abbrev pub IsRecoveryFault : Memory → Memory → NotOpened → Type 0
IsRecoveryFault before m (BadImage line reason) =
    (meaning before.size (shown before) ≡ Err (line, reason)) × ChangesTo (IsPutBack (shown before)) before m
IsRecoveryFault before m ImageFailed = Unit {0}
IsRecoveryFault before m OutOfMemory = Unit {0}

-- It was attached, its memory being `before` then, and couldn't be recovered. Each stop leaves an image that stands for the graph for which
-- it stood, and has the directory that it had, if there is one. Whatever the cause, in a blank image words of the layout were stored; in any
-- other words were put back from logs and counts of logs cleared, alone (`stores`). A stop within that leaves each word outside the logs as
-- it was or put back, also where there is no graph (`recovering`).
pub record IsUnrecovered (start after : Told) (why : NotOpened) : Type 0 where
  pub before : Memory
  pub memory : Memory
  pub attached : IsAttached start before
  pub size : after.size ≡ start.size
  pub told : after ≡ memory.image
  pub goes_on : GoesOn before memory
  pub stops : IsTelling start.trace → (graph : Graph) → StandsFor before.size (shown before) graph
      → StopsLeave before memory (λ c. StandsFor before.size c graph)
  pub directory_stays : IsTelling start.trace → (directory : Directory) → HasDirectory before.size (shown before) directory
      → StopsLeave before memory (λ c. HasDirectory before.size c directory)
  pub stores : StoresItsOwn before memory
  pub recovering : IsTelling start.trace → shown before 0 0 ≢ 0 → logs_fault before.size (shown before) ≡ None
      → StopsLeave before memory (IsRecoveringIn before.size (shown before))
  pub cause : IsRecoveryFault before memory why

abbrev pub IsUnopened : Told → Told → NotOpened → Type 0
IsUnopened start after why = IsUnattached start after why ⊎ IsUnrecovered start after why

-- ---- two images

-- Of two images, which had failed so often before and now, one failed once, and the other didn't.
abbrev pub OneFailed : (first first' second second' : ℕ) → Type 0
OneFailed first first' second second' =
    ((first' ≡ next_count first) × (second' ≡ second)) ⊎ ((first' ≡ first) × (second' ≡ next_count second))

-- neither failed
abbrev pub NoneFailed : (first first' second second' : ℕ) → Type 0
NoneFailed first first' second second' = (first' ≡ first) × (second' ≡ second)
