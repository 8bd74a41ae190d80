-- What a run of a class set comes to, where its image suits the set and nothing outside fails; and which limit it met, if it met one.
use Rattle.std.specs.Prelude.{◌≡◌, ◌⊎◌, ◌<◌, ℕ, List, [], length, slice_index_or, Option}
use Rattle.graph_model.specs.Heaps.{no_shape}
use Rattle.graph_model.specs.declared.types.Graph.{Graph}
use Rattle.run_types.specs.declared.fault.Full.{Full}
use Rattle.run_types.specs.declared.limits.Limits.{Limits}
use Rattle.image_layout.specs.Places.{IsBlank}
use Rattle.image_meaning.specs.Checks.{Words}
use Rattle.image_meaning.specs.Directories.{Directory}
use Rattle.image_meaning.specs.Meaning.{StandsFor}
use Rattle.line_image.specs.Told.{Told}
use Rattle.line_memory.specs.Memory.{IsTelling}
use Rattle.run_history.specs.Recorded.{Recorded}
use Rattle.class_set.specs.Facts.{facts_of}
use Rattle.class_set.specs.Linked.{Linked}
use Rattle.class_set.specs.Sets.{made_of}
use Rattle.directories.specs.ClassSets.{Agrees, LacksRoomFor}
use Rattle.directories.specs.Kept.{Kept}
use Rattle.directories.specs.declared.stepping.Progress.TheVariants as stage
use Rattle.durable_launch.specs.Passed.{AllAgree, AreRead, IsDirectoryIn, IsLeftAsFound, with_arrays_of}
use Rattle.statuses.specs.declared.status.Status.{Status}
use Rattle.statuses.specs.declared.status.Status.TheVariants as status
use Rattle.class_runs.specs.Sets.{HasEndedSo, HasNoMain, LacksFirstWords}

-- The image tells what is done to it, and is blank or well formed: reads of it give words that stand for a graph.
pub record StandsForSome (image : Told) : Type 0 where
  pub telling : IsTelling image.trace
  pub words : Words
  pub read : AreRead image words
  pub graph : Graph
  pub stands : StandsFor image.size words graph

-- So it is, and each shape of the directory that they spell agrees with the set.
pub record Admits (set : Linked) (image : Told) : Type 0 where
  pub some : StandsForSome image
  pub agree : (words : Words) (directory : Directory) → AreRead image words → IsDirectoryIn words directory
      → (n : ℕ) → n < length directory.shapes → Agrees (facts_of set) (slice_index_or directory.shapes n no_shape)

-- the answers of a run that no fault of the outside and no limit ended
abbrev pub IsOfPlainRun : Status → Type 0
IsOfPlainRun status.Ok = Unit {0}
IsOfPlainRun (status.Uncaught thread class) = Unit {0}
IsOfPlainRun (status.BadCode method pc) = Unit {0}
IsOfPlainRun (status.RegionRace thread other place) = Unit {0}
IsOfPlainRun (status.Stuck waits) = Unit {0}
IsOfPlainRun (status.LinkFault kind name) = Unit {0}
IsOfPlainRun other = ⊥

-- This is the set once the array types of the image's directory had numbers in it.
pub record IsNumberedFor (set numbered : Linked) (image : Told) : Type 0 where
  pub words : Words
  pub read : AreRead image words
  pub directory : Directory
  pub directory_is : IsDirectoryIn words directory
  pub is : numbered ≡ with_arrays_of set directory.shapes

-- The set, once it has these numbers, has no such class, or the class no `main`; or the acts are a plain run, which ended so.
abbrev pub EndsComplete : Linked → (name : List ℕ) → Limits → Told → (ℕ → ℕ → Option ℕ) → Graph → List Recorded → Status → Type 0
EndsComplete set name limits start takes opening acts how =
    ((acts ≡ []) × (numbered : Linked) × IsNumberedFor set numbered start × HasNoMain numbered name limits how)
    ⊎ (HasEndedSo set name limits start takes opening acts how × IsOfPlainRun how)

-- ---- more was needed than there is

-- The image's shapes agree with the set, and its directory has too few words left, or too few roots, for the entries of the set that it lacks,
-- once its array types have numbers in the set. The image is left as it was found.
pub record LacksEntryRoom (set : Linked) (start after : Told) (full : Full) : Type 0 where
  pub found : Kept
  pub stood : Graph
  pub left : IsLeftAsFound start after found stood
  pub agree : AllAgree (facts_of set) found.shapes
  pub numbered : Linked
  pub numbered_is : numbered ≡ with_arrays_of set found.shapes
  pub lacks : LacksRoomFor (facts_of numbered) (made_of numbered) found full

-- Before a run, the image's directory lacked room for the set's entries, or the limits had too few words for the set's first objects, once the set
-- had the numbers for which the image asks; or the acts are a plain run, of which the next event met the limit.
abbrev pub MeetsLimit : Linked → (name : List ℕ) → Limits → (start : Told) → (ℕ → ℕ → Option ℕ) → Graph → List Recorded → (after : Told) → Full → Type 0
MeetsLimit set name limits start takes opening acts after full =
    ((acts ≡ []) × LacksEntryRoom set start after full)
    ⊎ ((acts ≡ []) × (numbered : Linked) × IsNumberedFor set numbered start × LacksFirstWords numbered limits (status.Full full))
    ⊎ HasEndedSo set name limits start takes opening acts (status.Full full)

-- ---- blank images

-- a directory without entries
abbrev pub nothing_kept : Kept
nothing_kept = record { shapes = []; roots = []; left = []; used = 0; progress = stage.Words 0 }

-- A blank image of as many lines as an image may have suits each class set; and its directory lacks room for a set only where an empty one has
-- too few words or roots for the entries of the set.
pub record BlankImagesSuit : Type 0 where
  pub admits : (set : Linked) (image : Told) → IsTelling image.trace → (words : Words) → AreRead image words
      → IsBlank (words 0) image.size → Admits set image
  pub room : (set : Linked) (image : Told) → IsTelling image.trace → (words : Words) → AreRead image words
      → IsBlank (words 0) image.size → (after : Told) (full : Full) → LacksEntryRoom set image after full
      → LacksRoomFor (facts_of set) (made_of set) nothing_kept full
