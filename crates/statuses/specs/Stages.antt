-- At which stage of a command each status comes. What may stand there, and what it says, goes by these stages.
use Rattle.std.specs.Prelude.{◌≡◌, ◌⊎◌, ℕ, List, Option}
use Rattle.ap_base.specs.declared.place.Place.{Place}
use Rattle.run_types.specs.declared.wait.On.{On}
use Rattle.run_types.specs.declared.fault.Full.{Full}
use Rattle.run_types.specs.declared.fault.LinkKind.{LinkKind}
use Rattle.image_layout.specs.declared.superblock.BadReason.{BadReason}
use Rattle.class_file.specs.declared.refusal.ClassRefusal.{ClassRefusal}
use Rattle.class_links.specs.declared.refusal.LinkRefusal.{LinkRefusal}
use Rattle.listing_lines.specs.declared.refusal.ListingFault.{ListingFault}
use Rattle.statuses.specs.declared.status.NewReason.{NewReason}
use Rattle.statuses.specs.declared.status.Status.{Status}
use Rattle.statuses.specs.declared.status.Status.TheVariants as status

pub data Stage : Type 0 where
  -- the words are no command
  OfWords : Stage
  -- the source failed
  OfSource : Stage
  -- there was no memory
  OfMemory : Stage
  -- a file is refused
  OfFile : Stage
  -- a listing is refused
  OfListing : Stage
  -- the classes don't link
  OfLinking : Stage
  -- the image is refused
  OfOpening : Stage
  -- more was needed than there is: of files, of the image's directory, of words for the first objects, or in the run
  OfRoom : Stage
  -- a name leads to nothing that can be used: that of the main class, or one in the run
  OfNames : Stage
  -- the image failed
  OfImage : Stage
  -- the run ended
  OfTurns : Stage
  -- the answers of compaction and audits alone: a new image or a history is refused, or a run is refuted
  OfOthers : Stage

abbrev pub stage_of : Status → Stage
stage_of status.Usage = OfWords
stage_of status.SourceFault = OfSource
stage_of status.OutOfMemory = OfMemory
stage_of (status.BadClass file refusal) = OfFile
stage_of (status.BadListing line kind) = OfListing
stage_of (status.LinkRefused refusal) = OfLinking
stage_of (status.BadImage line reason) = OfOpening
stage_of (status.ShapeChanged shape) = OfOpening
stage_of (status.Full full) = OfRoom
stage_of (status.LinkFault kind name) = OfNames
stage_of status.ImageFault = OfImage
stage_of status.Ok = OfTurns
stage_of (status.Uncaught thread class) = OfTurns
stage_of (status.BadCode method pc) = OfTurns
stage_of (status.RegionRace thread other place) = OfTurns
stage_of (status.Stuck waits) = OfTurns
stage_of status.SinkFault = OfTurns
stage_of (status.NewImage reason) = OfOthers
stage_of (status.BadHistory word) = OfOthers
stage_of status.Refuted = OfOthers

-- the stages that have no cause among words and files: want of memory, and the source's own fault
abbrev pub IsFreeStage : Stage → Type 0
IsFreeStage OfMemory = Unit {0}
IsFreeStage OfSource = Unit {0}
IsFreeStage other = ⊥

-- those at which files are read
abbrev pub IsFilesStage : Stage → Type 0
IsFilesStage OfFile = Unit {0}
IsFilesStage OfRoom = Unit {0}
IsFilesStage OfMemory = Unit {0}
IsFilesStage OfSource = Unit {0}
IsFilesStage other = ⊥

-- those at which classes are linked
abbrev pub IsClassesStage : Stage → Type 0
IsClassesStage OfLinking = Unit {0}
IsClassesStage OfMemory = Unit {0}
IsClassesStage other = ⊥

-- those before the image is opened
abbrev pub IsEarlyStage : Stage → Type 0
IsEarlyStage OfOpening = ⊥
IsEarlyStage OfNames = ⊥
IsEarlyStage OfImage = ⊥
IsEarlyStage OfTurns = ⊥
IsEarlyStage OfOthers = ⊥
IsEarlyStage other = Unit {0}

-- those of a run, and of the opening of its image
abbrev pub IsRunStage : Stage → Type 0
IsRunStage OfWords = ⊥
IsRunStage OfSource = ⊥
IsRunStage OfFile = ⊥
IsRunStage OfListing = ⊥
IsRunStage OfLinking = ⊥
IsRunStage OfOthers = ⊥
IsRunStage other = Unit {0}

-- ---- the table, read the other way

-- Each status stands at its stage, and only want of memory and a fault of the source have no cause.
pub record StagesAre : Type 0 where
  pub usage : stage_of status.Usage ≡ OfWords
  pub source : stage_of status.SourceFault ≡ OfSource
  pub memory : stage_of status.OutOfMemory ≡ OfMemory
  pub file : (file : List ℕ) (refusal : ClassRefusal) → stage_of (status.BadClass file refusal) ≡ OfFile
  pub listing : (line : ℕ) (kind : ListingFault) → stage_of (status.BadListing line kind) ≡ OfListing
  pub linking : (refusal : LinkRefusal) → stage_of (status.LinkRefused refusal) ≡ OfLinking
  pub refused : (line : ℕ) (reason : BadReason) → stage_of (status.BadImage line reason) ≡ OfOpening
  pub changed : (shape : List ℕ) → stage_of (status.ShapeChanged shape) ≡ OfOpening
  pub room : (full : Full) → stage_of (status.Full full) ≡ OfRoom
  pub names : (kind : LinkKind) (name : List ℕ) → stage_of (status.LinkFault kind name) ≡ OfNames
  pub image : stage_of status.ImageFault ≡ OfImage
  pub ok : stage_of status.Ok ≡ OfTurns
  pub uncaught : (thread : ℕ) (class : List ℕ) → stage_of (status.Uncaught thread class) ≡ OfTurns
  pub code : (method : List ℕ) (pc : ℕ) → stage_of (status.BadCode method pc) ≡ OfTurns
  pub race : (thread other : ℕ) (place : Place) → stage_of (status.RegionRace thread other place) ≡ OfTurns
  pub stuck : (waits : List (Option On)) → stage_of (status.Stuck waits) ≡ OfTurns
  pub sink : stage_of status.SinkFault ≡ OfTurns
  pub fresh : (reason : NewReason) → stage_of (status.NewImage reason) ≡ OfOthers
  pub history : (word : ℕ) → stage_of (status.BadHistory word) ≡ OfOthers
  pub refuted : stage_of status.Refuted ≡ OfOthers
  pub free : (s : Status) → IsFreeStage (stage_of s) → (s ≡ status.OutOfMemory) ⊎ (s ≡ status.SourceFault)
