-- Images that were recovered. Of this project's own format.
use Rattle.std.specs.Prelude.{◌≡◌, ◌≢◌, ◌⊎◌, ℕ, List, [], None, IsSome, IsErr}
use Rattle.graph_model.specs.declared.types.Graph.{Graph}
use Rattle.image_layout.specs.Places.{first_object_line, super_check}
use Rattle.image_meaning.specs.Checks.{Words}
use Rattle.image_meaning.specs.Directories.{Directory, directory_of}
use Rattle.image_meaning.specs.Logs.{logs_fault, put_back}
use Rattle.image_meaning.specs.Meaning.{empty_graph, graph_found}
use Rattle.image_meaning.specs.Opening.{Finds, free_line}
use Rattle.directories.specs.Kept.{Kept}
use Rattle.directories.specs.declared.stepping.Progress.TheVariants as stage
use Rattle.directories.specs.declared.reading.DirectoryFault.{DirectoryFault}
use Rattle.directories.specs.declared.reading.DirectoryFault.TheVariants as faults
use Rattle.image_layout.specs.declared.superblock.BadReason.TheVariants as reasons
use Rattle.image_walk.specs.declared.fault.RecoverFault.{RecoverFault}
use Rattle.image_walk.specs.declared.fault.RecoverFault.TheVariants.{Bad, ImageFailed, OutOfMemory}
use Rattle.image_recovery.specs.Checked.{undone_of}

-- the entries that the directory has
abbrev pub entries_in : Kept → Directory
entries_in directory = record { shapes = directory.shapes; roots = directory.roots }

-- The image isn't blank, its superblock passes, and says that so many words of the directory are in use.
pub record IsUsed (size : ℕ) (words : Words) (directory : ℕ) : Type 0 where
  pub passes : super_check (words 0) size ≡ None
  pub begins : words 0 0 ≢ 0
  pub says : directory ≡ words 0 3

-- One of the checks fails that are made before anything is stored: the superblock's, with the size's; or, where the image isn't
-- blank, the directory's or the logs'.
abbrev pub FailsFirst : ℕ → Words → Type 0
FailsFirst size words =
    IsSome (super_check (words 0) size)
    ⊎ ((words 0 0 ≢ 0) × (IsErr (directory_of words) ⊎ IsSome (logs_fault size words)))

-- In an image that isn't blank this was found: the entries of its directory, of which none is planned; its graph, which begins at these lines;
-- the first line behind all that is reached; and how many of its logs had entries, that were put back.
pub record FindsImage (size : ℕ) (words : Words) (directory : Kept) (graph : Graph) (lines : List ℕ) (free undone : ℕ) : Type 0 where
  pub finds : Finds size words (entries_in directory) lines
  pub unplanned : directory.left ≡ []
  pub begins : directory.progress ≡ stage.Words 0
  pub used : directory.used ≡ words 0 3
  pub graph_is : graph ≡ graph_found (entries_in directory) (put_back words) lines
  pub free_is : free ≡ free_line (put_back words) lines
  pub undone_is : undone ≡ undone_of words

-- and in a blank one nothing
pub record FindsNothing (directory : Kept) (graph : Graph) (lines : List ℕ) (free undone : ℕ) : Type 0 where
  pub shapes : directory.shapes ≡ []
  pub roots : directory.roots ≡ []
  pub unplanned : directory.left ≡ []
  pub begins : directory.progress ≡ stage.Words 0
  pub used : directory.used ≡ 0
  pub graph_is : graph ≡ empty_graph
  pub lines_are : lines ≡ []
  pub free_is : free ≡ first_object_line
  pub undone_is : undone ≡ 0

-- the fault is one of the words
abbrev pub IsBadFault : RecoverFault → Type 0
IsBadFault (Bad line reason) = Unit {0}
IsBadFault ImageFailed = ⊥
IsBadFault OutOfMemory = ⊥

-- the directory's fault, and the same of the image
abbrev pub IsSameFault : DirectoryFault → RecoverFault → Type 0
IsSameFault (faults.Bad line) fault = fault ≡ Bad line reasons.Entry
IsSameFault faults.ImageFailed fault = fault ≡ ImageFailed
IsSameFault faults.OutOfMemory fault = fault ≡ OutOfMemory
