-- What was read of a source.
use Rattle.std.specs.Prelude.{◌≡◌, ◌≢◌, ◌≤◌, List, [], ◌∷◌, ◌++◌, length, Option, Some, None, Result, Err, IsOk}
use Rattle.ap_base.specs.declared.source.NamedBytes.{NamedBytes}
use Rattle.class_file.specs.declared.class.ClassFile.{ClassFile}
use Rattle.class_links.specs.declared.refusal.LinkRefusal.{LinkRefusal}
use Rattle.class_links.specs.declared.refusal.LinkRefusal.TheVariants.{OutOfMemory as NoMemory}
use Rattle.class_links.specs.Links.{IsBroken}
use Rattle.parsing.specs.Results as parsing
use Rattle.statuses.specs.declared.status.Status.{Status}
use Rattle.statuses.specs.declared.status.Status.TheVariants as status
use Rattle.source_classes.specs.Files.{classes_among}
use Rattle.statuses.specs.Stages.{Stage, OfWords, OfSource, OfMemory, OfFile, OfRoom, stage_of, IsFreeStage, IsFilesStage}
use Rattle.statuses.specs.Stages.{IsClassesStage}

-- what a call gave is what the definition gives, unless memory ran out
abbrev pub IsReadAs : {A B : Type 0} → (A → B) → Result A Status → Result B Status → Type 0
IsReadAs view result read = parsing.Gives (Some status.OutOfMemory) view result read

-- a source that tells what it had left had these files left
abbrev pub HadLeft : Option (List NamedBytes) → List NamedBytes → Type 0
HadLeft None files = Unit {0}
HadLeft (Some left) files = left ≡ files

-- what the files of the source come to
pub record FilesComeTo (first : Option (List NamedBytes)) (answer : Result (List ClassFile) Status)
    : Type 0 where
  pub files : List NamedBytes
  pub told : HadLeft first files
  pub is : classes_among files ≡ answer

-- the answers that have no cause among the files: want of memory, and the source's own fault
abbrev pub HasNoCause : Status → Type 0
HasNoCause s = IsFreeStage (stage_of s)

-- the answers that reading a source can give
abbrev pub IsOfFiles : Status → Type 0
IsOfFiles s = IsFilesStage (stage_of s)

-- the classes break a condition of linking, the first as the refusal says
abbrev pub IsRefused : List ClassFile → LinkRefusal → Type 0
IsRefused classes refusal = (refusal ≢ NoMemory) × IsBroken classes refusal

-- the answers of classes that can't be linked, want of memory among them
abbrev pub IsOfLinking : List ClassFile → Status → Type 0
IsOfLinking classes (status.LinkRefused refusal) = IsRefused classes refusal
IsOfLinking classes status.OutOfMemory = Unit {0}
IsOfLinking classes other = ⊥

-- the answers of classes of which nothing is to run
abbrev pub IsOfClasses : Status → Type 0
IsOfClasses s = IsClassesStage (stage_of s)

-- ---- what is left of a source that had these files

-- The source failed behind some files, of which none is refused: the others are left.
pub record FailsUnrefused (files : List NamedBytes) (after : Option (List NamedBytes)) : Type 0 where
  pub read : List NamedBytes
  pub others : List NamedBytes
  pub whole : files ≡ read ++ others
  pub unrefused : IsOk (classes_among read)
  pub left : after ≡ Some others

-- No file was read behind the first one that is refused: those behind it are left.
pub record StopsAtRefused (files : List NamedBytes) (why : Status) (after : Option (List NamedBytes))
    : Type 0 where
  pub read : List NamedBytes
  pub file : NamedBytes
  pub others : List NamedBytes
  pub whole : files ≡ read ++ file ∷ others
  pub unrefused : IsOk (classes_among read)
  pub refused : classes_among (read ++ file ∷ []) ≡ Err why
  pub left : after ≡ Some others

-- Memory ran out behind some files, of which none is refused, but maybe the last one.
pub record StopsAnywhere (files : List NamedBytes) (after : Option (List NamedBytes)) : Type 0 where
  pub read : List NamedBytes
  pub last : List NamedBytes
  pub others : List NamedBytes
  pub whole : files ≡ read ++ last ++ others
  pub unrefused : IsOk (classes_among read)
  pub few : length last ≤ 1
  pub left : after ≡ Some others

-- What is left, where a call without acts ended at this stage by this answer: all files, where the words are no
-- command; those behind the first one that is refused, also for the room that it needs; where the source
-- failed, those behind some that aren't refused; where memory ran out, those behind any; otherwise none.
abbrev pub LeavesAt : Stage → List NamedBytes → Status → Option (List NamedBytes) → Type 0
LeavesAt OfWords files how after = after ≡ Some files
LeavesAt OfSource files how after = FailsUnrefused files after
LeavesAt OfFile files how after = StopsAtRefused files how after
LeavesAt OfRoom files how after =
    (classes_among files ≡ Err how → StopsAtRefused files how after)
    × (IsOk (classes_among files) → after ≡ Some [])
LeavesAt OfMemory files how after = StopsAnywhere files after
LeavesAt other files how after = after ≡ Some []

abbrev pub IsLeft : List NamedBytes → Status → Option (List NamedBytes) → Type 0
IsLeft files how after = LeavesAt (stage_of how) files how after
