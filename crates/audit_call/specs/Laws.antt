-- That nothing but what is told stands in an audit's way. Of this project's own format.
use Rattle.std.specs.Prelude.{◌≡◌, ◌⊎◌, ℕ, List, drop, Option, Some, Ok}
use Rattle.ap_base.specs.Sources.{first_file}
use Rattle.ap_base.specs.declared.source.NamedBytes.{NamedBytes}
use Rattle.graph_model.specs.declared.types.Graph.{Graph}
use Rattle.line_image.specs.Told.{Told}
use Rattle.line_memory.specs.Memory.{IsTelling}
use Rattle.run_types.specs.declared.fault.Which.{Which}
use Rattle.run_history.specs.Recorded.{Recorded}
use Rattle.history_file.specs.Reading.{history_in}
use Rattle.image_meaning.specs.Appending.{with_all_too}
use Rattle.image_meaning.specs.Directories.{Directory}
use Rattle.image_meaning.specs.Entries.{DirectoryEntry}
use Rattle.class_set.specs.Facts.{facts_of}
use Rattle.class_set.specs.Linked.{Linked}
use Rattle.class_set.specs.Sets.{made_of}
use Rattle.directories.specs.ClassSets.{AreEntriesOf}
use Rattle.directories.specs.Planning.{lacking}
use Rattle.set_opening.specs.Again.{HoldsGraph, LacksRoom}
use Rattle.set_opening.specs.Arrays.{with_arrays_of}
use Rattle.set_opening.specs.Fitted.{AllAgree}
use Rattle.set_opening.specs.Unopened.{IsUnbegun}
use Rattle.audit_runs.specs.Audits.{IsRight}
use Rattle.audit_runs.specs.Passed.{Main, main_of}
use Rattle.audit_verdicts.specs.declared.verdict.Verdict.{Verdict}
use Rattle.statuses.specs.declared.status.Status.{Status}
use Rattle.statuses.specs.declared.status.Status.TheVariants as status
use Rattle.audit_call.specs.Audits.{AuditEnds, Images, Outside}
use Rattle.audit_call.specs.Linking.{FilesLinkTo}
use Rattle.audit_call.specs.Printing.{HasPut}
use Rattle.audit_call.specs.Records.{record_in}

-- ---- an image that suits a set

-- It tells what is done to it, and stands for a graph. Each shape of its directory agrees with the set; and once its array types have numbers in
-- the set, there is room for the entries of the set that it lacks.
pub record Suits (set : Linked) (image : Told) : Type 0 where
  pub directory : Directory
  pub graph : Graph
  pub holds : HoldsGraph image image.size directory graph
  pub agree : AllAgree (facts_of set) directory.shapes
  pub room : (which : Which) → LacksRoom set directory which → ⊥

-- An image that was opened for the set and given back, and tells what is done to it, suits the set: so the premises about images that follow
-- here hold wherever an audit gets past the images.
abbrev pub OpenedImagesSuit : Type 0
OpenedImagesSuit = (set numbered : Linked) (image after : Told) → IsUnbegun image after set numbered → IsTelling image.trace → Suits set image

-- The graph of such an image for the set: that for which it stands, and a null root for each durable root of the set that its directory lacks.
pub record IsGraphFor (set : Linked) (image : Told) (suits : Suits set image) (graph : Graph) : Type 0 where
  -- the set in which the directory's array types have numbers
  pub numbered : Linked
  pub numbered_is : numbered ≡ with_arrays_of set suits.directory.shapes
  -- all entries of this set
  pub entries : List DirectoryEntry
  pub are_its : AreEntriesOf (facts_of numbered) (made_of numbered) entries
  pub graph_is : graph ≡ with_all_too suits.graph (lacking suits.directory entries)

-- ---- an audit that nothing hinders

-- The class files link, the records are whole or missing, both images suit the set, the class has a `main`, and the history is well formed.
pub record IsUnhindered (files : Option (List NamedBytes)) (name : List ℕ) (had : Images) (was : Outside) : Type 0 where
  pub given : List NamedBytes
  pub given_told : files ≡ Some given
  pub set : Linked
  pub links : FilesLinkTo given (Ok set)
  pub recorded : List NamedBytes
  pub recorded_told : was.records ≡ Some recorded
  pub history : List ℕ
  pub history_is : record_in (first_file recorded) ≡ Ok history
  pub output : List ℕ
  pub output_is : record_in (first_file (drop 1 recorded)) ≡ Ok output
  pub before : Suits set had.before
  pub after : Suits (with_arrays_of set before.directory.shapes) had.after
  -- the set in which the array types of both directories have numbers
  pub numbered : Linked
  pub numbered_is : numbered ≡ with_arrays_of (with_arrays_of set before.directory.shapes) after.directory.shapes
  pub main : Main
  pub main_is : main_of numbered name ≡ Ok main
  pub acts : List Recorded
  pub keep : ℕ
  pub acts_are : history_in history ≡ Ok (acts, keep)

-- All of a verdict's line was put, and the verdict is right between the graphs of the two images.
pub record HasVerdict (files : Option (List NamedBytes)) (name : List ℕ) (had : Images) (was : Outside) (free : IsUnhindered files name had was)
    (now : Outside) (how : Status) : Type 0 where
  pub verdict : Verdict
  pub put : HasPut verdict how was.taken now.taken
  pub opening : Graph
  pub opening_is : IsGraphFor free.set had.before free.before opening
  pub after : Graph
  pub after_is : IsGraphFor (with_arrays_of free.set free.before.directory.shapes) had.after free.after after
  pub right : IsRight free.numbered free.main opening free.acts free.keep free.output after verdict

-- a failure of the outside, or want of memory
abbrev pub IsFailure : Status → Type 0
IsFailure status.SourceFault = Unit {0}
IsFailure status.ImageFault = Unit {0}
IsFailure status.SinkFault = Unit {0}
IsFailure status.OutOfMemory = Unit {0}
IsFailure other = ⊥

-- Then there is a verdict, but for failures and want of memory.
abbrev pub UnhinderedIsDone : Type 0
UnhinderedIsDone = (files : Option (List NamedBytes)) (name : List ℕ) (had has : Images) (was now : Outside) (how : Status)
    → (free : IsUnhindered files name had was) → AuditEnds files name had has was now how
    → HasVerdict files name had was free now how ⊎ IsFailure how
