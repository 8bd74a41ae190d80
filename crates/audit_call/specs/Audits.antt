-- What an audit of a saved run comes to, stage by stage: class files, records, the image from which the run began, the one that it left, and
-- what comes of their graphs. At each stage the audit ends by one of the named answers or goes on to the next; want of memory may stand in
-- place of any answer.
use Rattle.std.specs.Prelude.{◌≡◌, ◌⊎◌, List, ℕ, Option, Some, Ok, Err}
use Rattle.ap_base.specs.declared.source.NamedBytes.{NamedBytes}
use Rattle.graph_model.specs.declared.types.Graph.{Graph}
use Rattle.line_image.specs.Told.{Told}
use Rattle.class_set.specs.Linked.{Linked}
use Rattle.image_opening.specs.Stops.{KeepsItsGraph}
use Rattle.set_opening.specs.Attached.{IsSettled}
use Rattle.set_opening.specs.Unopened.{IsUnbegun, IsUnopened}
use Rattle.set_opening.specs.declared.unopened.Unopened.{Unopened}
use Rattle.set_opening.specs.declared.unopened.Unopened.TheVariants as unopened
use Rattle.source_classes.specs.Reading.{HasNoCause}
use Rattle.statuses.specs.declared.status.Status.{Status}
use Rattle.statuses.specs.declared.status.Status.TheVariants as status
use Rattle.audit_call.specs.Judged.{GraphsEnd}
use Rattle.audit_call.specs.Linking.{FilesLinkTo, SourceLinksTo}
use Rattle.audit_call.specs.Records.{GivesBoth, LacksRecord}
use Rattle.audit_call.specs.declared.records.Records.{Records}

-- ---- what is told at a moment

-- the records that their source has left, its count of faults, and the bytes that the sink took
pub record Outside : Type 0 where
  pub records : Option (List NamedBytes)
  pub failed : ℕ
  pub taken : Option (List ℕ)

abbrev pub outside : Option (List NamedBytes) → ℕ → Option (List ℕ) → Outside
outside records failed taken = record { records = records; failed = failed; taken = taken }

-- the image from which the run began, and the one that it left
pub record Images : Type 0 where
  pub before : Told
  pub after : Told

abbrev pub images : Told → Told → Images
images before after = record { before = before; after = after }

-- ---- the images

abbrev pub status_of_unopened : Unopened → Status
status_of_unopened (unopened.BadImage line reason) = status.BadImage line reason
status_of_unopened (unopened.ShapeChanged name) = status.ShapeChanged name
status_of_unopened (unopened.Full full) = status.Full full
status_of_unopened unopened.ImageFailed = status.ImageFault
status_of_unopened unopened.OutOfMemory = status.OutOfMemory

-- The image couldn't be opened for the set, and was given back. Nothing was put.
pub record CannotOpen (set : Linked) (start left : Told) (how : Status) (takes takes' : Option (List ℕ)) : Type 0 where
  pub numbered : Linked
  pub why : Unopened
  pub unopened : IsUnopened start left set numbered why
  pub is : how ≡ status_of_unopened why
  pub quiet : takes' ≡ takes

-- The image that the run left was opened for the set, whose array types got the numbers that its directory asks for, and given back as its
-- recovery left it. The verdict is over that set.
pub record HasAfter (set : Linked) (name : List ℕ) (opening : Graph) (records : Records) (start left : Told) (how : Status)
    (takes takes' : Option (List ℕ)) : Type 0 where
  pub numbered : Linked
  pub found : IsUnbegun start left set numbered
  pub ends : GraphsEnd numbered name opening found.graph records how takes takes'

abbrev pub AfterEnds : Linked → (name : List ℕ) → (opening : Graph) → Records → (start left : Told) → Status
    → (takes takes' : Option (List ℕ)) → Type 0
AfterEnds set name opening records start left how takes takes' =
    CannotOpen set start left how takes takes' ⊎ HasAfter set name opening records start left how takes takes'

-- The image from which the run began couldn't be opened; the other one wasn't touched.
pub record LacksBefore (set : Linked) (had has : Images) (how : Status) (takes takes' : Option (List ℕ)) : Type 0 where
  pub unopened : CannotOpen set had.before has.before how takes takes'
  pub untouched : has.after ≡ had.after

-- It was opened for the set likewise, and given back as its recovery left it. The set in which the array types of its directory have numbers
-- is the one for which the other image is opened then: those of both have numbers in the end, the first ones first.
pub record HasBefore (set : Linked) (name : List ℕ) (records : Records) (had has : Images) (how : Status)
    (takes takes' : Option (List ℕ)) : Type 0 where
  pub numbered : Linked
  pub found : IsUnbegun had.before has.before set numbered
  pub ends : AfterEnds numbered name found.graph records had.after has.after how takes takes'

-- What comes of the class set, the records and the two images.
abbrev pub ImagesEnd : Linked → (name : List ℕ) → Records → (had has : Images) → Status → (takes takes' : Option (List ℕ)) → Type 0
ImagesEnd set name records had has how takes takes' =
    LacksBefore set had has how takes takes' ⊎ HasBefore set name records had has how takes takes'

-- ---- the records

-- One of them wasn't read. No image was touched, and nothing was put.
pub record CannotRead (had has : Images) (was now : Outside) (how : Status) : Type 0 where
  pub lacks : LacksRecord was.records now.records how
  pub untouched : has ≡ had
  pub quiet : now.taken ≡ was.taken

-- Both were read.
pub record HasRead (set : Linked) (name : List ℕ) (had has : Images) (was now : Outside) (how : Status) : Type 0 where
  pub records : Records
  pub read : GivesBoth was.records now.records records
  pub ends : ImagesEnd set name records had has how was.taken now.taken

-- What comes of the class set.
abbrev pub SetEnds : Linked → (name : List ℕ) → (had has : Images) → (was now : Outside) → Status → Type 0
SetEnds set name had has was now how = CannotRead had has was now how ⊎ HasRead set name had has was now how

-- ---- the class files

-- They are refused or don't link, or their source failed, or memory ran out. Nothing else was touched: no record was asked for.
pub record LacksSet (files : Option (List NamedBytes)) (had has : Images) (was now : Outside) (how : Status) : Type 0 where
  pub cause : SourceLinksTo files (Err how) ⊎ HasNoCause how
  pub untouched : has ≡ had
  pub same : now ≡ was

-- They link.
pub record HasSet (files : Option (List NamedBytes)) (name : List ℕ) (had has : Images) (was now : Outside) (how : Status) : Type 0 where
  pub set : Linked
  pub links : SourceLinksTo files (Ok set)
  pub ends : SetEnds set name had has was now how

-- What an audit comes to of a source of class files that had these left, where the main class has this name.
abbrev pub AuditEnds : (files : Option (List NamedBytes)) → (name : List ℕ) → (had has : Images) → (was now : Outside) → Status → Type 0
AuditEnds files name had has was now how = LacksSet files had has was now how ⊎ HasSet files name had has was now how

-- ---- told from the other side

-- The status is that of these files: why they are refused or don't link, or what comes of the set to which they link. Want of memory, and a
-- fault of the source, may stand in its place.
pub record Answers (files : List NamedBytes) (name : List ℕ) (had has : Images) (was now : Outside) (how : Status) : Type 0 where
  pub refused : (s : Status) → FilesLinkTo files (Err s) → HasNoCause how ⊎ (how ≡ s)
  pub links : (set : Linked) → FilesLinkTo files (Ok set) → HasNoCause how ⊎ SetEnds set name had has was now how

-- Where the source tells its files, it is so.
abbrev pub AnswersFor : Option (List NamedBytes) → (name : List ℕ) → (had has : Images) → (was now : Outside) → Status → Type 0
AnswersFor told name had has was now how =
    (files : List NamedBytes) → told ≡ Some files → Answers files name had has was now how

-- ---- what is left of an image

-- It has the size that it had. Where it tells what is done to it and nothing was unfenced, each stop within the call or after it leaves an
-- image that stands for the graph for which it stood.
pub record IsKept (start left : Told) : Type 0 where
  pub size : left.size ≡ start.size
  pub stops : IsSettled start → KeepsItsGraph start left
