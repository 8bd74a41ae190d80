-- What the commands `check` and `dump` print of an image, which told `start` when they began, and what they come to.
use Rattle.std.specs.Prelude.{◌≡◌, ◌≢◌, ◌<◌, ℕ, List, length, take, Option, Result, Ok, Err}
use Rattle.ap_base.specs.Sinks.{with_bytes}
use Rattle.graph_model.specs.declared.types.Graph.{Graph}
use Rattle.line_image.specs.Told.{Told}
use Rattle.line_memory.specs.Memory.{Memory}
use Rattle.directories.specs.Kept.{Kept}
use Rattle.image_layout.specs.Places.{first_object_line, version}
use Rattle.image_meaning.specs.Checks.{Words}
use Rattle.image_meaning.specs.Directories.{Directory}
use Rattle.image_meaning.specs.Logs.{put_back}
use Rattle.image_meaning.specs.Meaning.{StandsFor}
use Rattle.image_meaning.specs.Opening.{Finds, free_line}
use Rattle.image_recovery.specs.Checked.{undone_of}
use Rattle.image_opening.specs.declared.not_opened.NotOpened.{NotOpened}
use Rattle.image_opening.specs.Attached.{AreRead}
use Rattle.image_opening.specs.Opened.{IsOpenImage}
use Rattle.image_opening.specs.Unopened.{IsBadThere, IsUnopened}
use Rattle.image_report.specs.declared.not_reported.NotReported.{NotReported}
use Rattle.image_report.specs.declared.not_reported.NotReported.TheVariants.{Unopened, SinkFailed, OutOfMemory}
use Rattle.image_report.specs.Texts.{check_line, dump_lines}

-- ---- texts of an image whose lines had these words

-- `dump` prints the graph for which they stand
abbrev pub IsDumped : (size : ℕ) → Words → (text : List ℕ) → Type 0
IsDumped size words text = (graph : Graph) × StandsFor size words graph × (text ≡ dump_lines graph)

-- A blank image has the version with which it is formatted, and nothing is in use. Any other has that of its superblock; the first free
-- line is the one behind all objects that are found; and it is told how many of its logs had entries.
pub record IsNumbered (size : ℕ) (words : Words) (version_now free undone : ℕ) : Type 0 where
  pub blank : words 0 0 ≡ 0 → (version_now ≡ version) × (free ≡ first_object_line) × (undone ≡ 0)
  pub used : words 0 0 ≢ 0 → (version_now ≡ words 0 1) × (undone ≡ undone_of words)
  pub behind : words 0 0 ≢ 0 → (directory : Directory) × (lines : List ℕ)
      × Finds size words directory lines × (free ≡ free_line (put_back words) lines)

-- `check` prints such numbers, and how many roots and nodes the graph has for which they stand
pub record IsChecked (size : ℕ) (words : Words) (text : List ℕ) : Type 0 where
  pub graph : Graph
  pub stands : StandsFor size words graph
  pub version_now : ℕ
  pub free : ℕ
  pub undone : ℕ
  pub numbers : IsNumbered size words version_now free undone
  pub text_is : text ≡ check_line version_now size free (length graph.roots) (length graph.nodes) undone

-- ---- what is left of the image

-- It was opened, and given back as that left it: recovered, all durable, and no log counts an entry; a blank one is formatted.
pub record IsLeftOpen (start left : Told) : Type 0 where
  pub before : Memory
  pub memory : Memory
  pub version_now : ℕ
  pub directory : Kept
  pub graph : Graph
  pub lines : List ℕ
  pub free : ℕ
  pub undone : ℕ
  pub opened : IsOpenImage start before memory version_now directory graph lines free undone
  pub told : left ≡ memory.image

-- the image was opened, whatever came of its text
abbrev pub WasOpened : Result (Unit {0}) NotReported → Type 0
WasOpened (Err (Unopened why)) = ⊥
WasOpened other = Unit {0}

-- ---- what a sink took, that had taken so much before

-- all of the text of the words that reads of the image gave
pub record HasPrinted (Says : ℕ → Words → List ℕ → Type 0) (start : Told) (before after : Option (List ℕ)) : Type 0 where
  pub words : Words
  pub read : AreRead start words
  pub text : List ℕ
  pub says : Says start.size words text
  pub put : after ≡ with_bytes before text

-- a front of it
pub record HasPrintedFront (Says : ℕ → Words → List ℕ → Type 0) (start : Told) (before after : Option (List ℕ)) : Type 0 where
  pub words : Words
  pub read : AreRead start words
  pub text : List ℕ
  pub says : Says start.size words text
  pub many : ℕ
  pub less : many < length text
  pub put : after ≡ with_bytes before (take many text)

-- nothing: the image couldn't be opened, and is bad where it is told that it is
pub record HasNotOpened (start left : Told) (why : NotOpened) (before after : Option (List ℕ)) : Type 0 where
  pub unopened : IsUnopened start left why
  pub bad : IsBadThere start why
  pub none : after ≡ before

-- what was printed where a command didn't do its work
abbrev pub IsUnreported : (ℕ → Words → List ℕ → Type 0) → (start left : Told) → (before after : Option (List ℕ)) → NotReported → Type 0
IsUnreported Says start left before after (Unopened why) = HasNotOpened start left why before after
IsUnreported Says start left before after SinkFailed = HasPrintedFront Says start before after
IsUnreported Says start left before after OutOfMemory = after ≡ before
