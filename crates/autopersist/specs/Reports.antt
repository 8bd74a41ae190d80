-- What the commands say that open an image and print what is in it: `check` and `dump`.
use Rattle.std.specs.Prelude.{◌≡◌, ◌⊎◌, ℕ, List, [], Option, Result, Ok, Err}
use Rattle.line_image.specs.Told.{Told}
use Rattle.image_meaning.specs.Checks.{Words}
use Rattle.image_opening.specs.Attached.{IsSettled}
use Rattle.image_opening.specs.Stops.{KeepsItsGraph}
use Rattle.image_opening.specs.Unopened.{IsUnopened}
use Rattle.image_opening.specs.declared.not_opened.NotOpened.TheVariants as unopened
use Rattle.image_report.specs.Reports.{HasNotOpened, HasPrinted, HasPrintedFront, IsLeftOpen}
use Rattle.image_report.specs.declared.not_reported.NotReported.{NotReported}
use Rattle.image_report.specs.declared.not_reported.NotReported.TheVariants.{Unopened, SinkFailed, OutOfMemory}
use Rattle.run_history.specs.Recorded.{Recorded}
use Rattle.statuses.specs.declared.status.Status.{Status}
use Rattle.statuses.specs.declared.status.Status.TheVariants as status
use Rattle.autopersist.specs.Outside.{Outside}

abbrev pub status_of_report : Result (Unit {0}) NotReported → Status
status_of_report (Ok done) = status.Ok
status_of_report (Err (Unopened (unopened.BadImage line reason))) = status.BadImage line reason
status_of_report (Err (Unopened unopened.ImageFailed)) = status.ImageFault
status_of_report (Err (Unopened unopened.OutOfMemory)) = status.OutOfMemory
status_of_report (Err SinkFailed) = status.SinkFault
status_of_report (Err OutOfMemory) = status.OutOfMemory

-- What was printed, and why no more, where `Says` tells the text of an image by its number of lines and their words: all of it, a front
-- of it where the sink failed, and otherwise nothing. Memory runs out as the image is opened, or behind that: then it is left as opening left it.
abbrev pub IsReport : (Says : ℕ → Words → List ℕ → Type 0) → (start left : Told) → (takes takes' : Option (List ℕ)) → Status → Type 0
IsReport Says start left takes takes' status.Ok = HasPrinted Says start takes takes'
IsReport Says start left takes takes' status.SinkFault = HasPrintedFront Says start takes takes'
IsReport Says start left takes takes' (status.BadImage line reason) = HasNotOpened start left (unopened.BadImage line reason) takes takes'
IsReport Says start left takes takes' status.ImageFault = HasNotOpened start left unopened.ImageFailed takes takes'
IsReport Says start left takes takes' status.OutOfMemory = (takes' ≡ takes) × (IsUnopened start left unopened.OutOfMemory ⊎ IsLeftOpen start left)
IsReport Says start left takes takes' other = ⊥

-- something was put, or all of it
abbrev pub IsOfPut : Status → Type 0
IsOfPut status.Ok = Unit {0}
IsOfPut status.SinkFault = Unit {0}
IsOfPut other = ⊥

-- The image was opened, and this printed of it. The source wasn't asked.
pub record Reports (Says : ℕ → Words → List ℕ → Type 0) (before after : Outside) (SameSource : Type 0) (how : Status) (acts : List Recorded)
    : Type 0 where
  pub unasked : SameSource
  pub unrun : acts ≡ []
  pub report : IsReport Says before.image after.image before.taken after.taken how
  -- where anything was printed, the image is left as opening it left it: recovered, and formatted where it was blank
  pub left : IsOfPut how → IsLeftOpen before.image after.image
  -- At any stop the image stands for the graph for which it stood, whatever is answered.
  pub stops : IsSettled before.image → KeepsItsGraph before.image after.image
