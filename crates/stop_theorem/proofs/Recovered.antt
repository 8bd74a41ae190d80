-- Stopped recoveries.
use Rattle.std.proofs.Common.{ℕ, List}
use Rattle.line_image.specs.Trace.{Outcome}
use Rattle.image_meaning.specs.Directories.{Directory}
use Rattle.image_meaning.specs.Recovering.{IsRecovering}
use Rattle.image_meaning.proofs.Stopped.{opens-still, stopped-stands}
use Rattle.run_history.specs.Knowing.{Knowledge}
use Rattle.run_history.specs.Recorded.{Recorded}
use Rattle.stop_theorem.specs.Stops.{IsAllowedImage}

pub recovered_allowed : (first : Knowledge) (size : ℕ) (directory : Directory) (acts : List Recorded) (c d : Outcome)
    → IsAllowedImage first size directory acts c → IsRecovering c d → IsAllowedImage first size directory acts d
recovered_allowed first size directory acts c d image r = record {
  opens = opens-still size c d directory image.opens r;
  graph = image.graph;
  stands = stopped-stands size c d image.graph image.opens.used image.stands r;
  allowed = image.allowed;
}
