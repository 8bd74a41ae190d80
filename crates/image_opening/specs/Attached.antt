-- The memory of an image that was attached, and fenced before all else.
use Rattle.std.specs.Prelude.{◌≡◌, ◌+◌, ◌<◌, ◌≤◌, ℕ}
use Rattle.line_image.specs.Told.{Told}
use Rattle.line_image.specs.Trace.{IsAllFenced, LeavesNow}
use Rattle.line_memory.specs.Memory.{Memory, ReadsWord, IsTelling, shown}
use Rattle.line_memory.specs.Moments.{Goes, CountsFrom}
use Rattle.image_layout.specs.Places.{min_lines, max_lines}
use Rattle.image_meaning.specs.Checks.{Words}
use Rattle.word_changes.specs.Changes.{AllKnown}
use Rattle.image_recovery.specs.Putting.{AllDurable}

-- these are the words that reads of the image give
abbrev pub AreRead : Told → Words → Type 0
AreRead start words = (l w : ℕ) → l < start.size → ReadsWord start.trace l w (words l w)

-- the image tells what is done to it, and nothing is unfenced
abbrev pub IsSettled : Told → Type 0
IsSettled start = IsTelling start.trace × IsAllFenced start.trace

-- It has read each line, and then fenced: what was written before and not fenced is durable as it was read.
-- It shows what reads gave at the start. Each stop so far, also one within the fence, left what one at the
-- start would have.
pub record IsAttached (start : Told) (m : Memory) : Type 0 where
  pub size : m.size ≡ start.size
  pub enough : min_lines ≤ m.size
  pub most : m.size ≤ max_lines
  pub known : AllKnown m
  pub shows : AreRead start (shown m)
  pub counts : CountsFrom start.calls m
  pub calls : m.calls ≡ start.size + 1
  pub moments : Goes start m.image (LeavesNow start.trace)
  pub telling : IsTelling start.trace → IsTelling m.image.trace
  pub durable : IsTelling start.trace → AllDurable m
