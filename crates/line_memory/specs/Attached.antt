-- An image whose lines were read, each once, and one that is given back.
use Rattle.std.specs.Prelude.{◌≡◌, ◌⊎◌, ◌↔◌, ◌<◌, ◌≤◌, ℕ}
use Rattle.ap_base.specs.Causes.{IsCauseOf}
use Rattle.line_image.specs.Trace.{LeavesNow, IsAllFenced}
use Rattle.line_image.specs.Told.{Told}
use Rattle.line_memory.specs.Memory.{Memory, shown, IsKnown, ReadsWord, IsDurable}
use Rattle.line_memory.specs.Moments.{Goes, CountsFrom}
use Rattle.line_memory.specs.declared.attach.AttachFault.{AttachFault}
use Rattle.line_memory.specs.declared.attach.AttachFault.TheVariants.{Size, ImageFailed}

-- A memory of all lines of an image, from what the image told and how often it had failed before.
pub record Attaches (image : Told) (faults : ℕ) (m : Memory) : Type 0 where
  pub size : m.size ≡ image.size
  pub range : (32768 ≤ m.size) × (m.size ≤ 4194304)
  pub known : (l : ℕ) → l < m.size → IsKnown m l
  pub shows : (l w : ℕ) → l < m.size → ReadsWord image.trace l w (shown m l w)
  pub durable : IsAllFenced image.trace → (l w : ℕ) → l < m.size → IsDurable m l w
  pub trace : m.image.trace ≡ image.trace
  pub calls : m.calls ≡ image.size
  pub counts : CountsFrom image.calls m
  pub any_moment : Goes image m.image (LeavesNow image.trace)
  pub spared : m.faults ≡ faults

-- The image given back with the fault, and what it tells and how often it has failed by then.
pub record GivesBack (image : Told) (faults : ℕ) (fault : AttachFault) (back : Told) (faults_back : ℕ) : Type 0 where
  pub size_fault : fault ≡ Size ↔ ((image.size < 32768) ⊎ (4194304 < image.size))
  pub cause : IsCauseOf ImageFailed fault faults faults_back
  pub same_size : back.size ≡ image.size
  pub same_trace : back.trace ≡ image.trace
  pub any_moment : Goes image back (LeavesNow image.trace)
