-- What a thread's seat knows.
use Rattle.std.specs.Prelude.{◌≡◌, ℕ, Bool, true, false, Option, Some}
use Rattle.run_history.specs.declared.act.Act.{Act}
use Rattle.run_forms.specs.Views.{ThreadFrames}
use Rattle.turnstile.specs.declared.kept.Kept.{Ghosts}
use Rattle.turnstile.specs.declared.pass.Pass.{Pass}
use Rattle.turnstile.specs.Passes.{TurnstileId, IsIdle, number_of, part_of, pass_id}
use Rattle.workers.specs.Held.{Began}
use Rattle.workers.specs.Shared.{IsOfRun}
use Rattle.workers.specs.declared.seat.Stage.{Stage}
use Rattle.workers.specs.declared.seat.Stage.TheVariants.{Unseen, Fresh, Asked, Ended}

-- whether a thread that is so far lives, as its host thread knows
abbrev pub runs : Stage → Bool
runs Unseen = false
runs Fresh = true
runs Asked = true
runs Ended = false

-- whether its frames are those that it left last
abbrev pub has_note : Stage → Bool
has_note Unseen = true
has_note Fresh = true
has_note Asked = true
has_note Ended = false

-- The pass is of this turnstile, idle, and the thread's own. Until the thread has ended its frames are those that it left last; once it
-- lives they are of the run's program.
pub record Sits {T : Type 0} {G : Ghosts T Act ThreadFrames} (turnstile : Option TurnstileId) (entry : Option Began)
    (thread : ℕ) (pass : Pass T Act ThreadFrames G) (frames : ThreadFrames) (stage : Stage) : Type 0 where
  pub of : turnstile ≡ Some (pass_id pass)
  pub idle : IsIdle pass
  pub number : number_of pass ≡ thread
  pub left : has_note stage ≡ true → part_of pass ≡ Some frames
  pub program : runs stage ≡ true → IsOfRun entry frames
