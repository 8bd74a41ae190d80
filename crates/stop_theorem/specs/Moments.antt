-- All moments so far: a stop within a call leaves what the acts before that call allow.
use Rattle.std.specs.Prelude.{◌≡◌, ◌<◌, ◌≤◌, ◌^◌, ◌-◌, ℕ, List, All}
use Rattle.line_image.specs.Trace.{Outcome, trace_within}
use Rattle.line_memory.specs.Memory.{Memory}
use Rattle.line_memory.specs.Moments.{CountsFrom, EachMoment}
use Rattle.run_history.specs.Recorded.{Recorded}
use Rattle.run_history.specs.Kept.{acts_before}

-- Since the memory was as at the start its image goes on: the moments before are as they were, and each stop
-- within a call since then left what the acts before that call allow. `Allows` says of acts and words whether
-- the acts allow them.
pub record IsSafe (Allows : List Recorded → Outcome → Type 0) (begin : ℕ) (start : Memory)
    (acts : List Recorded) (m : Memory) : Type 0 where
  pub counts : CountsFrom begin m
  pub later : start.image.calls ≤ m.image.calls
  pub more : start.calls ≤ m.calls
  pub made : All (λ (a : Recorded). a.act.at ≤ m.calls) acts
  pub late : All (λ (a : Recorded). start.calls ≤ a.act.at) acts
  pub before : (n : ℕ) → n ≤ start.image.calls → n < 2 ^ 64 - 1
      → trace_within n m.image.trace ≡ trace_within n start.image.trace
  pub within : EachMoment begin m (λ n c. start.calls < n → Allows (acts_before n acts) c)
