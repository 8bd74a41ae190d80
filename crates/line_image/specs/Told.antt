-- What a device says of itself at a moment.
use Rattle.std.specs.Prelude.{◌≡◌, ◌<◌, ◌≤◌, ◌^◌, ℕ, Option, Some, None, All, length}
use Rattle.line_image.specs.Trace.{Trace}
use Rattle.line_image.specs.declared.effect.Effect.{Effect}

-- How many lines it has, how many calls were made, reads among them, and its writes and fences, where it tells
-- them. The count of the calls stays at 2^64 - 1.
pub record Told : Type 0 where
  pub size : ℕ
  pub calls : ℕ
  pub trace : Option Trace

-- The device was first of so many lines of eight words, and all was done in its calls so far.
pub record IsInOrder (size calls : ℕ) (h : Trace) : Type 0 where
  pub lines : length h.first ≡ size
  pub eights : All (λ line. length line ≡ 8) h.first
  pub so_far : All (λ (effect : Effect). effect.at ≤ calls) h.done

abbrev pub InOrder : ℕ → ℕ → Option Trace → Type 0
InOrder size calls None = Unit {0}
InOrder size calls (Some h) = IsInOrder size calls h

-- the number of calls fits 64 bits, and what is told is in order
pub record IsCounted (told : Told) : Type 0 where
  pub fits : told.calls < 2 ^ 64
  pub order : InOrder told.size told.calls told.trace
