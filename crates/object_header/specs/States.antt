-- The words of states.
use Rattle.std.specs.Prelude.{ℕ, ◌+◌, ◌*◌, ◌<◌, ◌^◌}
use Rattle.object_header.specs.declared.state.State.{State}
use Rattle.object_header.specs.declared.state.State.TheVariants.{Ordinary, Claimed, Copying, Converted, Durable}

-- The word of a state: its kind in the three lowest bits, its thread in the next six, its line in the 32 highest ones.
abbrev pub header_word : State → ℕ
header_word Ordinary = 0
header_word (Claimed t) = 1 + 8 * t
header_word (Copying t line) = 2 + 8 * t + 2 ^ 32 * line
header_word (Converted t line) = 3 + 8 * t + 2 ^ 32 * line
header_word (Durable line) = 4 + 2 ^ 32 * line

-- Its thread is one of 64, and its line a number of 32 bits.
abbrev pub IsState : State → Type 0
IsState Ordinary = Unit {0}
IsState (Claimed t) = t < 64
IsState (Copying t line) = (t < 64) × (line < 2 ^ 32)
IsState (Converted t line) = (t < 64) × (line < 2 ^ 32)
IsState (Durable line) = line < 2 ^ 32
