-- The outcome of a stop that a number picks.
use Rattle.std.specs.Prelude.{ℕ, zero, suc, ◌+◌, ◌-◌, ◌*◌, ◌/◌, ◌%◌, ◌^◌, List, [], get_or, slice_index, reverse, length}
use Rattle.std.specs.Prelude.{if◌then◌else◌, ◌==◌, nat_lt}
use Rattle.line_image.specs.Trace.{Trace, versions}

-- the next state of the generator (Knuth, The Art of Computer Programming, volume 2, section 3.3.4, MMIX)
unfoldable pub next_state : ℕ → ℕ
next_state s = (s * 6364136223846793005 + 1442695040888963407) % 2 ^ 64

-- the state after so many steps
unfoldable pub state_after : ℕ → ℕ → ℕ
state_after s zero = s
state_after s (suc n) = next_state (state_after s n)

-- The number of the version that is taken, of so many, the fenced one first: 0 takes the fenced one, 1 the
-- latest one, and any other number what the generator says.
abbrev pub choice : ℕ → ℕ → ℕ → ℕ
choice pick count state = if pick == 0 then 0 else (if pick == 1 then count - 1 else (state / 2 ^ 33) % count)

-- the word of the version that is taken, of these with the fenced one first, where the generator stands at
-- `state` before the line
abbrev pub version_word : List (List ℕ) → ℕ → ℕ → ℕ → ℕ
version_word versions pick state w =
    slice_index (get_or versions (choice pick (length versions) (state_after state (w + 1))) []) w

-- where the generator stands behind a line of these versions: it goes on at each word of a line that was
-- written since the last fence
abbrev pub state_past : List (List ℕ) → ℕ → ℕ
state_past versions state = if nat_lt 1 (length versions) then state_after state 8 else state

-- where it stands before a line: it begins with the number, and takes the lines in order
unfoldable pub state_at : ℕ → Trace → ℕ → ℕ
state_at pick h zero = pick
state_at pick h (suc l) = state_past (versions h l) (state_at pick h l)

-- the word that is left
unfoldable pub word_left : ℕ → Trace → ℕ → ℕ → ℕ
word_left pick h l w = version_word (reverse (versions h l)) pick (state_at pick h l) w

-- a word of the lines as they were first
abbrev pub first_word : Trace → ℕ → ℕ → ℕ
first_word h l w = slice_index (get_or h.first l []) w
