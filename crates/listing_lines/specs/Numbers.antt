-- Numbers in decimal with an optional minus.
use Rattle.std.specs.Prelude.{ℕ, ◌+◌, ◌-◌, ◌*◌, ◌==◌, ◌&&◌, nat_le, ℤ, pos, ◌-ℤ◌, int_le, Bool, List, [], ◌∷◌, Option, Some}
use Rattle.std.specs.Prelude.{None, if◌then◌else◌}
use Rattle.std.specs.Option.{option_map, option_and_then}

-- 0 to 9
abbrev pub is_digit : ℕ → Bool
is_digit b = nat_le 48 b && nat_le b 57

-- the number that digits spell, behind digits that spell one
unfoldable pub decimal_from : ℕ → List ℕ → Option ℕ
decimal_from before [] = Some before
decimal_from before (b ∷ rest) = if is_digit b then decimal_from (10 * before + (b - 48)) rest else None

-- at least one digit
abbrev pub decimal : List ℕ → Option ℕ
decimal [] = None
decimal (b ∷ rest) = decimal_from 0 (b ∷ rest)

abbrev pub minus : ℕ → ℤ
minus n = pos 0 -ℤ pos n

abbrev pub integer : List ℕ → Option ℤ
integer [] = None
integer (b ∷ rest) = if b == 45 then option_map minus (decimal rest) else option_map pos (decimal (b ∷ rest))

abbrev pub at_most : ℕ → ℕ → Option ℕ
at_most limit n = if nat_le n limit then Some n else None

abbrev pub within : ℤ → ℤ → ℤ → Option ℤ
within low high z = if int_le low z && int_le z high then Some z else None

-- the number that a word spells, where it is one from low to high
abbrev pub number : (low high : ℤ) → List ℕ → Option ℤ
number low high word = option_and_then (within low high) (integer word)
