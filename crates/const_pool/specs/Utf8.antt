-- Modified UTF-8 (JVMS 4.4.7): a text is a list of UTF-16 code units, each of which has one spelling.
use Rattle.std.specs.Prelude.{◌≡◌, ℕ, zero, suc, ◌+◌, ◌-◌, ◌/◌, ◌%◌, ◌<◌, ◌^◌, List, [], ◌∷◌, Option, Some, None, Bool, false}
use Rattle.std.specs.Prelude.{◌&&◌, ◌||◌, ◌==◌, nat_le, nat_lt, if◌then◌else◌}
use Rattle.std.specs.List.{flat_map, AllByRecursion}
use Rattle.std.specs.Option.{option_map_or}

-- The bytes of a code unit: one from 1 to 7F, two up to 7FF and for 0, three beyond. A character past
-- FFFF is two units, its surrogates.
abbrev pub unit_bytes : ℕ → List ℕ
unit_bytes u =
    if nat_lt 0 u && nat_lt u 0x80 then u ∷ []
    else (if nat_lt u 0x800 then (0xC0 + u / 64) ∷ (0x80 + u % 64) ∷ []
    else (0xE0 + u / 4096) ∷ (0x80 + u / 64 % 64) ∷ (0x80 + u % 64) ∷ [])

abbrev pub IsUnit : ℕ → Type 0
IsUnit u = u < 2 ^ 16

abbrev pub units_bytes : List ℕ → List ℕ
units_bytes units = flat_map unit_bytes units

-- the bytes spell some code units
abbrev pub IsModifiedUtf8 : List ℕ → Type 0
IsModifiedUtf8 bytes = (units : List ℕ) × AllByRecursion IsUnit units × (bytes ≡ units_bytes units)

-- ---- the bytes of one unit, by their ranges

abbrev pub is_within : ℕ → ℕ → ℕ → Bool
is_within low high b = nat_le low b && nat_le b high

abbrev pub begins_one : List ℕ → Bool
begins_one (a ∷ rest) = is_within 0x01 0x7F a
begins_one [] = false

abbrev pub begins_two : List ℕ → Bool
begins_two (a ∷ b ∷ rest) = (a == 0xC0 && b == 0x80) || (is_within 0xC2 0xDF a && is_within 0x80 0xBF b)
begins_two _ = false

abbrev pub begins_three : List ℕ → Bool
begins_three (a ∷ b ∷ c ∷ rest) =
    ((a == 0xE0 && is_within 0xA0 0xBF b) || (is_within 0xE1 0xEF a && is_within 0x80 0xBF b))
    && is_within 0x80 0xBF c
begins_three _ = false

-- how many bytes the unit at the front has, where one stands there
unfoldable pub char_len : List ℕ → Option ℕ
char_len bytes =
    if begins_one bytes then Some 1
    else (if begins_two bytes then Some 2 else (if begins_three bytes then Some 3 else None))

-- The place of the first byte at which a unit should begin and none does. The first byte is at the place
-- `at`, and `inside` bytes of a unit that began before are still to come.
unfoldable pub bad_place : ℕ → ℕ → List ℕ → Option ℕ
bad_place at inside [] = None
bad_place at (suc inside) (b ∷ rest) = bad_place (at + 1) inside rest
bad_place at zero (b ∷ rest) =
    option_map_or (λ len. bad_place (at + 1) (len - 1) rest) (char_len (b ∷ rest)) (Some at)
