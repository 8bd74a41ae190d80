-- Numbers among words: 1 to 12 decimal digits, without a sign.
use Rattle.std.specs.Prelude.{ℕ, ◌+◌, ◌*◌, ◌-◌, ◌&&◌, nat_le, Bool, List, [], ◌∷◌, length, Option, Some, None, if◌then◌else◌}
use Rattle.command_words.specs.declared.numbers.Range.{Range}

abbrev pub is_digit : ℕ → Bool
is_digit byte = nat_le 48 byte && nat_le byte 57

-- the number that digits spell behind those that spell the one before
unfoldable pub digits_from : ℕ → List ℕ → Option ℕ
digits_from before [] = Some before
digits_from before (byte ∷ rest) = if is_digit byte then digits_from (10 * before + (byte - 48)) rest else None

abbrev pub number_of : List ℕ → Option ℕ
number_of text = if nat_le 1 (length text) && nat_le (length text) 12 then digits_from 0 text else None

abbrev pub kept_in : ℕ → ℕ → Option ℕ → Option ℕ
kept_in least most None = None
kept_in least most (Some number) = if nat_le least number && nat_le number most then Some number else None

-- the number that a text spells, where it is from the least to the most
abbrev pub number_in : ℕ → ℕ → List ℕ → Option ℕ
number_in least most text = kept_in least most (number_of text)

-- the number of an option that need not be given
abbrev pub number_or : Range → Option (List ℕ) → Option ℕ
number_or range None = Some range.default
number_or range (Some text) = number_in range.least range.most text

-- host threads
abbrev pub workers_range : Range
workers_range = record { least = 1; most = 64; default = 4 }

-- lines of a new image file
abbrev pub lines_range : Range
lines_range = record { least = 32768; most = 4194304; default = 262144 }

-- words of volatile memory
abbrev pub heap_range : Range
heap_range = record { least = 1024; most = 134217728; default = 8388608 }

-- acts of a run
abbrev pub acts_range : Range
acts_range = record { least = 1; most = 16777216; default = 1048576 }

-- nodes that each thread of the workload makes: at least one, and at most
abbrev pub most_nodes : ℕ
most_nodes = 5000
