-- Fields of a file. A place in it is the offset from the file's start and the bytes from there on.
use Rattle.std.specs.Prelude.{ℕ, ◌+◌, List, length, take, drop, Result, Ok, Err, nat_lt, if◌then◌else◌}
use Rattle.byteorder.specs.Endian.{big_number}
use Rattle.parsing.specs.declared.cut.Cut.{Cut}
use Rattle.parsing.specs.Results.{◌>>=◌}

abbrev pub Place : Type 0
Place = ℕ × List ℕ

-- a field of n bytes, and the file after it
unfoldable pub field_at : ℕ → Place → Result (List ℕ × Place) Cut
field_at n file =
    if nat_lt (length file.1) n then Err (record { at = file.0 })
    else Ok (take n file.1, (file.0 + n, drop n file.1))

-- a number of n bytes, the highest first
unfoldable pub number_at : ℕ → Place → Result (ℕ × Place) Cut
number_at n file = do
  field ← field_at n file
  Ok (big_number n field.0, field.1)
