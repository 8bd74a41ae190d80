-- The objects of string literals, by number.
use Rattle.std.specs.Prelude.{ℕ, ◌+◌, List, slice_get, unwrap_or, nat_lt, if◌then◌else◌}
use Rattle.ap_base.specs.declared.reference.Ref.{Ref}
use Rattle.ap_base.specs.declared.reference.Ref.TheVariants.{Persistent, Volatile}

-- For a number past the table a reference of no object, another one for each number: lines and words from
-- 2^31 on, of which no heap has any.
abbrev pub spare : ℕ → Ref
spare k = if nat_lt k 2147483648 then Persistent (k + 2147483648) else Volatile k

abbrev pub literal_in : List Ref → ℕ → Ref
literal_in literals k = unwrap_or (slice_get literals k) (spare k)
