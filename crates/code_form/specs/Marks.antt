-- Where a table says that an instruction begins.
use Rattle.std.specs.Prelude.{◌≡◌, ℕ, Bool, false, List, slice_index_or}
use Rattle.code_form.specs.declared.ins.Placed.{Placed}
use Rattle.code_form.specs.Spelling.{is_start}

abbrev pub is_marked : List Bool → ℕ → Bool
is_marked marks pc = slice_index_or marks pc false

-- the table says so of exactly the places where an instruction of the code begins
abbrev pub AreMarksOf : List Placed → List Bool → Type 0
AreMarksOf code marks = (pc : ℕ) → is_marked marks pc ≡ is_start code pc
