-- Rows of the JVMS: instructions, the cells before them, and what they did and left (JVMS 6.5). Stacks are
-- written with the top first.
use Rattle.std.specs.Prelude.{◌≡◌, ℕ, Bool, nat_eq, ℤ, pos, negsuc, List, [], ◌∷◌, map}
use Rattle.code_form.specs.declared.ins.Binary.{Binary}
use Rattle.code_form.specs.declared.ins.Binary.TheVariants.{Add, Subtract, Multiply, Divide, Remainder, And, Or, Xor}
use Rattle.code_form.specs.declared.ins.Case.{Case}
use Rattle.code_form.specs.declared.ins.Condition.TheVariants as is
use Rattle.code_form.specs.declared.ins.Conversion.{Conversion}
use Rattle.code_form.specs.declared.ins.Conversion.TheVariants.{IntToLong, LongToInt, IntToByte, IntToChar, IntToShort}
use Rattle.code_form.specs.declared.ins.Equality.TheVariants as equality
use Rattle.code_form.specs.declared.ins.Number.TheVariants as number
use Rattle.code_form.specs.declared.ins.Shift.{Shift}
use Rattle.code_form.specs.declared.ins.Shift.TheVariants.{Left, Right, UnsignedRight}
use Rattle.code_form.specs.declared.ins.Sort.TheVariants as sort
use Rattle.code_form.specs.declared.ins.Stack.{Stack}
use Rattle.code_form.specs.declared.ins.Stack.TheVariants.{Pop, Pop2, Dup, DupX1, DupX2, Dup2, Dup2X1, Dup2X2, Swap}
use Rattle.frame_cells.specs.declared.cell.Cell.{Cell}
use Rattle.frame_cells.specs.declared.cell.Cell.TheVariants.{Empty, Int, Long, Half, Reference}
use Rattle.frame_cells.specs.declared.cell.Did.TheVariants.{Next, Jump, DividedByZero, Bad}
use Rattle.frame_cells.specs.Own.{Own, After, stays}
use Rattle.frame_cells.specs.Families.{pushes, pushes_long, loads, stores, increments, combines, negates, shifts, converts}
use Rattle.frame_cells.specs.Families.{compares, branches, branches_on_two, branches_on_null, switches, looks_up, rearranges}

-- references are numbers here, and 0 is null
abbrev pub Cells : Type 0
Cells = List (Cell ℕ)

abbrev pub Instruction : Type 0
Instruction = Own ℕ → After ℕ

-- an instruction, the frame before it, and what comes of it
abbrev pub Row : Type 0
Row = Instruction × Own ℕ × After ℕ

abbrev pub AreRows : List Row → Type 0
AreRows rows = map (λ row. row.0 row.1) rows ≡ map (λ row. row.2) rows

-- a frame whose stack may have six cells
abbrev pub frame : Cells → Cells → Own ℕ
frame locals stack = record { locals = locals; stack = stack; room = 6 }

abbrev pub only : Cells → Own ℕ
only stack = frame [] stack

abbrev pub changes : Instruction → Own ℕ → Own ℕ → Row
changes i before after = (i, before, stays Next after)

-- an instruction that leaves these cells of the stack in place of those
abbrev pub leaves : Instruction → Cells → Cells → Row
leaves i before after = changes i (only before) (only after)

abbrev pub jumps : Instruction → Cells → ℕ → Row
jumps i before target = (i, only before, stays (Jump target) (only []))

abbrev pub is_bad : Instruction → Own ℕ → Row
is_bad i own = (i, own, stays Bad own)

-- the least and the greatest int and long
abbrev pub least_int : ℤ
least_int = negsuc 2147483647

abbrev pub greatest_int : ℤ
greatest_int = pos 2147483647

abbrev pub least_long : ℤ
least_long = negsuc 9223372036854775807

abbrev pub greatest_long : ℤ
greatest_long = pos 9223372036854775807

abbrev pub minus_one : ℤ
minus_one = negsuc 0

abbrev pub long : ℤ → Cells
long v = Half ∷ Long v ∷ []

-- cells that differ
abbrev pub a : Cell ℕ
a = Int (pos 1)

abbrev pub b : Cell ℕ
b = Reference 2

abbrev pub c : Cell ℕ
c = Int (pos 3)

abbrev pub d : Cell ℕ
d = Reference 4

abbrev pub l : Cell ℕ
l = Long (pos 5)

abbrev pub m : Cell ℕ
m = Long (pos 6)

-- two numbers, and what they give
abbrev pub of_ints : Binary → ℤ → ℤ → ℤ → Row
of_ints o x y z = leaves (combines number.Int o) (Int y ∷ Int x ∷ []) (Int z ∷ [])

abbrev pub of_longs : Binary → ℤ → ℤ → ℤ → Row
of_longs o x y z = leaves (combines number.Long o) (Half ∷ Long y ∷ Half ∷ Long x ∷ []) (long z)

abbrev pub divides_by_zero : Instruction → Cells → Row
divides_by_zero i stack = (i, only stack, stays DividedByZero (only stack))

-- they wrap, division rounds to 0, and a remainder has the sign of what is divided
abbrev pub arithmetic : List Row
arithmetic =
    of_ints Add greatest_int (pos 1) least_int ∷
    of_ints Subtract least_int (pos 1) greatest_int ∷
    of_ints Multiply (pos 65536) (pos 65536) (pos 0) ∷
    of_ints Multiply (pos 46341) (pos 46341) (negsuc 2147479014) ∷
    of_ints Divide least_int minus_one least_int ∷
    of_ints Remainder least_int minus_one (pos 0) ∷
    of_ints Divide (negsuc 6) (pos 2) (negsuc 2) ∷
    of_ints Divide (pos 7) (negsuc 1) (negsuc 2) ∷
    of_ints Remainder (negsuc 6) (pos 3) minus_one ∷
    of_ints Remainder (pos 7) (negsuc 2) (pos 1) ∷
    of_ints And minus_one (pos 255) (pos 255) ∷
    of_ints Or (negsuc 255) (pos 15) (negsuc 240) ∷
    of_ints Xor minus_one (pos 1) (negsuc 1) ∷
    of_longs Add greatest_long (pos 1) least_long ∷
    of_longs Subtract (pos 0) (pos 2147483648) (negsuc 2147483647) ∷
    of_longs Multiply (pos 4294967296) (pos 4294967296) (pos 0) ∷
    of_longs Divide least_long minus_one least_long ∷
    of_longs Remainder least_long minus_one (pos 0) ∷
    of_longs Remainder (negsuc 6) (pos 3) minus_one ∷
    of_longs And minus_one (pos 4294967295) (pos 4294967295) ∷
    of_longs Or (pos 4294967296) (pos 5) (pos 4294967301) ∷
    of_longs Xor minus_one (pos 4294967296) (negsuc 4294967296) ∷
    leaves (negates number.Int) (Int least_int ∷ []) (Int least_int ∷ []) ∷
    leaves (negates number.Int) (Int (pos 5) ∷ []) (Int (negsuc 4) ∷ []) ∷
    leaves (negates number.Long) (long least_long) (long least_long) ∷
    divides_by_zero (combines number.Int Divide) (Int (pos 0) ∷ Int (pos 1) ∷ []) ∷
    divides_by_zero (combines number.Int Remainder) (Int (pos 0) ∷ Int least_int ∷ []) ∷
    divides_by_zero (combines number.Long Divide) (Half ∷ Long (pos 0) ∷ Half ∷ Long (pos 1) ∷ []) ∷
    divides_by_zero (combines number.Long Remainder) (Half ∷ Long (pos 0) ∷ Half ∷ m ∷ []) ∷ []

abbrev pub shifts_int : Shift → ℤ → ℤ → ℤ → Row
shifts_int o x n y = leaves (shifts number.Int o) (Int n ∷ Int x ∷ []) (Int y ∷ [])

abbrev pub shifts_long : Shift → ℤ → ℤ → ℤ → Row
shifts_long o x n y = leaves (shifts number.Long o) (Int n ∷ Half ∷ Long x ∷ []) (long y)

abbrev pub gives_int : Conversion → ℤ → ℤ → Row
gives_int o x y = leaves (converts o) (Int x ∷ []) (Int y ∷ [])

abbrev pub in_order : ℤ → ℤ → ℤ → Row
in_order x y z = leaves compares (Half ∷ Long y ∷ Half ∷ Long x ∷ []) (Int z ∷ [])

-- of a distance the lowest five bits count, for a long six; conversions keep the lowest bits
abbrev pub shifted : List Row
shifted =
    shifts_int Left (pos 1) (pos 33) (pos 2) ∷
    shifts_int Left (pos 1) minus_one least_int ∷
    shifts_int Right (negsuc 7) (pos 1) (negsuc 3) ∷
    shifts_int Right minus_one (pos 31) minus_one ∷
    shifts_int UnsignedRight minus_one (pos 28) (pos 15) ∷
    shifts_int UnsignedRight minus_one (pos 32) minus_one ∷
    shifts_long Left (pos 1) (pos 33) (pos 8589934592) ∷
    shifts_long Left (pos 1) (pos 65) (pos 2) ∷
    shifts_long Left (pos 1) minus_one least_long ∷
    shifts_long Right (negsuc 7) (pos 2) (negsuc 1) ∷
    shifts_long UnsignedRight minus_one (pos 60) (pos 15) ∷
    gives_int IntToByte (pos 200) (negsuc 55) ∷
    gives_int IntToByte (negsuc 128) (pos 127) ∷
    gives_int IntToChar minus_one (pos 65535) ∷
    gives_int IntToShort (pos 40000) (negsuc 25535) ∷
    leaves (converts IntToLong) (Int least_int ∷ []) (long (negsuc 2147483647)) ∷
    leaves (converts LongToInt) (long (pos 4294967301)) (Int (pos 5) ∷ []) ∷
    leaves (converts LongToInt) (long (pos 2147483648)) (Int least_int ∷ []) ∷
    in_order (pos 1) (pos 2) minus_one ∷
    in_order (pos 2) (pos 1) (pos 1) ∷
    in_order minus_one minus_one (pos 0) ∷
    in_order least_long greatest_long minus_one ∷ []

abbrev pub moves : Stack → Cells → Cells → Row
moves form before after = leaves (rearranges form) before after

abbrev pub cuts : Stack → Cells → Row
cuts form stack = is_bad (rearranges form) (only stack)

-- all forms of each instruction, with longs in each place that may have one, and what would cut a long
abbrev pub forms : List Row
forms =
    moves Pop (a ∷ b ∷ []) (b ∷ []) ∷
    moves Pop2 (a ∷ b ∷ c ∷ []) (c ∷ []) ∷
    moves Pop2 (Half ∷ l ∷ c ∷ []) (c ∷ []) ∷
    moves Dup (a ∷ b ∷ []) (a ∷ a ∷ b ∷ []) ∷
    moves DupX1 (a ∷ b ∷ c ∷ []) (a ∷ b ∷ a ∷ c ∷ []) ∷
    moves DupX2 (a ∷ b ∷ c ∷ d ∷ []) (a ∷ b ∷ c ∷ a ∷ d ∷ []) ∷
    moves DupX2 (a ∷ Half ∷ l ∷ d ∷ []) (a ∷ Half ∷ l ∷ a ∷ d ∷ []) ∷
    moves Dup2 (a ∷ b ∷ c ∷ []) (a ∷ b ∷ a ∷ b ∷ c ∷ []) ∷
    moves Dup2 (Half ∷ l ∷ c ∷ []) (Half ∷ l ∷ Half ∷ l ∷ c ∷ []) ∷
    moves Dup2X1 (a ∷ b ∷ c ∷ []) (a ∷ b ∷ c ∷ a ∷ b ∷ []) ∷
    moves Dup2X1 (Half ∷ l ∷ c ∷ []) (Half ∷ l ∷ c ∷ Half ∷ l ∷ []) ∷
    moves Dup2X2 (a ∷ b ∷ c ∷ d ∷ []) (a ∷ b ∷ c ∷ d ∷ a ∷ b ∷ []) ∷
    moves Dup2X2 (Half ∷ l ∷ c ∷ d ∷ []) (Half ∷ l ∷ c ∷ d ∷ Half ∷ l ∷ []) ∷
    moves Dup2X2 (a ∷ b ∷ Half ∷ l ∷ []) (a ∷ b ∷ Half ∷ l ∷ a ∷ b ∷ []) ∷
    moves Dup2X2 (Half ∷ l ∷ Half ∷ m ∷ []) (Half ∷ l ∷ Half ∷ m ∷ Half ∷ l ∷ []) ∷
    moves Swap (a ∷ b ∷ c ∷ []) (b ∷ a ∷ c ∷ []) ∷
    cuts Pop (Half ∷ l ∷ []) ∷
    cuts Pop2 (a ∷ Half ∷ l ∷ []) ∷
    cuts Dup (Half ∷ l ∷ []) ∷
    cuts DupX1 (Half ∷ l ∷ a ∷ []) ∷
    cuts DupX1 (a ∷ Half ∷ l ∷ []) ∷
    cuts DupX2 (Half ∷ l ∷ a ∷ []) ∷
    cuts DupX2 (a ∷ b ∷ Half ∷ l ∷ []) ∷
    cuts Dup2 (a ∷ Half ∷ l ∷ []) ∷
    cuts Dup2X1 (a ∷ Half ∷ l ∷ []) ∷
    cuts Dup2X1 (a ∷ b ∷ Half ∷ l ∷ []) ∷
    cuts Dup2X2 (a ∷ Half ∷ l ∷ b ∷ []) ∷
    cuts Dup2X2 (a ∷ b ∷ c ∷ Half ∷ l ∷ []) ∷
    cuts Swap (Half ∷ l ∷ []) ∷
    cuts Swap (a ∷ Half ∷ l ∷ []) ∷
    cuts Pop [] ∷
    cuts DupX1 (a ∷ []) ∷
    cuts DupX2 (a ∷ b ∷ []) ∷
    cuts Dup2X2 (a ∷ b ∷ c ∷ []) ∷
    cuts Swap (a ∷ []) ∷
    cuts Dup (a ∷ a ∷ a ∷ a ∷ a ∷ a ∷ []) ∷
    cuts Dup2X1 (a ∷ a ∷ a ∷ a ∷ a ∷ []) ∷ []

abbrev pub is_zero : ℕ → Bool
is_zero n = nat_eq n 0

abbrev pub case : ℤ → ℕ → Case
case key target = record { key = key; target = target }

-- two pairs have one key
abbrev pub cases : List Case
cases = case (negsuc 4) 1 ∷ case (pos 3) 2 ∷ case (pos 3) 9 ∷ case (pos 7) 3 ∷ []

-- which branches are taken, and what locals and the stack become
abbrev pub branching : List Row
branching =
    jumps (branches is.Less 8) (Int minus_one ∷ []) 8 ∷
    leaves (branches is.Less 8) (Int (pos 0) ∷ []) [] ∷
    jumps (branches is.GreaterOrEqual 8) (Int (pos 0) ∷ []) 8 ∷
    jumps (branches is.Equal 8) (Int (pos 0) ∷ []) 8 ∷
    leaves (branches is.NotEqual 8) (Int (pos 0) ∷ []) [] ∷
    leaves (branches is.Greater 8) (Int least_int ∷ []) [] ∷
    jumps (branches is.LessOrEqual 8) (Int least_int ∷ []) 8 ∷
    jumps (branches is.Greater 8) (Int (pos 1) ∷ []) 8 ∷
    jumps (branches is.NotEqual 8) (Int (pos 1) ∷ []) 8 ∷
    leaves (branches is.LessOrEqual 8) (Int (pos 1) ∷ []) [] ∷
    leaves (branches is.GreaterOrEqual 8) (Int minus_one ∷ []) [] ∷
    leaves (branches is.Equal 8) (Int (pos 1) ∷ []) [] ∷
    jumps (branches_on_two is.Less 8) (Int greatest_int ∷ Int least_int ∷ []) 8 ∷
    leaves (branches_on_two is.Greater 8) (Int greatest_int ∷ Int least_int ∷ []) [] ∷
    jumps (branches_on_null is_zero equality.Equal 8) (Reference 0 ∷ []) 8 ∷
    leaves (branches_on_null is_zero equality.Equal 8) (Reference 1 ∷ []) [] ∷
    leaves (branches_on_null is_zero equality.NotEqual 8) (Reference 0 ∷ []) [] ∷
    jumps (branches_on_null is_zero equality.NotEqual 8) (Reference 1 ∷ []) 8 ∷
    jumps (switches 9 (negsuc 0) (4 ∷ 5 ∷ [])) (Int minus_one ∷ []) 4 ∷
    jumps (switches 9 (negsuc 0) (4 ∷ 5 ∷ [])) (Int (pos 0) ∷ []) 5 ∷
    jumps (switches 9 (negsuc 0) (4 ∷ 5 ∷ [])) (Int (pos 1) ∷ []) 9 ∷
    jumps (switches 9 (pos 2) (4 ∷ 5 ∷ [])) (Int least_int ∷ []) 9 ∷
    jumps (looks_up 8 cases) (Int (negsuc 4) ∷ []) 1 ∷
    jumps (looks_up 8 cases) (Int (pos 3) ∷ []) 2 ∷
    jumps (looks_up 8 cases) (Int (pos 4) ∷ []) 8 ∷
    changes (increments 1 minus_one) (frame (a ∷ Int least_int ∷ []) [])
    (frame (a ∷ Int greatest_int ∷ []) []) ∷
    changes (loads sort.Long 1) (frame (a ∷ l ∷ Half ∷ []) []) (frame (a ∷ l ∷ Half ∷ []) (Half ∷ l ∷ [])) ∷
    changes (loads sort.Reference 0) (frame (b ∷ []) []) (frame (b ∷ []) (b ∷ [])) ∷
    changes (loads sort.Int 1) (frame (b ∷ a ∷ []) (d ∷ [])) (frame (b ∷ a ∷ []) (a ∷ d ∷ [])) ∷
    changes (stores sort.Reference 1) (frame (a ∷ Empty ∷ []) (b ∷ c ∷ [])) (frame (a ∷ b ∷ []) (c ∷ [])) ∷
    leaves (pushes b) (a ∷ []) (b ∷ a ∷ []) ∷
    leaves (pushes_long (pos 5)) (a ∷ []) (Half ∷ l ∷ a ∷ []) ∷
    changes (stores sort.Int 1) (frame (b ∷ Empty ∷ []) (a ∷ [])) (frame (b ∷ a ∷ []) []) ∷
    changes (stores sort.Long 0) (frame (Empty ∷ Empty ∷ b ∷ []) (Half ∷ l ∷ []))
    (frame (l ∷ Half ∷ b ∷ []) []) ∷ []

-- each operand place with a cell of another kind, or none
abbrev pub kinds : List Row
kinds =
    is_bad (combines number.Int Add) (only (a ∷ b ∷ [])) ∷
    is_bad (combines number.Int Add) (only (b ∷ a ∷ [])) ∷
    is_bad (combines number.Int Add) (only (a ∷ Half ∷ l ∷ [])) ∷
    is_bad (combines number.Int Add) (only (Half ∷ l ∷ a ∷ [])) ∷
    is_bad (combines number.Int Add) (only (a ∷ [])) ∷
    is_bad (combines number.Int Divide) (only (Int (pos 0) ∷ b ∷ [])) ∷
    is_bad (combines number.Long Add) (only (Half ∷ l ∷ a ∷ c ∷ [])) ∷
    is_bad (combines number.Long Add) (only (a ∷ c ∷ Half ∷ l ∷ [])) ∷
    is_bad (combines number.Long Add) (only (Half ∷ l ∷ [])) ∷
    is_bad (negates number.Int) (only (b ∷ [])) ∷
    is_bad (negates number.Long) (only (a ∷ [])) ∷
    is_bad (shifts number.Int Left) (only (a ∷ b ∷ [])) ∷
    is_bad (shifts number.Int Left) (only (Half ∷ l ∷ a ∷ [])) ∷
    is_bad (shifts number.Long Left) (only (Half ∷ l ∷ Half ∷ m ∷ [])) ∷
    is_bad (shifts number.Long Left) (only (a ∷ c ∷ [])) ∷
    is_bad (converts IntToLong) (only (Half ∷ l ∷ [])) ∷
    is_bad (converts LongToInt) (only (a ∷ [])) ∷
    is_bad (converts IntToByte) (only (b ∷ [])) ∷
    is_bad compares (only (Half ∷ l ∷ a ∷ c ∷ [])) ∷
    is_bad compares (only (a ∷ Half ∷ l ∷ [])) ∷
    is_bad (branches is.Equal 8) (only (b ∷ [])) ∷
    is_bad (branches_on_two is.Equal 8) (only (a ∷ b ∷ [])) ∷
    is_bad (branches_on_two is.Equal 8) (only (b ∷ a ∷ [])) ∷
    is_bad (branches_on_null is_zero equality.Equal 8) (only (Int (pos 0) ∷ [])) ∷
    is_bad (switches 9 (pos 0) (4 ∷ [])) (only (b ∷ [])) ∷
    is_bad (looks_up 9 cases) (only (Half ∷ l ∷ [])) ∷
    is_bad (loads sort.Int 0) (frame (b ∷ []) []) ∷
    is_bad (loads sort.Int 0) (frame (Empty ∷ []) []) ∷
    is_bad (loads sort.Int 1) (frame (a ∷ []) []) ∷
    is_bad (loads sort.Long 0) (frame (a ∷ c ∷ []) []) ∷
    is_bad (loads sort.Long 0) (frame (l ∷ a ∷ []) []) ∷
    is_bad (loads sort.Long 0) (frame (l ∷ []) []) ∷
    is_bad (loads sort.Reference 0) (frame (a ∷ []) []) ∷
    is_bad (stores sort.Int 0) (frame (Empty ∷ []) (b ∷ [])) ∷
    is_bad (stores sort.Int 0) (frame (Empty ∷ []) []) ∷
    is_bad (stores sort.Int 1) (frame (Empty ∷ []) (a ∷ [])) ∷
    is_bad (stores sort.Long 0) (frame (Empty ∷ []) (Half ∷ l ∷ [])) ∷
    is_bad (stores sort.Long 0) (frame (Empty ∷ Empty ∷ []) (a ∷ c ∷ [])) ∷
    is_bad (stores sort.Reference 0) (frame (Empty ∷ []) (a ∷ [])) ∷
    is_bad (increments 0 (pos 1)) (frame (b ∷ []) []) ∷
    is_bad (pushes a) (only (a ∷ a ∷ a ∷ a ∷ a ∷ a ∷ [])) ∷
    is_bad (pushes_long (pos 1)) (only (a ∷ a ∷ a ∷ a ∷ a ∷ [])) ∷
    is_bad (converts IntToLong) (only (a ∷ a ∷ a ∷ a ∷ a ∷ a ∷ [])) ∷ []
