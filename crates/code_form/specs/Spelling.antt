-- The bytes of instructions, and which lists of instructions are a code (JVMS 4.7.3, 4.9.1, 6.5).
use Rattle.std.specs.Prelude.{◌≡◌, ◌≤◌, ◌<◌, ◌^◌, ◌+◌, ◌-◌, ◌%◌, ℕ, ℤ, pos, ◌+ℤ◌, ◌-ℤ◌, ◌≤ℤ◌, Bool, ◌==◌, IsTrue, List, [], ◌∷◌}
use Rattle.std.specs.Prelude.{◌++◌, length, map, replicate, FitsSigned, ⊤}
use Rattle.std.specs.List.{flat_map, AllByRecursion, list_any, list_all}
use Rattle.std.specs.Int.{Width, w8, w16, w32, byte_len, cast_unsigned}
use Rattle.byteorder.specs.Endian.{big_bytes}
use Rattle.code_form.specs.declared.ins.Access.{Access}
use Rattle.code_form.specs.declared.ins.Sort.{Sort}
use Rattle.code_form.specs.declared.ins.Local.{Local}
use Rattle.code_form.specs.declared.ins.Local.TheVariants as locals
use Rattle.code_form.specs.declared.ins.Case.{Case}
use Rattle.code_form.specs.declared.ins.Ins.{Ins}
use Rattle.code_form.specs.declared.ins.Ins.TheVariants as ins
use Rattle.code_form.specs.declared.ins.Placed.{Placed}
use Rattle.code_form.specs.Opcodes.{short_opcode, variable_opcode, plain_opcode, branch_opcode, pool_opcode, primitive_code}

-- the longest code (JVMS 4.7.3, code_length)
abbrev pub longest : ℕ
longest = 65535

-- a signed number as the bytes of its type, the highest first
abbrev pub signed : Width → ℤ → List ℕ
signed w z = big_bytes (byte_len w) (cast_unsigned w z)

-- how far a target is from the jump, which is what is written
abbrev pub offset : ℕ → ℕ → ℤ
offset pc target = pos target -ℤ pos pc

-- how many bytes stand between a switch's opcode and the next place that is a multiple of four
abbrev pub padding : ℕ → ℕ
padding pc = 3 - pc % 4

-- the pair of a lookupswitch
abbrev pub case_bytes : ℕ → Case → List ℕ
case_bytes pc c = signed w32 c.key ++ signed w32 (offset pc c.target)

-- a load or a store of a local variable: the index in the opcode, in a byte, or in two behind wide
abbrev pub variable_bytes : Access → Sort → Local → List ℕ
variable_bytes access sort (locals.Short slot) = short_opcode access sort slot ∷ []
variable_bytes access sort (locals.Byte n) = variable_opcode access sort ∷ big_bytes 1 n
variable_bytes access sort (locals.Wide n) = 196 ∷ variable_opcode access sort ∷ big_bytes 2 n

-- JVMS 6.5, tableswitch: padding, default, low, high, and the targets of the keys from low to high
abbrev pub table_bytes : List ℕ → ℕ → ℕ → ℤ → ℤ → List ℕ → List ℕ
table_bytes idle pc default low high targets =
    170 ∷ idle ++ signed w32 (offset pc default) ++ signed w32 low ++ signed w32 high
    ++ flat_map (λ t. signed w32 (offset pc t)) targets

-- JVMS 6.5, lookupswitch: padding, default, the count, and the pairs
abbrev pub lookup_bytes : List ℕ → ℕ → ℕ → List Case → List ℕ
lookup_bytes idle pc default cases =
    171 ∷ idle ++ signed w32 (offset pc default) ++ big_bytes 4 (length cases)
    ++ flat_map (case_bytes pc) cases

-- The bytes of the instruction at a pc (JVMS 6.5). Those in idle say nothing: the padding of a switch, and
-- the last byte of invokeinterface.
abbrev pub bytes_of : List ℕ → ℕ → Ins → List ℕ
bytes_of idle pc (ins.Plain p) = plain_opcode p ∷ []
bytes_of idle pc (ins.Variable access sort local) = variable_bytes access sort local
bytes_of idle pc (ins.PushByte z) = 16 ∷ signed w8 z
bytes_of idle pc (ins.PushShort z) = 17 ∷ signed w16 z
bytes_of idle pc (ins.LoadConstant n) = 18 ∷ big_bytes 1 n
bytes_of idle pc (ins.Pool usage n) = pool_opcode usage ∷ big_bytes 2 n
bytes_of idle pc (ins.InvokeInterface n count) = 185 ∷ big_bytes 2 n ++ big_bytes 1 count ++ idle
bytes_of idle pc (ins.NewArray p) = 188 ∷ primitive_code p ∷ []
bytes_of idle pc (ins.Increment n z) = 132 ∷ big_bytes 1 n ++ signed w8 z
bytes_of idle pc (ins.IncrementWide n z) = 196 ∷ 132 ∷ big_bytes 2 n ++ signed w16 z
bytes_of idle pc (ins.Branch b target) = branch_opcode b ∷ signed w16 (offset pc target)
bytes_of idle pc (ins.GotoWide target) = 200 ∷ signed w32 (offset pc target)
bytes_of idle pc (ins.TableSwitch default low high targets) = table_bytes idle pc default low high targets
bytes_of idle pc (ins.LookupSwitch default cases) = lookup_bytes idle pc default cases

-- how many bytes of the instruction say nothing
abbrev pub idle_count : ℕ → Ins → ℕ
idle_count pc (ins.InvokeInterface n count) = 1
idle_count pc (ins.TableSwitch default low high targets) = padding pc
idle_count pc (ins.LookupSwitch default cases) = padding pc
idle_count pc _ = 0

-- the bytes with zeros where they say nothing
abbrev pub zeroed : Placed → List ℕ
zeroed p = bytes_of (replicate (idle_count p.pc p.ins) 0) p.pc p.ins

-- the spelling that is written
abbrev pub written : List Placed → List ℕ
written code = flat_map zeroed code

-- The bytes are those of the instructions, one after the other, whatever stands where they say nothing.
abbrev pub Spells : List Placed → List ℕ → Type 0
Spells [] bytes = bytes ≡ []
Spells (p ∷ code) bytes =
    (idle rest : List ℕ) × (length idle ≡ idle_count p.pc p.ins) × (bytes ≡ bytes_of idle p.pc p.ins ++ rest)
    × Spells code rest

-- ---- which lists are a code

-- the operands have the ranges of their types, and a target is within reach
abbrev pub Fits : ℕ → Ins → Type 0
Fits pc (ins.Variable access sort (locals.Byte n)) = n < 2 ^ 8
Fits pc (ins.Variable access sort (locals.Wide n)) = n < 2 ^ 16
Fits pc (ins.PushByte z) = FitsSigned w8 z
Fits pc (ins.PushShort z) = FitsSigned w16 z
Fits pc (ins.LoadConstant n) = n < 2 ^ 8
Fits pc (ins.Pool usage n) = n < 2 ^ 16
Fits pc (ins.InvokeInterface n count) = (n < 2 ^ 16) × (count < 2 ^ 8)
Fits pc (ins.Increment n z) = (n < 2 ^ 8) × FitsSigned w8 z
Fits pc (ins.IncrementWide n z) = (n < 2 ^ 16) × FitsSigned w16 z
Fits pc (ins.Branch b target) = FitsSigned w16 (offset pc target)
-- one target for each key from low to high, at least one
Fits pc (ins.TableSwitch default low high targets) =
    FitsSigned w32 low × FitsSigned w32 high × (low ≤ℤ high)
    × (pos (length targets) ≡ (high -ℤ low) +ℤ pos 1)
Fits pc (ins.LookupSwitch default cases) =
    (length cases < 2 ^ 31) × AllByRecursion (λ c. FitsSigned w32 c.key) cases
Fits pc _ = ⊤

-- each instruction begins where the one before ends, and the last ends within the longest code
abbrev pub FollowFrom : ℕ → List Placed → Type 0
FollowFrom pc [] = pc ≤ longest
FollowFrom pc (p ∷ code) = (p.pc ≡ pc) × FollowFrom (pc + length (zeroed p)) code

-- where the instruction may go on beside the next one
abbrev pub targets_of : Ins → List ℕ
targets_of (ins.Branch b target) = target ∷ []
targets_of (ins.GotoWide target) = target ∷ []
targets_of (ins.TableSwitch default low high targets) = default ∷ targets
targets_of (ins.LookupSwitch default cases) = default ∷ map (λ c. c.target) cases
targets_of _ = []

-- each target is within the longest code
abbrev pub Reached : Ins → Type 0
Reached i = AllByRecursion (λ t. t ≤ longest) (targets_of i)

-- what is true of each instruction of a code
pub record IsWritable (p : Placed) : Type 0 where
  pub fits : Fits p.pc p.ins
  pub reached : Reached p.ins
  pub near : p.pc ≤ longest

-- an instruction begins there
abbrev pub is_start : List Placed → ℕ → Bool
is_start code pc = list_any (λ p. p.pc == pc) code

-- every target is where an instruction of the code begins (JVMS 4.9.1)
abbrev pub jumps_to_starts : List Placed → Placed → Bool
jumps_to_starts code p = list_all (is_start code) (targets_of p.ins)

-- what a code is (JVMS 4.7.3, 4.9.1)
pub record IsCode (code : List Placed) : Type 0 where
  pub follow : FollowFrom 0 code
  pub fit : AllByRecursion (λ p. Fits p.pc p.ins) code
  pub jump : AllByRecursion (λ p. IsTrue (jumps_to_starts code p)) code
