-- Reading a code from front to back, with the first fault that is met.
use Rattle.std.specs.Prelude.{◌+◌, ◌-◌, ◌%◌, ◌^◌, ℕ, zero, suc, ℤ, ◌-ℤ◌, unsigned_abs, int_lt, not, ◌==◌, ◌||◌, nat_lt}
use Rattle.std.specs.Prelude.{if◌then◌else◌, List, [], ◌∷◌, ◌++◌, length, take, drop, map, Option, Some, None, Result, Ok, Err}
use Rattle.std.specs.List.{find, flat_map}
use Rattle.std.specs.Int.{Width, w8, w16, w32, byte_len, cast_signed, cast_unsigned}
use Rattle.byteorder.specs.Endian.{big_number}
use Rattle.parsing.specs.Results.{◌>>=◌, many_from}
use Rattle.code_form.specs.declared.refusal.CodeRefusal.{CodeRefusal}
use Rattle.code_form.specs.declared.refusal.CodeRefusal.TheVariants.{BadOpcode, NotInProfile, BadTarget, Truncated}
use Rattle.code_form.specs.declared.table.Form.{Form}
use Rattle.code_form.specs.declared.table.Form.TheVariants as forms
use Rattle.code_form.specs.declared.ins.Number.{Number}
use Rattle.code_form.specs.declared.ins.Number.TheVariants as numbers
use Rattle.code_form.specs.declared.ins.Sort.{Sort}
use Rattle.code_form.specs.declared.ins.Sort.TheVariants as sorts
use Rattle.code_form.specs.declared.ins.Element.{Element}
use Rattle.code_form.specs.declared.ins.Element.TheVariants as elements
use Rattle.code_form.specs.declared.ins.Access.{Access}
use Rattle.code_form.specs.declared.ins.Access.TheVariants.{Load, Store}
use Rattle.code_form.specs.declared.ins.Slot.{Slot}
use Rattle.code_form.specs.declared.ins.Slot.TheVariants as slots
use Rattle.code_form.specs.declared.ins.IntConstant.{IntConstant}
use Rattle.code_form.specs.declared.ins.IntConstant.TheVariants as ints
use Rattle.code_form.specs.declared.ins.LongConstant.TheVariants as longs
use Rattle.code_form.specs.declared.ins.Constant.{Constant}
use Rattle.code_form.specs.declared.ins.Constant.TheVariants as constants
use Rattle.code_form.specs.declared.ins.Stack.{Stack}
use Rattle.code_form.specs.declared.ins.Stack.TheVariants.{Pop, Pop2, Dup, DupX1, DupX2, Dup2, Dup2X1, Dup2X2, Swap}
use Rattle.code_form.specs.declared.ins.Binary.{Binary}
use Rattle.code_form.specs.declared.ins.Binary.TheVariants.{Add, Subtract, Multiply, Divide, Remainder, And, Or, Xor}
use Rattle.code_form.specs.declared.ins.Shift.{Shift}
use Rattle.code_form.specs.declared.ins.Shift.TheVariants.{Left, Right, UnsignedRight}
use Rattle.code_form.specs.declared.ins.Conversion.{Conversion}
use Rattle.code_form.specs.declared.ins.Conversion.TheVariants.{IntToLong, LongToInt, IntToByte, IntToChar, IntToShort}
use Rattle.code_form.specs.declared.ins.Plain.{Plain}
use Rattle.code_form.specs.declared.ins.Plain.TheVariants as plain
use Rattle.code_form.specs.declared.ins.Condition.{Condition}
use Rattle.code_form.specs.declared.ins.Condition.TheVariants as conditions
use Rattle.code_form.specs.declared.ins.Equality.TheVariants as equalities
use Rattle.code_form.specs.declared.ins.Branch.{Branch}
use Rattle.code_form.specs.declared.ins.Branch.TheVariants as branches
use Rattle.code_form.specs.declared.ins.PoolUse.{PoolUse}
use Rattle.code_form.specs.declared.ins.PoolUse.TheVariants as uses
use Rattle.code_form.specs.declared.ins.Primitive.{Primitive}
use Rattle.code_form.specs.declared.ins.Primitive.TheVariants as primitives
use Rattle.code_form.specs.declared.ins.Local.TheVariants as locals
use Rattle.code_form.specs.declared.ins.Case.{Case}
use Rattle.code_form.specs.declared.ins.Ins.{Ins}
use Rattle.code_form.specs.declared.ins.Ins.TheVariants as ins
use Rattle.code_form.specs.declared.ins.Placed.{Placed}
use Rattle.code_form.specs.Opcodes.{short_opcode, variable_opcode, plain_opcode, branch_opcode, pool_opcode, primitive_code}
use Rattle.code_form.specs.Spelling.{longest, padding, jumps_to_starts}

-- ---- which opcodes there are

-- every opcode with what it tells of the operands
abbrev pub opcode_of : Form → ℕ
opcode_of (forms.Plain p) = plain_opcode p
opcode_of (forms.ShortVariable access sort slot) = short_opcode access sort slot
opcode_of (forms.Variable access sort) = variable_opcode access sort
opcode_of forms.PushByte = 16
opcode_of forms.PushShort = 17
opcode_of forms.LoadConstant = 18
opcode_of (forms.Pool usage) = pool_opcode usage
opcode_of forms.InvokeInterface = 185
opcode_of forms.NewArray = 188
opcode_of forms.Increment = 132
opcode_of (forms.Branch b) = branch_opcode b
opcode_of forms.GotoWide = 200
opcode_of forms.TableSwitch = 170
opcode_of forms.LookupSwitch = 171
opcode_of forms.Wide = 196

-- the members of the families
abbrev all_numbers : List Number
all_numbers = numbers.Int ∷ numbers.Long ∷ []

abbrev all_sorts : List Sort
all_sorts = sorts.Int ∷ sorts.Long ∷ sorts.Reference ∷ []

abbrev all_elements : List Element
all_elements =
    elements.Int ∷ elements.Long ∷ elements.Reference ∷ elements.Byte ∷ elements.Char ∷ elements.Short ∷ []

abbrev all_accesses : List Access
all_accesses = Load ∷ Store ∷ []

abbrev all_slots : List Slot
all_slots = slots.Zero ∷ slots.One ∷ slots.Two ∷ slots.Three ∷ []

abbrev all_ints : List IntConstant
all_ints = ints.MinusOne ∷ ints.Zero ∷ ints.One ∷ ints.Two ∷ ints.Three ∷ ints.Four ∷ ints.Five ∷ []

abbrev all_constants : List Constant
all_constants =
    constants.Null ∷ map constants.Int all_ints ++ map constants.Long (longs.Zero ∷ longs.One ∷ [])

abbrev all_stack : List Stack
all_stack = Pop ∷ Pop2 ∷ Dup ∷ DupX1 ∷ DupX2 ∷ Dup2 ∷ Dup2X1 ∷ Dup2X2 ∷ Swap ∷ []

abbrev all_binary : List Binary
all_binary = Add ∷ Subtract ∷ Multiply ∷ Divide ∷ Remainder ∷ And ∷ Or ∷ Xor ∷ []

abbrev all_shifts : List Shift
all_shifts = Left ∷ Right ∷ UnsignedRight ∷ []

abbrev all_conversions : List Conversion
all_conversions = IntToLong ∷ LongToInt ∷ IntToByte ∷ IntToChar ∷ IntToShort ∷ []

abbrev all_conditions : List Condition
all_conditions =
    conditions.Equal ∷ conditions.NotEqual ∷ conditions.Less ∷ conditions.GreaterOrEqual ∷ conditions.Greater
    ∷ conditions.LessOrEqual ∷ []

abbrev all_plain : List Plain
all_plain =
    plain.Nop ∷ plain.CompareLongs ∷ plain.Return ∷ plain.ArrayLength ∷ plain.Throw
    ∷ plain.MonitorEnter ∷ plain.MonitorExit
    ∷ map plain.Constant all_constants
    ++ flat_map (λ access. map (plain.Element access) all_elements) all_accesses
    ++ map plain.Stack all_stack
    ++ flat_map (λ number. map (plain.Binary number) all_binary) all_numbers
    ++ map plain.Negate all_numbers
    ++ flat_map (λ number. map (plain.Shift number) all_shifts) all_numbers
    ++ map plain.Convert all_conversions
    ++ map plain.ReturnValue all_sorts

abbrev all_branches : List Branch
all_branches =
    branches.Goto ∷ branches.IfNull ∷ branches.IfNonNull
    ∷ map branches.IfReferences (equalities.Equal ∷ equalities.NotEqual ∷ [])
    ++ map branches.If all_conditions
    ++ map branches.IfInts all_conditions

abbrev all_uses : List PoolUse
all_uses =
    uses.LoadConstant ∷ uses.LoadLong ∷ uses.GetStatic ∷ uses.PutStatic ∷ uses.GetField ∷ uses.PutField
    ∷ uses.InvokeVirtual ∷ uses.InvokeSpecial ∷ uses.InvokeStatic
    ∷ uses.New ∷ uses.NewReferenceArray ∷ uses.CheckCast ∷ uses.InstanceOf ∷ []

abbrev pub all_primitives : List Primitive
all_primitives =
    primitives.Boolean ∷ primitives.Char ∷ primitives.Byte ∷ primitives.Short ∷ primitives.Int
    ∷ primitives.Long ∷ []

abbrev all_short : Access → List Form
all_short access = flat_map (λ sort. map (forms.ShortVariable access sort) all_slots) all_sorts

-- the instructions that are read here
abbrev pub all_forms : List Form
all_forms =
    forms.PushByte ∷ forms.PushShort ∷ forms.LoadConstant ∷ forms.InvokeInterface ∷ forms.NewArray
    ∷ forms.Increment ∷ forms.GotoWide ∷ forms.TableSwitch ∷ forms.LookupSwitch ∷ forms.Wide
    ∷ map forms.Plain all_plain
    ++ flat_map (λ access. map (forms.Variable access) all_sorts) all_accesses
    ++ flat_map all_short all_accesses
    ++ map forms.Branch all_branches
    ++ map forms.Pool all_uses

-- the form of these that has this opcode
unfoldable pub form_of : ℕ → Option Form
form_of opcode = find (λ form. opcode_of form == opcode) all_forms

-- the array type of newarray that has this code
unfoldable pub primitive_of : ℕ → Option Primitive
primitive_of code = find (λ p. primitive_code p == code) all_primitives

-- ---- fields
-- Each gives a value and the bytes after it. The instruction at pc isn't whole where the bytes end before.

abbrev pub bytes_at : ℕ → ℕ → List ℕ → Result (List ℕ × List ℕ) CodeRefusal
bytes_at pc n bytes = if nat_lt (length bytes) n then Err (Truncated pc) else Ok (take n bytes, drop n bytes)

unfoldable pub unsigned_at : ℕ → ℕ → List ℕ → Result (ℕ × List ℕ) CodeRefusal
unsigned_at pc n bytes = do
  x ← bytes_at pc n bytes
  Ok (big_number n x.0, x.1)

unfoldable pub signed_at : ℕ → Width → List ℕ → Result (ℤ × List ℕ) CodeRefusal
signed_at pc w bytes = do
  x ← unsigned_at pc (byte_len w) bytes
  Ok (cast_signed w x.0, x.1)

-- An offset from the jump. One that leads before the code wraps around, and names a place past every code.
abbrev pub moved : ℕ → ℤ → ℕ
moved pc offset = (pc + cast_unsigned w32 offset) % 2 ^ 32

unfoldable pub target_at : ℕ → Width → List ℕ → Result (ℕ × List ℕ) CodeRefusal
target_at pc w bytes = do
  x ← signed_at pc w bytes
  Ok (moved pc x.0, x.1)

-- ---- instructions

-- no form: the opcode of another instruction of the virtual machine, or of none (JVMS 6.2)
abbrev pub known_form : ℕ → ℕ → Option Form → Result Form CodeRefusal
known_form pc opcode (Some form) = Ok form
known_form pc opcode None =
    if nat_lt opcode 202 then Err (NotInProfile pc opcode) else Err (BadOpcode pc)

-- 6 and 7 are float and double (JVMS 6.5, newarray)
abbrev pub known_primitive : ℕ → ℕ → Option Primitive → Result Primitive CodeRefusal
known_primitive pc code (Some p) = Ok p
known_primitive pc code None =
    if code == 6 || code == 7 then Err (NotInProfile pc 188) else Err (BadOpcode pc)

-- JVMS 6.5, invokeinterface: the last byte is passed over
unfoldable pub interface_at : ℕ → List ℕ → Result (Ins × List ℕ) CodeRefusal
interface_at pc bytes = do
  index ← unsigned_at pc 2 bytes
  count ← unsigned_at pc 1 index.1
  passed ← bytes_at pc 1 count.1
  Ok (ins.InvokeInterface index.0 count.0, passed.1)

-- JVMS 6.5, newarray
unfoldable pub new_array_at : ℕ → List ℕ → Result (Ins × List ℕ) CodeRefusal
new_array_at pc bytes = do
  code ← unsigned_at pc 1 bytes
  p ← known_primitive pc code.0 (primitive_of code.0)
  Ok (ins.NewArray p, code.1)

-- JVMS 6.5, iinc
unfoldable pub increment_at : ℕ → List ℕ → Result (Ins × List ℕ) CodeRefusal
increment_at pc bytes = do
  local ← unsigned_at pc 1 bytes
  by ← signed_at pc w8 local.1
  Ok (ins.Increment local.0 by.0, by.1)

-- JVMS 6.5, wide: before a load, a store or iinc
unfoldable pub widened_at : ℕ → Option Form → List ℕ → Result (Ins × List ℕ) CodeRefusal
widened_at pc (Some (forms.Variable access sort)) bytes = do
  local ← unsigned_at pc 2 bytes
  Ok (ins.Variable access sort (locals.Wide local.0), local.1)
widened_at pc (Some forms.Increment) bytes = do
  local ← unsigned_at pc 2 bytes
  by ← signed_at pc w16 local.1
  Ok (ins.IncrementWide local.0 by.0, by.1)
widened_at pc _ bytes = Err (BadOpcode pc)

unfoldable pub wide_at : ℕ → List ℕ → Result (Ins × List ℕ) CodeRefusal
wide_at pc bytes = do
  opcode ← unsigned_at pc 1 bytes
  widened_at pc (form_of opcode.0) opcode.1

-- a target for each key from low to high; low above high is a fault where they stand
abbrev pub spanned_at : ℕ → ℤ → ℤ → List ℕ → Result (List ℕ × List ℕ) CodeRefusal
spanned_at pc low high bytes =
    if int_lt high low then Err (BadTarget pc)
    else many_from (target_at pc w32) (unsigned_abs (high -ℤ low) + 1) bytes

-- JVMS 6.5, tableswitch
unfoldable pub table_at : ℕ → List ℕ → Result (Ins × List ℕ) CodeRefusal
table_at pc bytes = do
  pad ← bytes_at pc (padding pc) bytes
  default ← target_at pc w32 pad.1
  low ← signed_at pc w32 default.1
  high ← signed_at pc w32 low.1
  targets ← spanned_at pc low.0 high.0 high.1
  Ok (ins.TableSwitch default.0 low.0 high.0 targets.0, targets.1)

unfoldable pub case_at : ℕ → List ℕ → Result (Case × List ℕ) CodeRefusal
case_at pc bytes = do
  key ← signed_at pc w32 bytes
  target ← target_at pc w32 key.1
  Ok (record { key = key.0; target = target.0 }, target.1)

-- JVMS 6.5, lookupswitch; from 2 ^ 31 on the count is a negative one, a fault where it stands
unfoldable pub lookup_at : ℕ → List ℕ → Result (Ins × List ℕ) CodeRefusal
lookup_at pc bytes = do
  pad ← bytes_at pc (padding pc) bytes
  default ← target_at pc w32 pad.1
  count ← unsigned_at pc 4 default.1
  cases ← if nat_lt count.0 (2 ^ 31) then many_from (case_at pc) count.0 count.1 else Err (BadTarget pc)
  Ok (ins.LookupSwitch default.0 cases.0, cases.1)

-- what stands behind the opcode (JVMS 6.5)
unfoldable pub operands_at : Form → ℕ → List ℕ → Result (Ins × List ℕ) CodeRefusal
operands_at (forms.Plain p) pc bytes = Ok (ins.Plain p, bytes)
operands_at (forms.ShortVariable access sort slot) pc bytes =
    Ok (ins.Variable access sort (locals.Short slot), bytes)
operands_at (forms.Variable access sort) pc bytes = do
  local ← unsigned_at pc 1 bytes
  Ok (ins.Variable access sort (locals.Byte local.0), local.1)
operands_at forms.PushByte pc bytes = do
  value ← signed_at pc w8 bytes
  Ok (ins.PushByte value.0, value.1)
operands_at forms.PushShort pc bytes = do
  value ← signed_at pc w16 bytes
  Ok (ins.PushShort value.0, value.1)
operands_at forms.LoadConstant pc bytes = do
  index ← unsigned_at pc 1 bytes
  Ok (ins.LoadConstant index.0, index.1)
operands_at (forms.Pool usage) pc bytes = do
  index ← unsigned_at pc 2 bytes
  Ok (ins.Pool usage index.0, index.1)
operands_at forms.InvokeInterface pc bytes = interface_at pc bytes
operands_at forms.NewArray pc bytes = new_array_at pc bytes
operands_at forms.Increment pc bytes = increment_at pc bytes
operands_at (forms.Branch b) pc bytes = do
  target ← target_at pc w16 bytes
  Ok (ins.Branch b target.0, target.1)
operands_at forms.GotoWide pc bytes = do
  target ← target_at pc w32 bytes
  Ok (ins.GotoWide target.0, target.1)
operands_at forms.TableSwitch pc bytes = table_at pc bytes
operands_at forms.LookupSwitch pc bytes = lookup_at pc bytes
operands_at forms.Wide pc bytes = wide_at pc bytes

-- the instruction at pc, of which these are the bytes and those after it
unfoldable pub ins_at : ℕ → List ℕ → Result (Ins × List ℕ) CodeRefusal
ins_at pc bytes = do
  opcode ← unsigned_at pc 1 bytes
  form ← known_form pc opcode.0 (form_of opcode.0)
  operands_at form pc opcode.1

-- ---- the whole

-- The instructions of what is left of a code whose length is total. No instruction is empty, so at most limit
-- of them stand in as many bytes.
unfoldable pub placed_at : ℕ → ℕ → List ℕ → Result (List Placed) CodeRefusal
placed_at limit total [] = Ok []
placed_at zero total (b ∷ bytes) = Ok []
placed_at (suc limit) total (b ∷ bytes) = do
  first ← ins_at (total - length (b ∷ bytes)) (b ∷ bytes)
  others ← placed_at limit total first.1
  Ok (record { pc = total - length (b ∷ bytes); ins = first.0 } ∷ others)

-- the first instruction that jumps to where none begins
abbrev pub first_astray : List Placed → Option Placed
first_astray code = find (λ p. not (jumps_to_starts code p)) code

abbrev pub unless_astray : List Placed → Option Placed → Result (List Placed) CodeRefusal
unless_astray code None = Ok code
unless_astray code (Some p) = Err (BadTarget p.pc)

-- what may be a code
unfoldable pub front_of : List ℕ → List ℕ
front_of bytes = take longest bytes

-- The answer for any bytes (JVMS 4.7.3, 4.9.1). Targets are checked in order of the instructions once the
-- last one is read, since a target may lie further on. Past the longest code no instruction is whole.
unfoldable pub code_of : List ℕ → Result (List Placed) CodeRefusal
code_of bytes = do
  code ← placed_at (length (front_of bytes)) (length (front_of bytes)) (front_of bytes)
  whole ← if nat_lt longest (length bytes) then Err (Truncated longest) else Ok code
  unless_astray whole (first_astray whole)
