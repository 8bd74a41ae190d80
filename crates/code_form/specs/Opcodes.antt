-- The opcodes, by families (JVMS 6.5, 7).
use Rattle.std.specs.Prelude.{ℕ, ◌+◌, ◌*◌}
use Rattle.code_form.specs.declared.ins.Number.{Number}
use Rattle.code_form.specs.declared.ins.Number.TheVariants as numbers
use Rattle.code_form.specs.declared.ins.Sort.{Sort}
use Rattle.code_form.specs.declared.ins.Sort.TheVariants as sorts
use Rattle.code_form.specs.declared.ins.Element.{Element}
use Rattle.code_form.specs.declared.ins.Element.TheVariants as elements
use Rattle.code_form.specs.declared.ins.Access.{Access}
use Rattle.code_form.specs.declared.ins.Access.TheVariants.{Load, Store}
use Rattle.code_form.specs.declared.ins.Slot.{Slot}
use Rattle.code_form.specs.declared.ins.Slot.TheVariants as slots
use Rattle.code_form.specs.declared.ins.IntConstant.{IntConstant}
use Rattle.code_form.specs.declared.ins.IntConstant.TheVariants as ints
use Rattle.code_form.specs.declared.ins.LongConstant.{LongConstant}
use Rattle.code_form.specs.declared.ins.LongConstant.TheVariants as longs
use Rattle.code_form.specs.declared.ins.Constant.{Constant}
use Rattle.code_form.specs.declared.ins.Constant.TheVariants as constants
use Rattle.code_form.specs.declared.ins.Stack.{Stack}
use Rattle.code_form.specs.declared.ins.Stack.TheVariants.{Pop, Pop2, Dup, DupX1, DupX2, Dup2, Dup2X1, Dup2X2, Swap}
use Rattle.code_form.specs.declared.ins.Binary.{Binary}
use Rattle.code_form.specs.declared.ins.Binary.TheVariants.{Add, Subtract, Multiply, Divide, Remainder, And, Or, Xor}
use Rattle.code_form.specs.declared.ins.Shift.{Shift}
use Rattle.code_form.specs.declared.ins.Shift.TheVariants.{Left, Right, UnsignedRight}
use Rattle.code_form.specs.declared.ins.Conversion.{Conversion}
use Rattle.code_form.specs.declared.ins.Conversion.TheVariants.{IntToLong, LongToInt, IntToByte, IntToChar, IntToShort}
use Rattle.code_form.specs.declared.ins.Plain.{Plain}
use Rattle.code_form.specs.declared.ins.Plain.TheVariants as plain
use Rattle.code_form.specs.declared.ins.Condition.{Condition}
use Rattle.code_form.specs.declared.ins.Condition.TheVariants as conditions
use Rattle.code_form.specs.declared.ins.Equality.{Equality}
use Rattle.code_form.specs.declared.ins.Equality.TheVariants as equalities
use Rattle.code_form.specs.declared.ins.Branch.{Branch}
use Rattle.code_form.specs.declared.ins.Branch.TheVariants as branches
use Rattle.code_form.specs.declared.ins.PoolUse.{PoolUse}
use Rattle.code_form.specs.declared.ins.PoolUse.TheVariants as uses
use Rattle.code_form.specs.declared.ins.Primitive.{Primitive}
use Rattle.code_form.specs.declared.ins.Primitive.TheVariants as primitives

-- Families of opcodes go through the types in one order: int, long, float, double, reference, byte, char and
-- short.
abbrev pub number_place : Number → ℕ
number_place numbers.Int = 0
number_place numbers.Long = 1

abbrev pub sort_place : Sort → ℕ
sort_place sorts.Int = 0
sort_place sorts.Long = 1
sort_place sorts.Reference = 4

abbrev pub element_place : Element → ℕ
element_place elements.Int = 0
element_place elements.Long = 1
element_place elements.Reference = 4
element_place elements.Byte = 5
element_place elements.Char = 6
element_place elements.Short = 7

abbrev pub slot_place : Slot → ℕ
slot_place slots.Zero = 0
slot_place slots.One = 1
slot_place slots.Two = 2
slot_place slots.Three = 3

-- aconst_null; iconst_m1 to iconst_5; lconst_0, lconst_1
abbrev pub int_constant_opcode : IntConstant → ℕ
int_constant_opcode ints.MinusOne = 2
int_constant_opcode ints.Zero = 3
int_constant_opcode ints.One = 4
int_constant_opcode ints.Two = 5
int_constant_opcode ints.Three = 6
int_constant_opcode ints.Four = 7
int_constant_opcode ints.Five = 8

abbrev pub long_constant_opcode : LongConstant → ℕ
long_constant_opcode longs.Zero = 9
long_constant_opcode longs.One = 10

abbrev pub constant_opcode : Constant → ℕ
constant_opcode constants.Null = 1
constant_opcode (constants.Int c) = int_constant_opcode c
constant_opcode (constants.Long c) = long_constant_opcode c

-- iload, lload, aload; istore, lstore, astore
abbrev pub variable_opcode : Access → Sort → ℕ
variable_opcode Load sort = 21 + sort_place sort
variable_opcode Store sort = 54 + sort_place sort

-- iload_0 to aload_3; istore_0 to astore_3
abbrev pub short_opcode : Access → Sort → Slot → ℕ
short_opcode Load sort slot = 26 + 4 * sort_place sort + slot_place slot
short_opcode Store sort slot = 59 + 4 * sort_place sort + slot_place slot

-- iaload to saload; iastore to sastore
abbrev pub element_opcode : Access → Element → ℕ
element_opcode Load element = 46 + element_place element
element_opcode Store element = 79 + element_place element

abbrev pub stack_opcode : Stack → ℕ
stack_opcode Pop = 87
stack_opcode Pop2 = 88
stack_opcode Dup = 89
stack_opcode DupX1 = 90
stack_opcode DupX2 = 91
stack_opcode Dup2 = 92
stack_opcode Dup2X1 = 93
stack_opcode Dup2X2 = 94
stack_opcode Swap = 95

-- iadd, isub ..; the form for longs is the next opcode
abbrev pub binary_opcode : Binary → ℕ
binary_opcode Add = 96
binary_opcode Subtract = 100
binary_opcode Multiply = 104
binary_opcode Divide = 108
binary_opcode Remainder = 112
binary_opcode And = 126
binary_opcode Or = 128
binary_opcode Xor = 130

abbrev pub shift_opcode : Shift → ℕ
shift_opcode Left = 120
shift_opcode Right = 122
shift_opcode UnsignedRight = 124

abbrev pub conversion_opcode : Conversion → ℕ
conversion_opcode IntToLong = 133
conversion_opcode LongToInt = 136
conversion_opcode IntToByte = 145
conversion_opcode IntToChar = 146
conversion_opcode IntToShort = 147

abbrev pub plain_opcode : Plain → ℕ
plain_opcode plain.Nop = 0
plain_opcode (plain.Constant c) = constant_opcode c
plain_opcode (plain.Element access element) = element_opcode access element
plain_opcode (plain.Stack s) = stack_opcode s
plain_opcode (plain.Binary number b) = binary_opcode b + number_place number
plain_opcode (plain.Negate number) = 116 + number_place number
plain_opcode (plain.Shift number s) = shift_opcode s + number_place number
plain_opcode (plain.Convert c) = conversion_opcode c
plain_opcode plain.CompareLongs = 148
plain_opcode (plain.ReturnValue sort) = 172 + sort_place sort
plain_opcode plain.Return = 177
plain_opcode plain.ArrayLength = 190
plain_opcode plain.Throw = 191
plain_opcode plain.MonitorEnter = 194
plain_opcode plain.MonitorExit = 195

abbrev pub condition_place : Condition → ℕ
condition_place conditions.Equal = 0
condition_place conditions.NotEqual = 1
condition_place conditions.Less = 2
condition_place conditions.GreaterOrEqual = 3
condition_place conditions.Greater = 4
condition_place conditions.LessOrEqual = 5

abbrev pub equality_place : Equality → ℕ
equality_place equalities.Equal = 0
equality_place equalities.NotEqual = 1

abbrev pub branch_opcode : Branch → ℕ
branch_opcode (branches.If c) = 153 + condition_place c
branch_opcode (branches.IfInts c) = 159 + condition_place c
branch_opcode (branches.IfReferences e) = 165 + equality_place e
branch_opcode branches.Goto = 167
branch_opcode branches.IfNull = 198
branch_opcode branches.IfNonNull = 199

abbrev pub pool_opcode : PoolUse → ℕ
pool_opcode uses.LoadConstant = 19
pool_opcode uses.LoadLong = 20
pool_opcode uses.GetStatic = 178
pool_opcode uses.PutStatic = 179
pool_opcode uses.GetField = 180
pool_opcode uses.PutField = 181
pool_opcode uses.InvokeVirtual = 182
pool_opcode uses.InvokeSpecial = 183
pool_opcode uses.InvokeStatic = 184
pool_opcode uses.New = 187
pool_opcode uses.NewReferenceArray = 189
pool_opcode uses.CheckCast = 192
pool_opcode uses.InstanceOf = 193

-- the types of newarray (JVMS 6.5, newarray)
abbrev pub primitive_code : Primitive → ℕ
primitive_code primitives.Boolean = 4
primitive_code primitives.Char = 5
primitive_code primitives.Byte = 8
primitive_code primitives.Short = 9
primitive_code primitives.Int = 10
primitive_code primitives.Long = 11
