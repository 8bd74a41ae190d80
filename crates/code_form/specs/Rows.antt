-- Rows of the JVMS, apart from the families of Opcodes: bytes, and which code they are (JVMS 6.5, 7).
use Rattle.std.specs.Prelude.{◌≡◌, ℕ, pos, negsuc, List, [], ◌∷◌, map, Ok, Err}
use Rattle.code_form.specs.declared.refusal.CodeRefusal.{CodeRefusal}
use Rattle.code_form.specs.declared.refusal.CodeRefusal.TheVariants.{BadOpcode, NotInProfile, BadTarget, Truncated}
use Rattle.code_form.specs.declared.ins.Number.TheVariants as numbers
use Rattle.code_form.specs.declared.ins.Sort.TheVariants as sorts
use Rattle.code_form.specs.declared.ins.Element.TheVariants as elements
use Rattle.code_form.specs.declared.ins.Access.TheVariants.{Load, Store}
use Rattle.code_form.specs.declared.ins.Slot.TheVariants as slots
use Rattle.code_form.specs.declared.ins.IntConstant.TheVariants as ints
use Rattle.code_form.specs.declared.ins.LongConstant.TheVariants as longs
use Rattle.code_form.specs.declared.ins.Constant.TheVariants as constants
use Rattle.code_form.specs.declared.ins.Stack.TheVariants.{Pop, Pop2, Dup, DupX1, DupX2, Dup2, Dup2X1, Dup2X2, Swap}
use Rattle.code_form.specs.declared.ins.Binary.TheVariants.{Add, Subtract, Multiply, Divide, Remainder, And, Or, Xor}
use Rattle.code_form.specs.declared.ins.Shift.TheVariants.{Left, Right, UnsignedRight}
use Rattle.code_form.specs.declared.ins.Conversion.TheVariants.{IntToLong, LongToInt, IntToByte, IntToChar, IntToShort}
use Rattle.code_form.specs.declared.ins.Plain.TheVariants as plain
use Rattle.code_form.specs.declared.ins.Condition.TheVariants as conditions
use Rattle.code_form.specs.declared.ins.Equality.TheVariants as equalities
use Rattle.code_form.specs.declared.ins.Branch.TheVariants as branches
use Rattle.code_form.specs.declared.ins.PoolUse.TheVariants as uses
use Rattle.code_form.specs.declared.ins.Primitive.TheVariants as primitives
use Rattle.code_form.specs.declared.ins.Local.TheVariants as locals
use Rattle.code_form.specs.declared.ins.Ins.{Ins}
use Rattle.code_form.specs.declared.ins.Ins.TheVariants as ins
use Rattle.code_form.specs.declared.ins.Placed.{Placed}
use Rattle.code_form.specs.Reading.{code_of}

-- bytes, and the only instruction that they are
abbrev pub Row : Type 0
Row = List ℕ × Ins

abbrev pub at : ℕ → Ins → Placed
at pc i = record { pc = pc; ins = i }

-- each row's bytes are the code of its instruction
abbrev pub AreCodes : List Row → Type 0
AreCodes rows = map (λ row. code_of row.0) rows ≡ map (λ row. Ok (at 0 row.1 ∷ [])) rows

-- each row's bytes are refused as it says
abbrev pub AreRefused : List (List ℕ × CodeRefusal) → Type 0
AreRefused rows = map (λ row. code_of row.0) rows ≡ map (λ row. Err row.1) rows

-- constants and loads
abbrev pub loads : List Row
loads =
    (0 ∷ [], ins.Plain plain.Nop) ∷
    (1 ∷ [], ins.Plain (plain.Constant constants.Null)) ∷
    (2 ∷ [], ins.Plain (plain.Constant (constants.Int ints.MinusOne))) ∷
    (3 ∷ [], ins.Plain (plain.Constant (constants.Int ints.Zero))) ∷
    (4 ∷ [], ins.Plain (plain.Constant (constants.Int ints.One))) ∷
    (5 ∷ [], ins.Plain (plain.Constant (constants.Int ints.Two))) ∷
    (6 ∷ [], ins.Plain (plain.Constant (constants.Int ints.Three))) ∷
    (7 ∷ [], ins.Plain (plain.Constant (constants.Int ints.Four))) ∷
    (8 ∷ [], ins.Plain (plain.Constant (constants.Int ints.Five))) ∷
    (9 ∷ [], ins.Plain (plain.Constant (constants.Long longs.Zero))) ∷
    (10 ∷ [], ins.Plain (plain.Constant (constants.Long longs.One))) ∷
    (16 ∷ 128 ∷ [], ins.PushByte (negsuc 127)) ∷
    (17 ∷ 255 ∷ 254 ∷ [], ins.PushShort (negsuc 1)) ∷
    (18 ∷ 254 ∷ [], ins.LoadConstant 254) ∷
    (19 ∷ 1 ∷ 2 ∷ [], ins.Pool uses.LoadConstant 258) ∷
    (20 ∷ 1 ∷ 2 ∷ [], ins.Pool uses.LoadLong 258) ∷
    (21 ∷ 7 ∷ [], ins.Variable Load sorts.Int (locals.Byte 7)) ∷
    (22 ∷ 7 ∷ [], ins.Variable Load sorts.Long (locals.Byte 7)) ∷
    (25 ∷ 200 ∷ [], ins.Variable Load sorts.Reference (locals.Byte 200)) ∷
    (26 ∷ [], ins.Variable Load sorts.Int (locals.Short slots.Zero)) ∷
    (27 ∷ [], ins.Variable Load sorts.Int (locals.Short slots.One)) ∷
    (28 ∷ [], ins.Variable Load sorts.Int (locals.Short slots.Two)) ∷
    (29 ∷ [], ins.Variable Load sorts.Int (locals.Short slots.Three)) ∷
    (30 ∷ [], ins.Variable Load sorts.Long (locals.Short slots.Zero)) ∷
    (31 ∷ [], ins.Variable Load sorts.Long (locals.Short slots.One)) ∷
    (32 ∷ [], ins.Variable Load sorts.Long (locals.Short slots.Two)) ∷
    (33 ∷ [], ins.Variable Load sorts.Long (locals.Short slots.Three)) ∷
    (42 ∷ [], ins.Variable Load sorts.Reference (locals.Short slots.Zero)) ∷
    (43 ∷ [], ins.Variable Load sorts.Reference (locals.Short slots.One)) ∷
    (44 ∷ [], ins.Variable Load sorts.Reference (locals.Short slots.Two)) ∷
    (45 ∷ [], ins.Variable Load sorts.Reference (locals.Short slots.Three)) ∷
    (46 ∷ [], ins.Plain (plain.Element Load elements.Int)) ∷
    (47 ∷ [], ins.Plain (plain.Element Load elements.Long)) ∷
    (50 ∷ [], ins.Plain (plain.Element Load elements.Reference)) ∷
    (51 ∷ [], ins.Plain (plain.Element Load elements.Byte)) ∷
    (52 ∷ [], ins.Plain (plain.Element Load elements.Char)) ∷
    (53 ∷ [], ins.Plain (plain.Element Load elements.Short)) ∷
    []

-- stores and the stack
abbrev pub stores : List Row
stores =
    (54 ∷ 7 ∷ [], ins.Variable Store sorts.Int (locals.Byte 7)) ∷
    (55 ∷ 7 ∷ [], ins.Variable Store sorts.Long (locals.Byte 7)) ∷
    (58 ∷ 200 ∷ [], ins.Variable Store sorts.Reference (locals.Byte 200)) ∷
    (59 ∷ [], ins.Variable Store sorts.Int (locals.Short slots.Zero)) ∷
    (60 ∷ [], ins.Variable Store sorts.Int (locals.Short slots.One)) ∷
    (61 ∷ [], ins.Variable Store sorts.Int (locals.Short slots.Two)) ∷
    (62 ∷ [], ins.Variable Store sorts.Int (locals.Short slots.Three)) ∷
    (63 ∷ [], ins.Variable Store sorts.Long (locals.Short slots.Zero)) ∷
    (64 ∷ [], ins.Variable Store sorts.Long (locals.Short slots.One)) ∷
    (65 ∷ [], ins.Variable Store sorts.Long (locals.Short slots.Two)) ∷
    (66 ∷ [], ins.Variable Store sorts.Long (locals.Short slots.Three)) ∷
    (75 ∷ [], ins.Variable Store sorts.Reference (locals.Short slots.Zero)) ∷
    (76 ∷ [], ins.Variable Store sorts.Reference (locals.Short slots.One)) ∷
    (77 ∷ [], ins.Variable Store sorts.Reference (locals.Short slots.Two)) ∷
    (78 ∷ [], ins.Variable Store sorts.Reference (locals.Short slots.Three)) ∷
    (79 ∷ [], ins.Plain (plain.Element Store elements.Int)) ∷
    (80 ∷ [], ins.Plain (plain.Element Store elements.Long)) ∷
    (83 ∷ [], ins.Plain (plain.Element Store elements.Reference)) ∷
    (84 ∷ [], ins.Plain (plain.Element Store elements.Byte)) ∷
    (85 ∷ [], ins.Plain (plain.Element Store elements.Char)) ∷
    (86 ∷ [], ins.Plain (plain.Element Store elements.Short)) ∷
    (87 ∷ [], ins.Plain (plain.Stack Pop)) ∷
    (88 ∷ [], ins.Plain (plain.Stack Pop2)) ∷
    (89 ∷ [], ins.Plain (plain.Stack Dup)) ∷
    (90 ∷ [], ins.Plain (plain.Stack DupX1)) ∷
    (91 ∷ [], ins.Plain (plain.Stack DupX2)) ∷
    (92 ∷ [], ins.Plain (plain.Stack Dup2)) ∷
    (93 ∷ [], ins.Plain (plain.Stack Dup2X1)) ∷
    (94 ∷ [], ins.Plain (plain.Stack Dup2X2)) ∷
    (95 ∷ [], ins.Plain (plain.Stack Swap)) ∷
    []

-- arithmetic
abbrev pub arithmetic : List Row
arithmetic =
    (96 ∷ [], ins.Plain (plain.Binary numbers.Int Add)) ∷
    (97 ∷ [], ins.Plain (plain.Binary numbers.Long Add)) ∷
    (100 ∷ [], ins.Plain (plain.Binary numbers.Int Subtract)) ∷
    (101 ∷ [], ins.Plain (plain.Binary numbers.Long Subtract)) ∷
    (104 ∷ [], ins.Plain (plain.Binary numbers.Int Multiply)) ∷
    (105 ∷ [], ins.Plain (plain.Binary numbers.Long Multiply)) ∷
    (108 ∷ [], ins.Plain (plain.Binary numbers.Int Divide)) ∷
    (109 ∷ [], ins.Plain (plain.Binary numbers.Long Divide)) ∷
    (112 ∷ [], ins.Plain (plain.Binary numbers.Int Remainder)) ∷
    (113 ∷ [], ins.Plain (plain.Binary numbers.Long Remainder)) ∷
    (116 ∷ [], ins.Plain (plain.Negate numbers.Int)) ∷
    (117 ∷ [], ins.Plain (plain.Negate numbers.Long)) ∷
    (120 ∷ [], ins.Plain (plain.Shift numbers.Int Left)) ∷
    (121 ∷ [], ins.Plain (plain.Shift numbers.Long Left)) ∷
    (122 ∷ [], ins.Plain (plain.Shift numbers.Int Right)) ∷
    (123 ∷ [], ins.Plain (plain.Shift numbers.Long Right)) ∷
    (124 ∷ [], ins.Plain (plain.Shift numbers.Int UnsignedRight)) ∷
    (125 ∷ [], ins.Plain (plain.Shift numbers.Long UnsignedRight)) ∷
    (126 ∷ [], ins.Plain (plain.Binary numbers.Int And)) ∷
    (127 ∷ [], ins.Plain (plain.Binary numbers.Long And)) ∷
    (128 ∷ [], ins.Plain (plain.Binary numbers.Int Or)) ∷
    (129 ∷ [], ins.Plain (plain.Binary numbers.Long Or)) ∷
    (130 ∷ [], ins.Plain (plain.Binary numbers.Int Xor)) ∷
    (131 ∷ [], ins.Plain (plain.Binary numbers.Long Xor)) ∷
    (132 ∷ 3 ∷ 255 ∷ [], ins.Increment 3 (negsuc 0)) ∷
    (133 ∷ [], ins.Plain (plain.Convert IntToLong)) ∷
    (136 ∷ [], ins.Plain (plain.Convert LongToInt)) ∷
    (145 ∷ [], ins.Plain (plain.Convert IntToByte)) ∷
    (146 ∷ [], ins.Plain (plain.Convert IntToChar)) ∷
    (147 ∷ [], ins.Plain (plain.Convert IntToShort)) ∷
    (148 ∷ [], ins.Plain plain.CompareLongs) ∷
    []

-- jumps, switches and returns
abbrev pub jumps : List Row
jumps =
    (153 ∷ 0 ∷ 0 ∷ [], ins.Branch (branches.If conditions.Equal) 0) ∷
    (154 ∷ 0 ∷ 0 ∷ [], ins.Branch (branches.If conditions.NotEqual) 0) ∷
    (155 ∷ 0 ∷ 0 ∷ [], ins.Branch (branches.If conditions.Less) 0) ∷
    (156 ∷ 0 ∷ 0 ∷ [], ins.Branch (branches.If conditions.GreaterOrEqual) 0) ∷
    (157 ∷ 0 ∷ 0 ∷ [], ins.Branch (branches.If conditions.Greater) 0) ∷
    (158 ∷ 0 ∷ 0 ∷ [], ins.Branch (branches.If conditions.LessOrEqual) 0) ∷
    (159 ∷ 0 ∷ 0 ∷ [], ins.Branch (branches.IfInts conditions.Equal) 0) ∷
    (160 ∷ 0 ∷ 0 ∷ [], ins.Branch (branches.IfInts conditions.NotEqual) 0) ∷
    (161 ∷ 0 ∷ 0 ∷ [], ins.Branch (branches.IfInts conditions.Less) 0) ∷
    (162 ∷ 0 ∷ 0 ∷ [], ins.Branch (branches.IfInts conditions.GreaterOrEqual) 0) ∷
    (163 ∷ 0 ∷ 0 ∷ [], ins.Branch (branches.IfInts conditions.Greater) 0) ∷
    (164 ∷ 0 ∷ 0 ∷ [], ins.Branch (branches.IfInts conditions.LessOrEqual) 0) ∷
    (165 ∷ 0 ∷ 0 ∷ [], ins.Branch (branches.IfReferences equalities.Equal) 0) ∷
    (166 ∷ 0 ∷ 0 ∷ [], ins.Branch (branches.IfReferences equalities.NotEqual) 0) ∷
    (167 ∷ 0 ∷ 0 ∷ [], ins.Branch branches.Goto 0) ∷ (
      170 ∷ 0 ∷ 0 ∷ 0 ∷ 0 ∷ 0 ∷ 0 ∷ 0 ∷ 255 ∷ 255 ∷ 255 ∷ 255 ∷
          0 ∷ 0 ∷ 0 ∷ 0 ∷ 0 ∷ 0 ∷ 0 ∷ 0 ∷ 0 ∷ 0 ∷ 0 ∷ 0 ∷ [],
      ins.TableSwitch 0 (negsuc 0) (pos 0) (0 ∷ 0 ∷ []),
    ) ∷ (
      171 ∷ 0 ∷ 0 ∷ 0 ∷ 0 ∷ 0 ∷ 0 ∷ 0 ∷ 0 ∷ 0 ∷ 0 ∷ 1 ∷ 128 ∷ 0 ∷ 0 ∷ 0 ∷ 0 ∷ 0 ∷ 0 ∷ 0 ∷ [],
      ins.LookupSwitch 0 (record { key = negsuc 2147483647; target = 0 } ∷ []),
    ) ∷
    (172 ∷ [], ins.Plain (plain.ReturnValue sorts.Int)) ∷
    (173 ∷ [], ins.Plain (plain.ReturnValue sorts.Long)) ∷
    (176 ∷ [], ins.Plain (plain.ReturnValue sorts.Reference)) ∷
    (177 ∷ [], ins.Plain plain.Return) ∷
    []

-- fields, calls, objects, wide and goto_w
abbrev pub objects : List Row
objects =
    (178 ∷ 1 ∷ 2 ∷ [], ins.Pool uses.GetStatic 258) ∷
    (179 ∷ 1 ∷ 2 ∷ [], ins.Pool uses.PutStatic 258) ∷
    (180 ∷ 1 ∷ 2 ∷ [], ins.Pool uses.GetField 258) ∷
    (181 ∷ 1 ∷ 2 ∷ [], ins.Pool uses.PutField 258) ∷
    (182 ∷ 1 ∷ 2 ∷ [], ins.Pool uses.InvokeVirtual 258) ∷
    (183 ∷ 1 ∷ 2 ∷ [], ins.Pool uses.InvokeSpecial 258) ∷
    (184 ∷ 1 ∷ 2 ∷ [], ins.Pool uses.InvokeStatic 258) ∷
    (185 ∷ 1 ∷ 2 ∷ 3 ∷ 0 ∷ [], ins.InvokeInterface 258 3) ∷
    (187 ∷ 1 ∷ 2 ∷ [], ins.Pool uses.New 258) ∷
    (188 ∷ 4 ∷ [], ins.NewArray primitives.Boolean) ∷
    (188 ∷ 5 ∷ [], ins.NewArray primitives.Char) ∷
    (188 ∷ 8 ∷ [], ins.NewArray primitives.Byte) ∷
    (188 ∷ 9 ∷ [], ins.NewArray primitives.Short) ∷
    (188 ∷ 10 ∷ [], ins.NewArray primitives.Int) ∷
    (188 ∷ 11 ∷ [], ins.NewArray primitives.Long) ∷
    (189 ∷ 1 ∷ 2 ∷ [], ins.Pool uses.NewReferenceArray 258) ∷
    (190 ∷ [], ins.Plain plain.ArrayLength) ∷
    (191 ∷ [], ins.Plain plain.Throw) ∷
    (192 ∷ 1 ∷ 2 ∷ [], ins.Pool uses.CheckCast 258) ∷
    (193 ∷ 1 ∷ 2 ∷ [], ins.Pool uses.InstanceOf 258) ∷
    (194 ∷ [], ins.Plain plain.MonitorEnter) ∷
    (195 ∷ [], ins.Plain plain.MonitorExit) ∷
    (196 ∷ 21 ∷ 1 ∷ 2 ∷ [], ins.Variable Load sorts.Int (locals.Wide 258)) ∷
    (196 ∷ 22 ∷ 1 ∷ 2 ∷ [], ins.Variable Load sorts.Long (locals.Wide 258)) ∷
    (196 ∷ 25 ∷ 1 ∷ 2 ∷ [], ins.Variable Load sorts.Reference (locals.Wide 258)) ∷
    (196 ∷ 54 ∷ 1 ∷ 2 ∷ [], ins.Variable Store sorts.Int (locals.Wide 258)) ∷
    (196 ∷ 55 ∷ 1 ∷ 2 ∷ [], ins.Variable Store sorts.Long (locals.Wide 258)) ∷
    (196 ∷ 58 ∷ 1 ∷ 2 ∷ [], ins.Variable Store sorts.Reference (locals.Wide 258)) ∷
    (196 ∷ 132 ∷ 1 ∷ 2 ∷ 128 ∷ 0 ∷ [], ins.IncrementWide 258 (negsuc 32767)) ∷
    (198 ∷ 0 ∷ 0 ∷ [], ins.Branch branches.IfNull 0) ∷
    (199 ∷ 0 ∷ 0 ∷ [], ins.Branch branches.IfNonNull 0) ∷
    (200 ∷ 0 ∷ 0 ∷ 0 ∷ 0 ∷ [], ins.GotoWide 0) ∷
    []

-- bytes that are no code, each with its first fault
abbrev pub refusals : List (List ℕ × CodeRefusal)
refusals =
    (202 ∷ [], BadOpcode 0) ∷
    (0 ∷ 255 ∷ [], BadOpcode 1) ∷
    (196 ∷ 0 ∷ [], BadOpcode 0) ∷
    (0 ∷ 196 ∷ 26 ∷ 0 ∷ 0 ∷ [], BadOpcode 1) ∷
    (196 ∷ 169 ∷ 0 ∷ 0 ∷ [], BadOpcode 0) ∷
    (11 ∷ [], NotInProfile 0 11) ∷
    (0 ∷ 99 ∷ [], NotInProfile 1 99) ∷
    (168 ∷ 0 ∷ 0 ∷ [], NotInProfile 0 168) ∷
    (186 ∷ 0 ∷ 1 ∷ 0 ∷ 0 ∷ [], NotInProfile 0 186) ∷
    (197 ∷ 0 ∷ 1 ∷ 2 ∷ [], NotInProfile 0 197) ∷
    (201 ∷ [], NotInProfile 0 201) ∷
    (188 ∷ 6 ∷ [], NotInProfile 0 188) ∷
    (188 ∷ 7 ∷ [], NotInProfile 0 188) ∷
    (188 ∷ 3 ∷ [], BadOpcode 0) ∷
    (188 ∷ 12 ∷ [], BadOpcode 0) ∷
    (16 ∷ [], Truncated 0) ∷
    (0 ∷ 17 ∷ 1 ∷ [], Truncated 1) ∷
    (196 ∷ [], Truncated 0) ∷
    (196 ∷ 132 ∷ 0 ∷ 0 ∷ 0 ∷ [], Truncated 0) ∷
    (185 ∷ 0 ∷ 1 ∷ 1 ∷ [], Truncated 0) ∷
    (0 ∷ 170 ∷ 0 ∷ [], Truncated 1) ∷
    (171 ∷ 0 ∷ 0 ∷ 0 ∷ 0 ∷ 0 ∷ 0 ∷ 0 ∷ 0 ∷ 0 ∷ 0 ∷ 1 ∷ 0 ∷ 0 ∷ 0 ∷ 0 ∷ [], Truncated 0) ∷
    (170 ∷ 0 ∷ 0 ∷ 0 ∷ 0 ∷ 0 ∷ 0 ∷ 0 ∷ 0 ∷ 0 ∷ 0 ∷ 1 ∷ 0 ∷ 0 ∷ 0 ∷ 0 ∷ [], BadTarget 0) ∷
    (171 ∷ 0 ∷ 0 ∷ 0 ∷ 0 ∷ 0 ∷ 0 ∷ 0 ∷ 255 ∷ 255 ∷ 255 ∷ 255 ∷ [], BadTarget 0) ∷
    (167 ∷ 0 ∷ 3 ∷ [], BadTarget 0) ∷
    (167 ∷ 0 ∷ 1 ∷ 0 ∷ [], BadTarget 0) ∷
    (0 ∷ 167 ∷ 255 ∷ 254 ∷ [], BadTarget 1) ∷
    (200 ∷ 128 ∷ 0 ∷ 0 ∷ 0 ∷ [], BadTarget 0) ∷
    (167 ∷ 0 ∷ 1 ∷ 202 ∷ [], BadOpcode 3) ∷
    (0 ∷ 167 ∷ 0 ∷ 1 ∷ 167 ∷ 0 ∷ 1 ∷ [], BadTarget 1) ∷
    (170 ∷ 0 ∷ 0 ∷ 0 ∷ 0 ∷ 0 ∷ 0 ∷ 1 ∷ 0 ∷ 0 ∷ 0 ∷ 0 ∷ 0 ∷ 0 ∷ 0 ∷ 0 ∷ 0 ∷ 0 ∷ 0 ∷ 0 ∷ [], BadTarget 0) ∷
    []

-- a code whose padding and passed-over byte aren't 0, and which instructions it is
abbrev pub whole_bytes : List ℕ
whole_bytes =
    3 ∷ 170 ∷ 9 ∷ 8 ∷ 0 ∷ 0 ∷ 0 ∷ 48 ∷ 0 ∷ 0 ∷ 0 ∷ 5 ∷ 0 ∷ 0 ∷ 0 ∷ 6 ∷ 0 ∷ 0 ∷ 0 ∷ 23 ∷ 0 ∷ 0 ∷ 0 ∷
    26 ∷ 167 ∷ 255 ∷ 232 ∷ 171 ∷ 0 ∷ 0 ∷ 0 ∷ 17 ∷ 0 ∷ 0 ∷ 0 ∷ 1 ∷ 255 ∷ 255 ∷ 255 ∷ 255 ∷ 255 ∷ 255 ∷
    255 ∷ 230 ∷ 185 ∷ 0 ∷ 5 ∷ 2 ∷ 77 ∷ 177 ∷ []

abbrev pub whole_code : List Placed
whole_code =
    at 0 (ins.Plain (plain.Constant (constants.Int ints.Zero))) ∷
    at 1 (ins.TableSwitch 49 (pos 5) (pos 6) (24 ∷ 27 ∷ [])) ∷
    at 24 (ins.Branch branches.Goto 0) ∷
    at 27 (ins.LookupSwitch 44 (record { key = negsuc 0; target = 1 } ∷ [])) ∷
    at 44 (ins.InvokeInterface 5 2) ∷
    at 49 (ins.Plain plain.Return) ∷
    []

-- as it is written
abbrev pub whole_written : List ℕ
whole_written =
    3 ∷ 170 ∷ 0 ∷ 0 ∷ 0 ∷ 0 ∷ 0 ∷ 48 ∷ 0 ∷ 0 ∷ 0 ∷ 5 ∷ 0 ∷ 0 ∷ 0 ∷ 6 ∷ 0 ∷ 0 ∷ 0 ∷ 23 ∷ 0 ∷ 0 ∷ 0 ∷
    26 ∷ 167 ∷ 255 ∷ 232 ∷ 171 ∷ 0 ∷ 0 ∷ 0 ∷ 17 ∷ 0 ∷ 0 ∷ 0 ∷ 1 ∷ 255 ∷ 255 ∷ 255 ∷ 255 ∷ 255 ∷ 255 ∷
    255 ∷ 230 ∷ 185 ∷ 0 ∷ 5 ∷ 2 ∷ 0 ∷ 177 ∷ []
