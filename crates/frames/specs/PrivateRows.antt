-- What each private instruction does, as decoded (JVMS 6.5). Stacks are written with the top first.
use Rattle.std.specs.Prelude.{ℕ, List, [], ◌∷◌, ℤ, pos, negsuc, None}
use Rattle.run_types.specs.declared.fault.StepFault.TheVariants as fault
use Rattle.code_form.specs.declared.ins.Binary.TheVariants.{Subtract, Divide, Remainder}
use Rattle.code_form.specs.declared.ins.Case.{Case}
use Rattle.code_form.specs.declared.ins.Condition.TheVariants as is
use Rattle.code_form.specs.declared.ins.Conversion.TheVariants.{IntToLong, IntToByte}
use Rattle.code_form.specs.declared.ins.Equality.TheVariants as equality
use Rattle.code_form.specs.declared.ins.Number.TheVariants as number
use Rattle.code_form.specs.declared.ins.Shift.TheVariants.{Left, UnsignedRight}
use Rattle.code_form.specs.declared.ins.Sort.TheVariants as sort
use Rattle.code_form.specs.declared.ins.Stack.TheVariants.{DupX1, Swap}
use Rattle.natives.specs.declared.requests.Request.{Request}
use Rattle.natives.specs.declared.requests.Request.TheVariants as ask
use Rattle.frame_cells.specs.declared.cell.Cell.{Cell}
use Rattle.frame_cells.specs.declared.cell.Cell.TheVariants.{Empty, Int, Long, Half, Reference}
use Rattle.frames.specs.declared.op.Op.{Op}
use Rattle.frames.specs.declared.op.Op.TheVariants as op
use Rattle.frames.specs.declared.program.Lookup.{Lookup}
use Rattle.frames.specs.declared.program.Program.{Program}
use Rattle.frames.specs.declared.program.Table.{Table}
use Rattle.frames.specs.Settings.{Frame, Running}
use Rattle.frames.specs.Rows.{Turn, at_pc, static_method, program, runs, paused, asks, from}

abbrev pub Cells : Type 0
Cells = List (Cell ℕ)

abbrev pub table : ℤ → ℕ → List ℕ → Table
table low default targets = record { low = low; default = default; targets = targets }

abbrev pub case : ℤ → ℕ → Case
case key target = record { key = key; target = target }

abbrev pub lookup : ℕ → List Case → Lookup
lookup default cases = record { default = default; cases = cases }

-- an instruction at offset 5 of a method with three locals, whose stack may have five cells
abbrev pub one : Op → Program ℕ
one o = record (program (at_pc 0 5 o ∷ []) (static_method 2 0 [] 3 5 [] ∷ []) None) {
  tables = table (pos 0) 6 [] ∷ table (negsuc 0) 30 (31 ∷ 32 ∷ []) ∷ [];
  lookups = lookup 6 [] ∷ lookup 40 (case (negsuc 4) 41 ∷ case (pos 7) 42 ∷ []) ∷ [];
  longs = pos 6 ∷ pos 4294967296 ∷ [];
}

abbrev pub frames_at : ℕ → (locals stack : Cells) → List (Frame ℕ ℕ)
frames_at at locals stack = Running 0 at (record { locals = locals; stack = stack; room = 5 }) None ∷ []

-- an instruction, its frame, and where it leaves it, in a turn that is over once it is done
abbrev pub goes : Op → (locals stack : Cells) → ℕ → (new_locals new_stack : Cells) → Turn
goes o locals stack at new_locals new_stack = (
  one o,
  1,
  runs (frames_at 0 locals stack),
  asks ask.Pause (paused (runs (frames_at at new_locals new_stack))),
)

-- on with the next instruction, or at 8
abbrev pub leaves : Op → Cells → Cells → Turn
leaves o stack new = goes o [] stack 1 [] new

abbrev pub jumps : Op → Cells → ℕ → Turn
jumps o stack target = goes o [] stack target [] []

abbrev pub ends : Op → Cells → Request ℕ (Cell ℕ) → Turn
ends o stack request = (one o, 1, runs (frames_at 0 [] stack), asks request (runs (frames_at 0 [] stack)))

abbrev pub locals : Cells → Cells
locals cells = Int (pos 4) ∷ cells

abbrev pub long : ℤ → Cells
long v = Half ∷ Long v ∷ []

abbrev pub constants : List Turn
constants =
    leaves op.Nop (Int (pos 1) ∷ []) (Int (pos 1) ∷ []) ∷
    leaves op.PushNull (Int (pos 1) ∷ []) (Reference 0 ∷ Int (pos 1) ∷ []) ∷
    leaves (op.PushInt (negsuc 2)) (Int (pos 1) ∷ []) (Int (negsuc 2) ∷ Int (pos 1) ∷ []) ∷
    leaves (op.PushLong 1) [] (long (pos 4294967296)) ∷
    leaves (op.PushLiteral 3) [] (Reference 103 ∷ []) ∷ []

abbrev pub moves : List Turn
moves =
    goes (op.Load sort.Int 0) (locals []) [] 1 (locals []) (Int (pos 4) ∷ []) ∷
    goes (op.Load sort.Long 1) (locals (Long (pos 9) ∷ Half ∷ [])) [] 1
    (locals (Long (pos 9) ∷ Half ∷ [])) (long (pos 9)) ∷
    goes (op.Load sort.Reference 1) (locals (Reference 30 ∷ [])) [] 1 (locals (Reference 30 ∷ []))
    (Reference 30 ∷ []) ∷
    goes (op.Store sort.Int 1) (locals (Empty ∷ [])) (Int (pos 7) ∷ []) 1 (locals (Int (pos 7) ∷ [])) [] ∷
    goes (op.Store sort.Long 1) (locals (Empty ∷ Empty ∷ [])) (long (pos 9)) 1
    (locals (Long (pos 9) ∷ Half ∷ [])) [] ∷
    goes (op.Store sort.Reference 1) (locals (Empty ∷ [])) (Reference 30 ∷ []) 1
    (locals (Reference 30 ∷ [])) [] ∷
    goes (op.Increment 1 (negsuc 2)) (locals (Int (pos 9) ∷ [])) [] 1 (locals (Int (pos 6) ∷ [])) [] ∷
    leaves (op.Stack DupX1) (Int (pos 1) ∷ Reference 2 ∷ []) (Int (pos 1) ∷ Reference 2 ∷ Int (pos 1) ∷ []) ∷
    leaves (op.Stack Swap) (Int (pos 1) ∷ Reference 2 ∷ []) (Reference 2 ∷ Int (pos 1) ∷ []) ∷ []

abbrev pub numbers : List Turn
numbers =
    leaves (op.Binary number.Int Subtract) (Int (pos 3) ∷ Int (pos 5) ∷ []) (Int (pos 2) ∷ []) ∷
    leaves (op.Binary number.Long Divide) (Half ∷ Long (pos 3) ∷ long (pos 12)) (long (pos 4)) ∷
    ends (op.Binary number.Int Remainder) (Int (pos 0) ∷ Int (pos 5) ∷ []) (ask.Raise (from 2 5) 3) ∷
    leaves (op.Negate number.Int) (Int (pos 3) ∷ []) (Int (negsuc 2) ∷ []) ∷
    leaves (op.Negate number.Long) (long (pos 3)) (long (negsuc 2)) ∷
    leaves (op.Shift number.Int UnsignedRight) (Int (pos 28) ∷ Int (negsuc 0) ∷ []) (Int (pos 15) ∷ []) ∷
    leaves (op.Shift number.Long Left) (Int (pos 33) ∷ long (pos 1)) (long (pos 8589934592)) ∷
    leaves (op.Convert IntToLong) (Int (pos 3) ∷ []) (long (pos 3)) ∷
    leaves (op.Convert IntToByte) (Int (pos 200) ∷ []) (Int (negsuc 55) ∷ []) ∷
    leaves op.CompareLongs (Half ∷ Long (pos 2) ∷ long (pos 1)) (Int (negsuc 0) ∷ []) ∷ []

-- Branches go to 8 where they are taken; `if_icmplt` compares the lower cell with the top.
abbrev pub branches : List Turn
branches =
    jumps (op.If is.Less 8) (Int (negsuc 0) ∷ []) 8 ∷
    leaves (op.If is.Less 8) (Int (pos 0) ∷ []) [] ∷
    jumps (op.If is.Greater 8) (Int (pos 1) ∷ []) 8 ∷
    jumps (op.IfInts is.Less 8) (Int (pos 2) ∷ Int (pos 1) ∷ []) 8 ∷
    leaves (op.IfInts is.Less 8) (Int (pos 1) ∷ Int (pos 2) ∷ []) [] ∷
    jumps (op.IfInts is.Equal 8) (Int (pos 2) ∷ Int (pos 2) ∷ []) 8 ∷
    jumps (op.IfNull equality.Equal 8) (Reference 0 ∷ []) 8 ∷
    leaves (op.IfNull equality.Equal 8) (Reference 30 ∷ []) [] ∷
    jumps (op.IfNull equality.NotEqual 8) (Reference 30 ∷ []) 8 ∷
    leaves (op.IfNull equality.NotEqual 8) (Reference 0 ∷ []) [] ∷
    jumps (op.Goto 8) [] 8 ∷
    jumps (op.TableSwitch 1) (Int (pos 0) ∷ []) 32 ∷
    jumps (op.TableSwitch 1) (Int (pos 1) ∷ []) 30 ∷
    jumps (op.TableSwitch 1) (Int (negsuc 1) ∷ []) 30 ∷
    jumps (op.LookupSwitch 1) (Int (pos 7) ∷ []) 42 ∷
    jumps (op.LookupSwitch 1) (Int (pos 8) ∷ []) 40 ∷
    ends op.Bad [] (ask.Broken (fault.BadCode (from 2 5))) ∷ []
