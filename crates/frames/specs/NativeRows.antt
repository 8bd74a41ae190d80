-- A program that calls a built-in method which asks requests and calls methods itself (JVMS 2.5.6, 2.6).
use Rattle.std.specs.Prelude.{◌≡◌, ℕ, true, false, nat_eq, ◌+◌, List, [], ◌∷◌, map, pos, Some, None}
use Rattle.ap_base.specs.declared.kind.Kind.TheVariants.{Text}
use Rattle.run_types.specs.declared.resolved.At.{At}
use Rattle.run_types.specs.declared.fault.LinkKind.TheVariants.{MissingMethod}
use Rattle.run_types.specs.declared.fault.StepFault.TheVariants as fault
use Rattle.run_types.specs.declared.fault.Which.TheVariants.{FrameSlots}
use Rattle.code_form.specs.declared.ins.Sort.{Sort}
use Rattle.code_form.specs.declared.ins.Sort.TheVariants as sort
use Rattle.natives.specs.declared.requests.Request.{Request}
use Rattle.natives.specs.declared.requests.Request.TheVariants as ask
use Rattle.natives.specs.declared.requests.Reply.{Reply}
use Rattle.natives.specs.declared.requests.Reply.TheVariants as reply
use Rattle.frame_cells.specs.declared.cell.Cell.{Cell}
use Rattle.frame_cells.specs.declared.cell.Cell.TheVariants.{Int, Long, Reference}
use Rattle.frames.specs.declared.given.Given.TheVariants as given
use Rattle.frames.specs.declared.op.Op.TheVariants as op
use Rattle.frames.specs.declared.program.Body.TheVariants as body
use Rattle.frames.specs.declared.program.Catch.TheVariants as catch
use Rattle.frames.specs.declared.program.Dispatch.{Dispatch}
use Rattle.frames.specs.declared.program.Method.{Method}
use Rattle.frames.specs.declared.program.Program.{Program}
use Rattle.frames.specs.declared.program.Target.TheVariants as target
use Rattle.frames.specs.Settings.{Frame, Running, Native, Doing, Runs, Breaks, Frames, Run, ToString, NativeStep, Asks, Calls}
use Rattle.frames.specs.Settings.{Gives, Setting}
use Rattle.frames.specs.Calls.{Stepped}
use Rattle.frames.specs.Turns.{turn_of, answer_if}
use Rattle.frames.specs.Rows.{main_at, cells_of, at_pc, static_method, class_of, run_by, program, entry}

-- where a native method stands: it was given these, or it waits for a method or for a reply
pub data State : Type 0 where
  Begun : (native : ℕ) (from : At) → List (Cell ℕ) → State
  Waits : State

-- what it asks first names its first argument and its second
abbrev pub asks_first : At → List (Cell ℕ) → Request ℕ (Cell ℕ)
asks_first from (Reference r ∷ Int i ∷ []) = ask.GetElement from r i Text
asks_first from values = ask.Pause

abbrev pub state_asks : State → Request ℕ (Cell ℕ)
state_asks (Begun native from values) = asks_first from values
state_asks Waits = ask.Leave None

-- it gives an int back, or asks something else, or calls `run` or `toString` of an object; then it gives what
-- the method gave
abbrev pub goes_on_with : State → Reply ℕ (Cell ℕ) → NativeStep ℕ State
goes_on_with (Begun native from values) (reply.Printed n) = Asks Waits
goes_on_with (Begun native from values) (reply.Shape class) = Calls Waits Run class 30
goes_on_with (Begun native from values) (reply.Init class) = Calls Waits ToString class 30
goes_on_with state (reply.Item (Int v)) = Gives (given.Int v)
goes_on_with state (reply.Item (Reference r)) = Gives (given.Reference r)
goes_on_with state r = Gives given.Nothing

abbrev pub Calling : Type 0
Calling = Setting ℕ ℕ State (Cell ℕ)

abbrev pub setting : Program ℕ → Calling
setting p = record {
  program = p;
  main = main_at;
  null = 0;
  is_null = λ r. nat_eq r 0;
  literal = λ k. 100 + k;
  of_int = Int;
  of_long = Long;
  of_reference = Reference;
  cells = cells_of;
  start = Begun;
  asks = state_asks;
  next = goes_on_with;
}

-- an instance method of class 2
abbrev pub instance_method : (number entry : ℕ) → List Sort → Method ℕ
instance_method number entry parameters = record (static_method number entry parameters 1 2 [])
    { class = 2; is_static = false }

abbrev pub to_string_by : ℕ → Dispatch
to_string_by m = record { signature = 8; target = target.Method m }

-- Method 0, with so many locals, calls method 2, a native one with a receiver and an int; class 2 has 1 as
-- `run` and 3 as `toString`.
abbrev pub natives : ℕ → Program ℕ
natives locals = record
    (program
    (at_pc 0 5 (op.InvokeSpecial 2) ∷ at_pc 0 8 op.Nop ∷ at_pc 1 0 op.Return
    ∷ at_pc 3 0 (op.ReturnValue sort.Reference) ∷ [])
    (static_method 2 0 [] locals 6 (entry 0 1 1 catch.All ∷ [])
    ∷ instance_method 3 2 (sort.Reference ∷ [])
    ∷ record (instance_method 4 0 (sort.Int ∷ sort.Reference ∷ [])) { body = body.Native 6 }
    ∷ instance_method 5 3 (sort.Reference ∷ []) ∷ [])
    None) {
      classes =
          class_of [] [] None None true ∷
          class_of [] [] None None false ∷
          class_of [] (to_string_by 3 ∷ run_by 1 ∷ []) None None true ∷ [];
    }

abbrev pub Thread : Type 0
Thread = Frames ℕ State

abbrev pub does : Doing ℕ → List (Frame ℕ State) → Thread
does doing frames = record { doing = doing; frames = frames; paused = false }

abbrev pub runs : List (Frame ℕ State) → Thread
runs frames = does Runs frames

abbrev pub caller : ℕ → List (Cell ℕ) → List (Frame ℕ State)
caller at stack = Running 0 at (record { locals = []; stack = stack; room = 6 }) None ∷ []

-- the call, after it and before
abbrev pub below : List (Cell ℕ)
below = Int (pos 77) ∷ []

abbrev pub at_call : List (Frame ℕ State)
at_call = caller 0 (Int (pos 3) ∷ Reference 30 ∷ below)

abbrev pub left : List (Frame ℕ State)
left = caller 0 below

abbrev pub in_native : At
in_native = record { class = 2; method = 4; pc = 0 }

-- the native method, given its receiver and then its other argument
abbrev pub begun : Thread
begun = runs (Native in_native (Begun 6 in_native (Reference 30 ∷ Int (pos 3) ∷ [])) ∷ left)

abbrev pub waits : List (Frame ℕ State)
waits = Native in_native Waits ∷ left

-- a method that it called, with its receiver
abbrev pub called : (m at : ℕ) → List (Cell ℕ) → Thread
called m at stack =
    runs (Running m at (record { locals = Reference 30 ∷ []; stack = stack; room = 2 }) None ∷ waits)

abbrev pub Turn : Type 0
Turn = ℕ × ℕ × Thread × Stepped ℕ State (Cell ℕ)

abbrev pub AreTurns : List Turn → Type 0
AreTurns rows = map (λ row. turn_of (setting (natives row.0)) row.1 row.2) rows ≡ map (λ row. row.3) rows

abbrev pub asks : Request ℕ (Cell ℕ) → Thread → Stepped ℕ State (Cell ℕ)
asks request thread = record { frames = thread; asks = Some request }

abbrev pub pauses : List (Frame ℕ State) → Stepped ℕ State (Cell ℕ)
pauses frames = asks ask.Pause (record (runs frames) { paused = true })

-- Of 65,536 slots the caller's frame has 10 and one for each local; a native one's has 16.
abbrev pub few_slots : Stepped ℕ State (Cell ℕ)
few_slots =
    asks (ask.Broken (fault.Full (record { which = FrameSlots; need = 16; left = 15 }))) (runs at_call)

-- A native method is called with its arguments in order and asks; what a method gives that it called comes to
-- it as a reply, and what it gives itself to its caller, which goes on after the call.
abbrev pub turns : List Turn
turns =
    (0, 9, runs at_call, asks (ask.GetElement in_native 30 (pos 3) Text) begun) ∷
    (65510, 1, runs at_call, pauses begun.frames) ∷
    (65511, 9, runs at_call, few_slots) ∷
    (0, 1, called 1 2 [], pauses (caller 1 below)) ∷
    (0, 1, called 3 3 (Reference 35 ∷ []), pauses (caller 1 (Reference 35 ∷ below))) ∷ []

abbrev pub Answer : Type 0
Answer = Thread × Reply ℕ (Cell ℕ) × Thread

abbrev pub AreAnswers : List Answer → Type 0
AreAnswers rows =
    map (λ row. answer_if (setting (natives 0)) false row.0 row.1) rows ≡ map (λ row. row.2) rows

abbrev pub answers : List Answer
answers =
    (begun, reply.Item (Int (pos 65)), runs (caller 1 (Int (pos 65) ∷ below))) ∷
    (begun, reply.Done, runs (caller 1 below)) ∷
    (begun, reply.Printed 2, runs waits) ∷
    (begun, reply.Shape 2, called 1 2 []) ∷
    (begun, reply.Init 2, called 3 3 []) ∷
    (begun, reply.Shape 1, does (Breaks (fault.LinkFault MissingMethod 1 0)) waits) ∷
    (begun, reply.Thrown 31 2, runs (caller 1 (Reference 31 ∷ []))) ∷ []
