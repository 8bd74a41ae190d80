-- Whole turns, the requests of a thread that does no instruction, classes that are initialised, and calls
-- (JVMS 2.6, 2.11.8, 2.11.10, 5.5).
use Rattle.std.specs.Prelude.{◌≡◌, ℕ, true, false, List, [], ◌∷◌, map, ℤ, pos, Option, Some, None}
use Rattle.code_form.specs.declared.ins.Condition.TheVariants.{Less}
use Rattle.code_form.specs.declared.ins.Sort.{Sort}
use Rattle.code_form.specs.declared.ins.Sort.TheVariants as sort
use Rattle.run_types.specs.declared.resolved.At.{At}
use Rattle.run_types.specs.declared.key.Key.{Key}
use Rattle.run_types.specs.declared.key.Key.TheVariants as key
use Rattle.run_types.specs.declared.fault.LinkKind.TheVariants.{MissingMethod}
use Rattle.run_types.specs.declared.fault.StepFault.TheVariants as fault
use Rattle.natives.specs.declared.requests.Request.{Request}
use Rattle.natives.specs.declared.requests.Request.TheVariants as ask
use Rattle.natives.specs.declared.requests.Reply.{Reply}
use Rattle.natives.specs.declared.requests.Reply.TheVariants as reply
use Rattle.frame_cells.specs.declared.cell.Cell.{Cell}
use Rattle.frame_cells.specs.declared.cell.Cell.TheVariants.{Empty, Int, Long, Half, Reference}
use Rattle.frames.specs.declared.op.Op.{Op}
use Rattle.frames.specs.declared.op.Op.TheVariants as op
use Rattle.frames.specs.declared.program.Body.TheVariants as body
use Rattle.frames.specs.declared.program.Method.{Method}
use Rattle.frames.specs.declared.program.Selector.{Selector}
use Rattle.frames.specs.declared.program.Program.{Program}
use Rattle.frames.specs.Settings.{Frame, Running, Initialiser, Main, Enters, Initialises, Initialised, Breaks, Ends}
use Rattle.frames.specs.Calls.{Stepped}
use Rattle.frames.specs.Turns.{turn, answer, begun_main, begun_thread}
use Rattle.frames.specs.Rows.{Thread, Answer, setting, at_pc, static_method, program, running, runs, paused, asks, from, Turn}
use Rattle.frames.specs.Rows.{does, main_at, class_of}
use Rattle.frames.specs.RequestRows.{frames_at}

-- static void f() { int i = 0; do i++; while (i < 256); f(); }
abbrev pub counting : Program ℕ
counting = program
    (at_pc 0 0 (op.Increment 0 (pos 1)) ∷ at_pc 0 3 (op.Load sort.Int 0) ∷ at_pc 0 4 (op.PushInt (pos 256))
    ∷ at_pc 0 7 (op.IfInts Less 0) ∷ at_pc 0 10 (op.InvokeStatic 0) ∷ [])
    (static_method 2 0 [] 1 2 [] ∷ []) None

abbrev pub counts : (at : ℕ) → ℤ → Thread
counts at i = runs (running 0 at (Int i ∷ []) [] ∷ [])

-- what a thread does in a turn
abbrev pub WholeTurn : Type 0
WholeTurn = Program ℕ × Thread × Stepped ℕ ℕ (Cell ℕ)

abbrev pub AreWholeTurns : List WholeTurn → Type 0
AreWholeTurns rows = map (λ row. turn (setting row.0) row.1) rows ≡ map (λ row. row.2) rows

-- 1,024 private instructions are done, and then the request isn't asked any more; after 1,023 it is. A thread
-- that has paused pauses until it is answered.
abbrev pub whole_turns : List WholeTurn
whole_turns =
    (counting, counts 0 (pos 0), asks ask.Pause (paused (counts 4 (pos 256)))) ∷
    (counting, counts 1 (pos 1), asks (ask.Init (from 2 10) 0) (counts 4 (pos 256))) ∷
    (counting, paused (counts 4 (pos 256)), asks ask.Pause (paused (counts 4 (pos 256)))) ∷ []

abbrev pub AreWholeAnswers : List Answer → Type 0
AreWholeAnswers rows = map (λ row. answer (setting row.0) row.1 row.2) rows ≡ map (λ row. row.3) rows

abbrev pub whole_answers : List Answer
whole_answers =
    (counting, paused (counts 4 (pos 256)), reply.Done, counts 4 (pos 256)) ∷
    (counting, counts 4 (pos 256), reply.Done, runs (running 0 0 (Empty ∷ []) [] ∷ running 0 4 (Int (pos 256) ∷ []) [] ∷ [])) ∷ []

abbrev pub starts : Thread → Request ℕ (Cell ℕ) → Turn
starts thread request = (counting, 9, thread, asks request thread)

-- an initialiser of class 0 for the instruction at offset 10 of a method
abbrev pub for_call : Frame ℕ ℕ
for_call = Initialiser 0 (from 2 10)

-- What a thread asks that does no instruction. Before its first one it stands at `main`.
abbrev pub beginnings : List Turn
beginnings =
    starts (begun_main 5 2 40) (ask.Init main_at 5) ∷
    starts (begun_thread 41) (ask.ClassOf main_at 41 4) ∷
    starts (does (Initialises 5) (for_call ∷ [])) (ask.Init (from 2 10) 5) ∷
    starts (does (Breaks (fault.BadCode (from 2 4))) []) (ask.Broken (fault.BadCode (from 2 4))) ∷
    starts (does (Ends (Some 2)) []) (ask.Leave (Some 2)) ∷
    starts (does (Ends None) []) (ask.Leave None) ∷ []

-- Class 0 and its superclass 1 are of the program, and methods 1 and 2 are their initialisers; above them is
-- class 2, a built-in one. Class 3 is of the program and has no initialiser. Method 3 is `main`, with a local
-- besides its argument.
abbrev pub inheriting : Program ℕ
inheriting = record
    (program
    (at_pc 0 5 (op.InvokeStatic 3) ∷ at_pc 1 0 op.Return ∷ at_pc 2 0 op.Return ∷ at_pc 3 0 op.Return ∷ [])
    (static_method 2 0 [] 0 2 [] ∷ static_method 3 1 [] 0 0 [] ∷ static_method 4 2 [] 0 0 []
    ∷ static_method 5 3 (sort.Reference ∷ []) 2 1 [] ∷ [])
    None) {
      classes =
          class_of [] [] (Some 1) (Some 1) true ∷
          class_of [] [] (Some 2) (Some 2) true ∷
          class_of [] [] None None false ∷
          class_of [] [] (Some 2) None true ∷ [];
    }

abbrev pub caller : Frame ℕ ℕ
caller = running 0 0 [] (Int (pos 9) ∷ [])

abbrev pub initialiser : ℕ → Frame ℕ ℕ
initialiser class = Initialiser class (from 2 5)

-- the initialiser of class 0 above what needs it, and that of its superclass above it
abbrev pub needs : List (Frame ℕ ℕ)
needs = initialiser 0 ∷ caller ∷ []

abbrev pub both : List (Frame ℕ ℕ)
both = initialiser 1 ∷ needs

abbrev pub clinit : (m at : ℕ) → Frame ℕ ℕ
clinit m at = Running m at (record { locals = []; stack = []; room = 0 }) None

abbrev pub becomes : Thread → Reply ℕ (Cell ℕ) → Thread → Answer
becomes before r after = (inheriting, before, r, after)

-- The superclass is asked for first, and asked for again once it is done; then the class's own initialiser
-- runs. One that has none is done at once.
abbrev pub superclasses : List Answer
superclasses =
    becomes (runs (caller ∷ [])) (reply.Init 0) (does (Initialises 1) needs) ∷
    becomes (does (Initialises 1) needs) (reply.Init 1) (runs (clinit 2 2 ∷ both)) ∷
    becomes (does Initialised both) reply.Done (does (Initialises 1) needs) ∷
    becomes (does (Initialises 1) needs) reply.Done (runs (clinit 1 1 ∷ needs)) ∷
    becomes (runs (caller ∷ [])) (reply.Init 3) (does Initialised (initialiser 3 ∷ caller ∷ [])) ∷ []

-- the first frame of `main`
abbrev pub main_begins : Thread
main_begins =
    runs (Running 3 3 (record { locals = Reference 40 ∷ Empty ∷ []; stack = []; room = 1 }) None ∷ [])

abbrev pub main_waits : Frame ℕ ℕ
main_waits = Initialiser 0 main_at

-- `main` begins with its argument once its class is done, alone; a thread whose object is null ends.
abbrev pub mains : List Answer
mains =
    becomes (begun_main 0 3 40) reply.Done main_begins ∷
    becomes (begun_main 0 3 40) (reply.Init 0) (does (Initialises 1) (main_waits ∷ Main 3 40 ∷ [])) ∷
    becomes (does Initialised (main_waits ∷ Main 3 40 ∷ [])) reply.Done main_begins ∷
    becomes (begun_thread 0) (reply.Thrown 31 2) (does (Ends (Some 2)) []) ∷ []

-- an initialiser that has run says so
abbrev pub ends_initialiser : List Turn
ends_initialiser =
    (inheriting, 9, runs (clinit 2 2 ∷ both), asks (ask.InitDone (from 2 5) 1) (does Initialised both)) ∷
    (inheriting, 9, runs (clinit 1 1 ∷ needs), asks (ask.InitDone (from 2 5) 0) (does Initialised needs)) ∷ []

-- method 1 of class 2 is an instance method with a long argument, 2 a synchronized one, 3 one whose argument
-- has no local; 4 is a built-in class's static method, which does nothing
abbrev pub of_class_two : (number entry : ℕ) → List Sort → (locals : ℕ) → Method ℕ
of_class_two number entry parameters locals =
    record (static_method number entry parameters locals 2 []) { class = 2; is_static = false }

abbrev pub selected : Selector
selected = record { signature = 7; within = 2; arguments = 3; class = 5; index = 12 }

abbrev pub calls : Op → Program ℕ
calls o = record
    (program
    (at_pc 0 5 o ∷ at_pc 0 8 op.Nop ∷ at_pc 1 0 (op.ReturnValue sort.Long)
    ∷ at_pc 2 0 (op.ReturnValue sort.Int) ∷ [])
    (static_method 2 0 [] 0 6 []
    ∷ of_class_two 3 2 (sort.Long ∷ sort.Reference ∷ []) 3
    ∷ record (of_class_two 4 3 (sort.Reference ∷ []) 1) { is_synchronized = true }
    ∷ of_class_two 5 2 (sort.Int ∷ sort.Reference ∷ []) 1
    ∷ record (static_method 6 0 [] 0 0 []) { class = 1; body = body.Empty } ∷ [])
    None)
    { selectors = selected ∷ [] }

abbrev pub below : List (Cell ℕ)
below = Int (pos 77) ∷ []

abbrev pub with_long : List (Cell ℕ)
with_long = Half ∷ Long (pos 9) ∷ Reference 30 ∷ below

-- a method of class 2 above its caller
abbrev pub callee : (m at : ℕ) → (locals stack : List (Cell ℕ)) → Option (Key ℕ) → List (Frame ℕ ℕ)
callee m at locals stack held =
    Running m at (record { locals = locals; stack = stack; room = 2 }) held ∷ frames_at 0 below

abbrev pub its_locals : List (Cell ℕ)
its_locals = Reference 30 ∷ Long (pos 9) ∷ Half ∷ []

abbrev pub in_class_two : ℕ → At
in_class_two number = record { class = 2; method = number; pc = 0 }

abbrev pub holding : List (Frame ℕ ℕ)
holding = callee 2 3 (Reference 30 ∷ []) (Int (pos 7) ∷ []) (Some (key.Object 30))

abbrev pub entered : Thread
entered = does Enters (callee 2 3 (Reference 30 ∷ []) [] (Some (key.Object 30)))

-- Arguments become the locals in order, a receiver first. A synchronized instance method takes its receiver's
-- monitor. What has too few locals is found wrong where it begins.
abbrev pub selecting : List Answer
selecting = (
  calls (op.InvokeVirtual 0),
  runs (frames_at 0 with_long),
  reply.Shape 2,
  runs (callee 1 2 its_locals [] None),
) ∷ (
  calls (op.InvokeVirtual 0),
  runs (frames_at 0 with_long),
  reply.Shape 1,
  does (Breaks (fault.LinkFault MissingMethod 5 12)) (frames_at 0 with_long),
) ∷
    (calls op.Nop, runs holding, reply.Done, runs (frames_at 1 (Int (pos 7) ∷ below))) ∷ []

abbrev pub bad_at : At → Op → List (Cell ℕ) → Turn
bad_at where_it_is o stack = (
  calls o,
  9,
  runs (frames_at 0 stack),
  asks (ask.Broken (fault.BadCode where_it_is)) (runs (frames_at 0 stack)),
)

abbrev pub entering : List Turn
entering = (
  calls (op.InvokeSpecial 1),
  1,
  runs (frames_at 0 with_long),
  asks ask.Pause (paused (runs (callee 1 2 its_locals [] None))),
) ∷ (
  calls (op.InvokeSpecial 2),
  9,
  runs (frames_at 0 (Reference 30 ∷ below)),
  asks (ask.Enter (in_class_two 4) (key.Object 30)) entered,
) ∷
    (calls op.Nop, 9, runs holding, asks (ask.Exit (in_class_two 4) (key.Object 30)) (runs holding)) ∷ (
      calls op.Nop,
      1,
      runs (callee 1 2 its_locals (Half ∷ Long (pos 8) ∷ []) None),
      asks ask.Pause (paused (runs (frames_at 1 (Half ∷ Long (pos 8) ∷ below)))),
    ) ∷ (
      calls (op.InvokeStatic 4),
      1,
      runs (frames_at 0 below),
      asks ask.Pause (paused (runs (frames_at 1 below))),
    ) ∷
    bad_at (in_class_two 5) (op.InvokeSpecial 3) (Int (pos 2) ∷ Reference 30 ∷ []) ∷
    bad_at (from 2 5) (op.InvokeSpecial 1) (Int (pos 1) ∷ Int (pos 2) ∷ Reference 30 ∷ []) ∷ []
