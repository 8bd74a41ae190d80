-- Small programs, to see that turns and answers are meant (JVMS 2.10, 2.11.10, 5.5, 6.5).
use Rattle.std.specs.Prelude.{◌≡◌, ℕ, ◌+◌, Bool, true, false, nat_eq, List, [], ◌∷◌, map, pos, Option, Some, None}
use Rattle.run_types.specs.declared.resolved.At.{At}
use Rattle.run_types.specs.declared.key.Key.{Key}
use Rattle.run_types.specs.declared.key.Key.TheVariants as key
use Rattle.run_types.specs.declared.fault.LinkKind.TheVariants.{MissingClass, MissingMethod, InitFailed}
use Rattle.run_types.specs.declared.fault.StepFault.{StepFault}
use Rattle.run_types.specs.declared.fault.StepFault.TheVariants as fault
use Rattle.run_types.specs.declared.fault.Which.TheVariants.{FrameSlots}
use Rattle.code_form.specs.declared.ins.Binary.TheVariants.{Add, Divide}
use Rattle.code_form.specs.declared.ins.Number.TheVariants as number
use Rattle.code_form.specs.declared.ins.Sort.{Sort}
use Rattle.code_form.specs.declared.ins.Sort.TheVariants as sort
use Rattle.natives.specs.declared.requests.Request.{Request}
use Rattle.natives.specs.declared.requests.Request.TheVariants as ask
use Rattle.natives.specs.declared.requests.Reply.{Reply}
use Rattle.natives.specs.declared.requests.Reply.TheVariants as reply
use Rattle.frame_cells.specs.declared.cell.Cell.{Cell}
use Rattle.frame_cells.specs.declared.cell.Cell.TheVariants.{Empty, Int, Long, Half, Reference}
use Rattle.frame_cells.specs.Own.{Own}
use Rattle.frames.specs.declared.given.Given.TheVariants as given
use Rattle.frames.specs.declared.op.Link.{Link}
use Rattle.frames.specs.declared.op.Op.{Op}
use Rattle.frames.specs.declared.op.Op.TheVariants as op
use Rattle.frames.specs.declared.program.Body.TheVariants as body
use Rattle.frames.specs.declared.program.Catch.{Catch}
use Rattle.frames.specs.declared.program.Catch.TheVariants as catch
use Rattle.frames.specs.declared.program.Class.{Class}
use Rattle.frames.specs.declared.program.Dispatch.{Dispatch}
use Rattle.frames.specs.declared.program.Handler.{Handler}
use Rattle.frames.specs.declared.program.Method.{Method}
use Rattle.frames.specs.declared.program.Placed.{Placed}
use Rattle.frames.specs.declared.program.Program.{Program}
use Rattle.frames.specs.declared.program.Target.TheVariants as target
use Rattle.frames.specs.Settings.{Frame, Running, Initialiser, Main, Doing, Runs, BeginsMain, BeginsThread, Enters, Unwinds}
use Rattle.frames.specs.Settings.{Initialised, Breaks, Ends, Frames, Gives, Setting}
use Rattle.frames.specs.Calls.{Stepped}
use Rattle.frames.specs.Turns.{turn_of, answer_if}

-- References are numbers, 0 is null, and values are cells. No native method is called.
abbrev pub Plain : Type 0
Plain = Setting ℕ ℕ ℕ (Cell ℕ)

abbrev pub Thread : Type 0
Thread = Frames ℕ ℕ

abbrev pub main_at : At
main_at = record { class = 0; method = 9; pc = 0 }

-- a value's cells, the top first
abbrev pub cells_of : Cell ℕ → List (Cell ℕ)
cells_of (Long v) = Half ∷ Long v ∷ []
cells_of c = c ∷ []

abbrev pub setting : Program ℕ → Plain
setting p = record {
  program = p;
  main = main_at;
  null = 0;
  is_null = λ r. nat_eq r 0;
  literal = λ k. 100 + k;
  of_int = Int;
  of_long = Long;
  of_reference = Reference;
  cells = cells_of;
  start = λ k from values. k;
  asks = λ state. ask.Pause;
  next = λ state r. Gives given.Nothing;
}

abbrev pub at_pc : (m pc : ℕ) → Op → Placed
at_pc m pc o = record { op = o; method = m; pc = pc }

-- a static method of class 0 with code
abbrev pub static_method : (number entry : ℕ) → List Sort → (locals room : ℕ) → List Handler → Method ℕ
static_method number entry parameters locals room handlers = record {
  class = 0;
  number = number;
  body = body.Code entry;
  parameters = parameters;
  max_locals = locals;
  max_stack = room;
  is_static = true;
  is_synchronized = false;
  handlers = handlers;
}

abbrev pub class_of : (above : List ℕ) → List Dispatch → (super clinit : Option ℕ) → Bool → Class
class_of above targets super clinit is_program = record {
  supertypes = above;
  dispatch = targets;
  superclass = super;
  initialiser = clinit;
  of_program = is_program;
}

abbrev pub run_by : ℕ → Dispatch
run_by m = record { signature = 7; target = target.Method m }

-- Class 0 is of the program, with this initialiser; class 1 is a throwable, class 2 one of its subclasses,
-- for which method 1 is found by the signature 7.
abbrev pub classes : Option ℕ → List Class
classes clinit =
    class_of (0 ∷ []) [] None clinit true ∷
    class_of (1 ∷ []) [] None None false ∷
    class_of (2 ∷ 1 ∷ []) (run_by 1 ∷ []) (Some 1) None false ∷ []

abbrev pub program : List Placed → List (Method ℕ) → Option ℕ → Program ℕ
program code methods initialiser = record {
  code = code;
  methods = methods;
  classes = classes initialiser;
  tables = [];
  lookups = [];
  selectors = [];
  fields = [];
  longs = [];
  throwable = 1;
  thread = 4;
  null_pointer = 2;
  arithmetic = 3;
  run = 7;
  to_string = 8;
}

abbrev pub own : List (Cell ℕ) → List (Cell ℕ) → Own ℕ
own locals stack = record { locals = locals; stack = stack; room = 2 }

abbrev pub running : (m at : ℕ) → List (Cell ℕ) → List (Cell ℕ) → Frame ℕ ℕ
running m at locals stack = Running m at (own locals stack) None

abbrev pub runs : List (Frame ℕ ℕ) → Thread
runs frames = record { doing = Runs; frames = frames; paused = false }

abbrev pub paused : Thread → Thread
paused frames = record frames { paused = true }

abbrev pub asks : Request ℕ (Cell ℕ) → Thread → Stepped ℕ ℕ (Cell ℕ)
asks request frames = record { frames = frames; asks = Some request }

abbrev pub from : (method pc : ℕ) → At
from method pc = record { class = 0; method = method; pc = pc }

-- static int f() { int a = 3; a = a + 4; return f(); }
abbrev pub adds : Program ℕ
adds = program
    (at_pc 0 0 (op.PushInt (pos 3)) ∷ at_pc 0 1 (op.Store sort.Int 0) ∷ at_pc 0 2 (op.Load sort.Int 0)
    ∷ at_pc 0 3 (op.PushInt (pos 4)) ∷ at_pc 0 4 (op.Binary number.Int Add) ∷ at_pc 0 5 (op.Store sort.Int 0)
    ∷ at_pc 0 6 (op.InvokeStatic 0) ∷ at_pc 0 9 (op.ReturnValue sort.Int) ∷ [])
    (static_method 2 0 [] 1 2 [] ∷ []) None

abbrev pub at_call : Frame ℕ ℕ
at_call = running 0 6 (Int (pos 7) ∷ []) []

-- a turn of so many private instructions, and what it comes to
abbrev pub Turn : Type 0
Turn = Program ℕ × ℕ × Thread × Stepped ℕ ℕ (Cell ℕ)

abbrev pub AreTurns : List Turn → Type 0
AreTurns rows = map (λ row. turn_of (setting row.0) row.1 row.2) rows ≡ map (λ row. row.3) rows

-- a reply to what a thread asks, and its frames after it
abbrev pub Answer : Type 0
Answer = Program ℕ × Thread × Reply ℕ (Cell ℕ) × Thread

abbrev pub answered_to : Answer → Thread
answered_to row = answer_if (setting row.0) row.1.paused row.1 row.2

abbrev pub AreAnswers : List Answer → Type 0
AreAnswers rows = map answered_to rows ≡ map (λ row. row.3) rows

abbrev pub does : Doing ℕ → List (Frame ℕ ℕ) → Thread
does doing frames = record { doing = doing; frames = frames; paused = false }

abbrev pub at_result : List (Frame ℕ ℕ)
at_result = running 0 7 (Int (pos 7) ∷ []) (Int (pos 5) ∷ []) ∷ []

-- Six private instructions, and then the call asks for its class; where six are all that may be done, Pause
-- comes first. The method is entered above its caller, which stays at its call until the result is there.
abbrev pub calling : List Turn
calling =
    (adds, 10, runs (running 0 0 (Empty ∷ []) [] ∷ []), asks (ask.Init (from 2 6) 0) (runs (at_call ∷ []))) ∷
    (adds, 6, runs (running 0 0 (Empty ∷ []) [] ∷ []), asks ask.Pause (paused (runs (at_call ∷ [])))) ∷
    (adds, 1, runs (running 0 7 [] (Int (pos 5) ∷ []) ∷ at_call ∷ []), asks ask.Pause (paused (runs at_result))) ∷ []

-- Method 0 is `iconst_0`, `iadd`; 1 is an endless loop, 2 only `nop`; 3 leaves three slots, and calls 1,
-- divides and returns.
abbrev pub wrong : Program ℕ
wrong = program
    (at_pc 0 0 (op.PushInt (pos 0)) ∷ at_pc 0 1 (op.Binary number.Int Add) ∷ at_pc 0 2 op.Bad
    ∷ at_pc 1 0 (op.Goto 3)
    ∷ at_pc 2 0 op.Nop ∷ at_pc 2 1 op.Bad
    ∷ at_pc 3 0 (op.InvokeSpecial 1) ∷ at_pc 3 3 (op.Binary number.Int Divide) ∷ at_pc 3 4 op.Return ∷ [])
    (static_method 2 0 [] 0 2 []
    ∷ static_method 3 3 (sort.Reference ∷ []) 1 0 []
    ∷ static_method 4 4 [] 0 0 []
    ∷ static_method 5 6 [] 65529 0 [] ∷ [])
    None

abbrev pub at : (m index : ℕ) → List (Cell ℕ) → List (Frame ℕ ℕ)
at m index stack = running m index [] stack ∷ []

-- frames that stay as they are, where an instruction after so many ends the turn
abbrev pub ends : Request ℕ (Cell ℕ) → List (Frame ℕ ℕ) → Turn
ends request frames = (wrong, 9, runs frames, asks request (runs frames))

abbrev pub breaks : StepFault → List (Frame ℕ ℕ) → Turn
breaks f frames = ends (ask.Broken f) frames

abbrev pub few_slots : StepFault
few_slots = fault.Full (record { which = FrameSlots; need = 5; left = 3 })

abbrev pub at_zero : List (Frame ℕ ℕ)
at_zero = at 0 1 (Int (pos 0) ∷ [])

abbrev pub loop : Thread
loop = runs (running 1 3 (Empty ∷ []) [] ∷ [])

-- Faults are told where they are found: too few operands, the end of the code, a receiver that is no
-- reference, no slots for a frame. Pause comes after 1,024 instructions.
abbrev pub faults : List Turn
faults =
    breaks (fault.BadCode (from 2 1)) at_zero ∷
    breaks (fault.BadCode (from 4 1)) (at 2 5 []) ∷
    breaks (fault.BadCode (from 5 0)) (at 3 6 (Int (pos 0) ∷ [])) ∷
    breaks few_slots (at 3 6 (Reference 3 ∷ [])) ∷
    ends (ask.Raise (from 5 0) 2) (at 3 6 (Reference 0 ∷ [])) ∷
    ends (ask.Raise (from 5 3) 3) (at 3 7 (Int (pos 0) ∷ Int (pos 1) ∷ [])) ∷
    (wrong, 9, runs (at 0 0 []), asks (ask.Broken (fault.BadCode (from 2 1))) (runs at_zero)) ∷
    (wrong, 1024, loop, asks ask.Pause (paused loop)) ∷
    (wrong, 9, runs (at 3 8 []), asks (ask.Leave None) (does (Ends None) [])) ∷ []

abbrev pub entry : (start end target : ℕ) → Catch → Handler
entry start end target catches = record { start = start; end = end; target = target; catches = catches }

abbrev pub missing : Link
missing = record { kind = MissingClass; index = 6 }

-- a static synchronized method of class 1
abbrev pub synchronized_method : (number entry : ℕ) → (room : ℕ) → Method ℕ
synchronized_method number entry room = record {
  class = 1;
  number = number;
  body = body.Code entry;
  parameters = [];
  max_locals = 0;
  max_stack = room;
  is_static = true;
  is_synchronized = true;
  handlers = [];
}

-- Method 0 has three handlers: of class 2 round instruction 1, of any throwable round 0 to 2, and round 3 one
-- whose class is missing. Method 1 is synchronized, is of class 1 and has none. Method 2 is the initialiser of
-- class 0.
abbrev pub handling : Program ℕ
handling = program
    (at_pc 0 0 op.Nop ∷ at_pc 0 1 (op.InvokeStatic 1) ∷ at_pc 0 4 op.Nop ∷ at_pc 0 5 op.Throw
    ∷ at_pc 0 6 op.Nop ∷ at_pc 0 7 op.Nop
    ∷ at_pc 1 0 op.Throw ∷ at_pc 1 1 op.Return
    ∷ at_pc 2 0 op.Return ∷ [])
    (static_method 2 0 [] 0 2
    (entry 1 2 4 (catch.Class 2) ∷ entry 0 3 5 catch.All ∷ entry 3 4 5 (catch.Unlinked missing) ∷ [])
    ∷ synchronized_method 3 6 1
    ∷ static_method 4 8 [] 0 0 [] ∷ [])
    (Some 2)

-- the monitor of the class of method 1
abbrev pub class_key : Key ℕ
class_key = key.Class 1

abbrev pub caller : Frame ℕ ℕ
caller = running 0 1 [] (Int (pos 9) ∷ [])

-- in the synchronized method
abbrev pub from_held : (pc : ℕ) → At
from_held pc = record { class = 1; method = 3; pc = pc }

-- the synchronized method at an instruction, above its caller
abbrev pub held_at : ℕ → List (Cell ℕ) → List (Frame ℕ ℕ)
held_at index stack = Running 1 index (record { locals = []; stack = stack; room = 1 }) (Some class_key) ∷
    caller ∷ []

abbrev pub initialiser : Frame ℕ ℕ
initialiser = Initialiser 0 (from 2 1)

-- the initialiser's method, which has no cells
abbrev pub initialising_method : Frame ℕ ℕ
initialising_method = Running 2 8 (record { locals = []; stack = []; room = 0 }) None

abbrev pub asks_doing : Doing ℕ → List (Frame ℕ ℕ) → Request ℕ (Cell ℕ) → Turn
asks_doing doing frames request = (handling, 9, does doing frames, asks request (does doing frames))

-- A static synchronized method asks for its class's monitor before its first instruction, and gives it back before it
-- returns and before a throwable leaves it. An initialiser that has run says so.
abbrev pub monitors : List Turn
monitors =
    asks_doing Enters (held_at 6 []) (ask.Enter (from_held 0) class_key) ∷
    asks_doing Runs (held_at 7 []) (ask.Exit (from_held 1) class_key) ∷
    asks_doing (Unwinds 30 2) (held_at 6 []) (ask.Exit (from_held 0) class_key) ∷
    asks_doing Initialised (initialiser ∷ caller ∷ []) (ask.InitDone (from 2 1) 0) ∷ []

abbrev pub answers : Doing ℕ → List (Frame ℕ ℕ) → Reply ℕ (Cell ℕ) → Doing ℕ → List (Frame ℕ ℕ) → Answer
answers doing before reply next after = (handling, does doing before, reply, does next after)

-- a Pause changes nothing, whatever comes next
abbrev pub replies : List Answer
replies =
    (adds, paused (runs (at_call ∷ [])), reply.Done, runs (at_call ∷ [])) ∷
    (adds, runs (at_call ∷ []), reply.Done, runs (running 0 0 (Empty ∷ []) [] ∷ at_call ∷ [])) ∷
    answers Runs (caller ∷ []) reply.Done Enters (held_at 6 []) ∷
    answers Enters (held_at 6 []) reply.Done Runs (held_at 6 []) ∷
    answers Runs (held_at 7 []) reply.Done Runs (at 0 2 (Int (pos 9) ∷ [])) ∷
    answers Runs (held_at 6 (Reference 30 ∷ [])) (reply.Shape 2) (Unwinds 30 2) (held_at 6 (Reference 30 ∷
    [])) ∷ []

-- The caller's handlers see the call's own place, and the first that fits begins with the throwable alone. A
-- throwable that nothing catches ends its thread; one that meets a class which is missing, or that leaves an
-- initialiser, ends the run.
abbrev pub thrown : List Answer
thrown =
    answers (Unwinds 30 2) (held_at 6 []) reply.Done Runs (at 0 4 (Reference 30 ∷ [])) ∷
    answers (Unwinds 30 1) (held_at 6 []) reply.Done Runs (at 0 5 (Reference 30 ∷ [])) ∷
    answers (Unwinds 30 1) (held_at 6 []) (reply.Thrown 31 2) Runs (at 0 4 (Reference 31 ∷ [])) ∷
    answers Runs (at 0 4 []) (reply.Thrown 30 2) (Ends (Some 2)) [] ∷
    answers Runs (at 0 3 []) (reply.Thrown 30 2) (Breaks (fault.LinkFault MissingClass 0 6)) (at 0 3 []) ∷
    answers Runs (initialising_method ∷ initialiser ∷ caller ∷ []) (reply.Thrown 30 2)
    (Breaks (fault.LinkFault InitFailed 0 0)) (initialiser ∷ caller ∷ []) ∷ []

abbrev pub begun_run : Thread
begun_run = runs (Running 1 3 (record { locals = Reference 41 ∷ []; stack = []; room = 0 }) None ∷ [])

-- A class is initialised above the instruction that needs it, which asks again once that is done; so is the
-- main class before `main`. A thread begins with the method that its object's class has.
abbrev pub initialising : List Answer
initialising =
    answers Runs (caller ∷ []) (reply.Init 0) Runs (initialising_method ∷ initialiser ∷ caller ∷ []) ∷
    answers Initialised (initialiser ∷ caller ∷ []) reply.Done Runs (caller ∷ []) ∷
    answers (BeginsMain 0) (Main 2 40 ∷ []) (reply.Init 0)
    Runs (initialising_method ∷ Initialiser 0 main_at ∷ Main 2 40 ∷ []) ∷
    (wrong, does (BeginsThread 41) [], reply.Shape 2, begun_run) ∷
    (wrong, does (BeginsThread 41) [], reply.Shape 1, does (Breaks (fault.LinkFault MissingMethod 1 0)) []) ∷
    []
