-- What each shared instruction asks, and what it takes and leaves once that is done (JVMS 6.5). Stacks are
-- written with the top first.
use Rattle.std.specs.Prelude.{◌≡◌, ℕ, Bool, true, false, List, [], ◌∷◌, ◌++◌, map, ℤ, pos, None}
use Rattle.ap_base.specs.declared.kind.Kind.{Kind}
use Rattle.ap_base.specs.declared.kind.Kind.TheVariants.{Z, B, C, S, I, J, L}
use Rattle.run_types.specs.declared.resolved.At.{At}
use Rattle.run_types.specs.declared.resolved.FieldAt.{FieldAt}
use Rattle.run_types.specs.declared.key.Key.TheVariants as key
use Rattle.run_types.specs.declared.fault.StepFault.TheVariants as fault
use Rattle.code_form.specs.declared.ins.Access.TheVariants as access
use Rattle.code_form.specs.declared.ins.Equality.TheVariants.{Equal, NotEqual}
use Rattle.natives.specs.declared.requests.Request.{Request}
use Rattle.natives.specs.declared.requests.Request.TheVariants as ask
use Rattle.natives.specs.declared.requests.Reply.{Reply}
use Rattle.natives.specs.declared.requests.Reply.TheVariants as reply
use Rattle.frame_cells.specs.declared.cell.Cell.{Cell}
use Rattle.frame_cells.specs.declared.cell.Cell.TheVariants.{Int, Long, Half, Reference}
use Rattle.frames.specs.declared.op.Op.{Op}
use Rattle.frames.specs.declared.op.Op.TheVariants as op
use Rattle.frames.specs.declared.program.Program.{Program}
use Rattle.frames.specs.declared.program.Selector.{Selector}
use Rattle.frames.specs.Settings.{Frame, Running, Breaks}
use Rattle.frames.specs.Calls.{Stepped}
use Rattle.frames.specs.Turns.{turn_of}
use Rattle.frames.specs.Rows.{Thread, Answer, answered_to, setting, at_pc, static_method, program, runs, asks, does, from}

abbrev pub Cells : Type 0
Cells = List (Cell ℕ)

abbrev pub field : (is_static : Bool) → ℕ → Kind → FieldAt
field is_static at kind = record { class = 0; is_static = is_static; at = at; kind = kind }

abbrev pub static_int : FieldAt
static_int = field true 0 I

abbrev pub static_long : FieldAt
static_long = field true 1 J

abbrev pub static_reference : FieldAt
static_reference = field true 2 L

abbrev pub int_field : FieldAt
int_field = field false 0 Z

abbrev pub long_field : FieldAt
long_field = field false 1 J

abbrev pub reference_field : FieldAt
reference_field = field false 2 L

-- a method of class 2 with a receiver and a long
abbrev pub selector : Selector
selector = record { signature = 7; within = 2; arguments = 3; class = 0; index = 12 }

-- an instruction at offset 5 of a static method of a class of the program, whose stack may have six cells
abbrev pub one : Op → Program ℕ
one o = record (program (at_pc 0 5 o ∷ at_pc 0 8 op.Nop ∷ []) (static_method 2 0 [] 0 6 [] ∷ []) None) {
  selectors = selector ∷ [];
  fields = static_int ∷ static_long ∷ static_reference ∷ int_field ∷ long_field ∷ reference_field ∷ [];
}

-- where it stands
abbrev pub here : At
here = from 2 5

abbrev pub frames_at : ℕ → Cells → List (Frame ℕ ℕ)
frames_at at stack = Running 0 at (record { locals = []; stack = stack; room = 6 }) None ∷ []

-- an instruction, the stack before it, and the request; the frame stays as it is
abbrev pub Asking : Type 0
Asking = Op × Cells × Request ℕ (Cell ℕ)

abbrev pub asked : Asking → Stepped ℕ ℕ (Cell ℕ)
asked row = turn_of (setting (one row.0)) 1 (runs (frames_at 0 row.1))

abbrev pub asks_as_said : Asking → Stepped ℕ ℕ (Cell ℕ)
asks_as_said row = asks row.2 (runs (frames_at 0 row.1))

abbrev pub AreAsked : List Asking → Type 0
AreAsked rows = map asked rows ≡ map asks_as_said rows

abbrev pub loads : Kind → Op
loads kind = op.Element access.Load kind

abbrev pub stores : Kind → Op
stores kind = op.Element access.Store kind

abbrev pub long : ℤ → Cells
long v = Half ∷ Long v ∷ []

-- an int in element 3 of an array
abbrev pub stores_int : Kind → Asking
stores_int kind = (
  stores kind,
  Int (pos 9) ∷ Int (pos 3) ∷ Reference 30 ∷ [],
  ask.PutElement here 30 (pos 3) kind (Int (pos 9)),
)

abbrev pub loads_from : Kind → Asking
loads_from kind = (loads kind, Int (pos 3) ∷ Reference 30 ∷ [], ask.GetElement here 30 (pos 3) kind)

abbrev pub of_object : Op → Request ℕ (Cell ℕ) → Asking
of_object o request = (o, Reference 30 ∷ [], request)

-- Operands in their order on the stack; one that is null is asked too.
abbrev pub asking : List Asking
asking =
    loads_from I ∷ loads_from J ∷ loads_from L ∷ loads_from B ∷ loads_from C ∷ loads_from S ∷
    stores_int I ∷ stores_int B ∷ stores_int C ∷ stores_int S ∷ (
      stores J,
      Half ∷ Long (pos 9) ∷ Int (pos 3) ∷ Reference 30 ∷ [],
      ask.PutElement here 30 (pos 3) J (Long (pos 9)),
    ) ∷ (
      stores L,
      Reference 31 ∷ Int (pos 3) ∷ Reference 30 ∷ [],
      ask.PutElement here 30 (pos 3) L (Reference 31),
    ) ∷
    (op.Static access.Load 1, [], ask.GetStatic here static_long) ∷
    (op.Static access.Store 0, Int (pos 9) ∷ [], ask.PutStatic here static_int (Int (pos 9))) ∷
    (op.Static access.Store 1, long (pos 9), ask.PutStatic here static_long (Long (pos 9))) ∷
    (op.Static access.Store 2, Reference 31 ∷ [], ask.PutStatic here static_reference (Reference 31)) ∷
    of_object (op.Field access.Load 4) (ask.GetField here 30 long_field) ∷
    (op.Field access.Load 3, Reference 0 ∷ [], ask.GetField here 0 int_field) ∷ (
      op.Field access.Store 3,
      Int (pos 9) ∷ Reference 30 ∷ [],
      ask.PutField here 30 int_field (Int (pos 9)),
    ) ∷ (
      op.Field access.Store 4,
      Half ∷ Long (pos 9) ∷ Reference 30 ∷ [],
      ask.PutField here 30 long_field (Long (pos 9)),
    ) ∷ (
      op.Field access.Store 5,
      Reference 31 ∷ Reference 30 ∷ [],
      ask.PutField here 30 reference_field (Reference 31),
    ) ∷
    (op.New 2, [], ask.New here 2) ∷
    (op.NewArray 4, Int (pos 3) ∷ [], ask.NewArray here 4 (pos 3)) ∷
    of_object op.Length (ask.Length here 30) ∷
    of_object op.Throw (ask.ClassOf here 30 1) ∷
    of_object (op.Cast 2) (ask.Cast here 30 2) ∷
    of_object (op.IsA 2) (ask.IsA here 30 2) ∷
    of_object op.Enter (ask.Enter here (key.Object 30)) ∷
    of_object op.Exit (ask.Exit here (key.Object 30)) ∷
    (op.IfSame Equal 1, Reference 31 ∷ Reference 30 ∷ [], ask.Same here 30 31) ∷
    (op.InvokeStatic 0, [], ask.Init here 0) ∷
    (op.InvokeVirtual 0, Half ∷ Long (pos 9) ∷ Reference 30 ∷ [], ask.ClassOf here 30 2) ∷ []

abbrev pub finds_bad : Op → Cells → Asking
finds_bad o stack = (o, stack, ask.Broken (fault.BadCode here))

-- operands of another kind, or none
abbrev pub wrong_operands : List Asking
wrong_operands =
    finds_bad (loads I) (Reference 30 ∷ Int (pos 3) ∷ []) ∷
    finds_bad (loads I) (Int (pos 3) ∷ Int (pos 3) ∷ []) ∷
    finds_bad (stores I) (Reference 31 ∷ Int (pos 3) ∷ Reference 30 ∷ []) ∷
    finds_bad (stores J) (Int (pos 9) ∷ Int (pos 9) ∷ Int (pos 3) ∷ Reference 30 ∷ []) ∷
    finds_bad (stores J) (Half ∷ Long (pos 9) ∷ Reference 30 ∷ []) ∷
    finds_bad (stores L) (Int (pos 9) ∷ Int (pos 3) ∷ Reference 30 ∷ []) ∷
    finds_bad (op.Static access.Store 1) (Int (pos 9) ∷ Int (pos 9) ∷ []) ∷
    finds_bad (op.Static access.Store 2) (Int (pos 9) ∷ []) ∷
    finds_bad (op.Field access.Load 3) (Int (pos 9) ∷ []) ∷
    finds_bad (op.Field access.Store 3) (Reference 31 ∷ Reference 30 ∷ []) ∷
    finds_bad (op.Field access.Store 4) (Int (pos 9) ∷ Reference 30 ∷ []) ∷
    finds_bad (op.NewArray 4) (Reference 30 ∷ []) ∷
    finds_bad op.Length (Int (pos 9) ∷ []) ∷
    finds_bad op.Throw [] ∷
    finds_bad (op.Cast 2) (Int (pos 9) ∷ []) ∷
    finds_bad op.Enter (Int (pos 9) ∷ []) ∷
    finds_bad (op.IfSame Equal 1) (Reference 31 ∷ Int (pos 0) ∷ []) ∷
    finds_bad (op.InvokeVirtual 0) (Half ∷ Long (pos 9) ∷ []) ∷ []

-- an instruction, the stack before it, a reply, and the stack after it
abbrev pub Taking : Type 0
Taking = Op × Cells × Reply ℕ (Cell ℕ) × Cells

abbrev pub goes_on : Taking → Thread
goes_on row = runs (frames_at 1 row.3)

abbrev pub after_reply : Taking → Thread
after_reply row = answered_to (one row.0, runs (frames_at 0 row.1), row.2, goes_on row)

abbrev pub AreTaken : List Taking → Type 0
AreTaken rows = map after_reply rows ≡ map goes_on rows

abbrev pub below : Cells
below = Int (pos 77) ∷ []

-- The cell below stays.
abbrev pub taking : List Taking
taking =
    (loads I, Int (pos 3) ∷ Reference 30 ∷ below, reply.Item (Int (pos 5)), Int (pos 5) ∷ below) ∷
    (loads J, Int (pos 3) ∷ Reference 30 ∷ below, reply.Item (Long (pos 5)), Half ∷ Long (pos 5) ∷ below) ∷
    (stores I, Int (pos 9) ∷ Int (pos 3) ∷ Reference 30 ∷ below, reply.Done, below) ∷
    (stores J, Half ∷ Long (pos 9) ∷ Int (pos 3) ∷ Reference 30 ∷ below, reply.Done, below) ∷
    (stores L, Reference 31 ∷ Int (pos 3) ∷ Reference 30 ∷ below, reply.Done, below) ∷
    (op.Static access.Load 0, below, reply.Item (Int (pos 5)), Int (pos 5) ∷ below) ∷
    (op.Static access.Load 1, below, reply.Item (Long (pos 5)), Half ∷ Long (pos 5) ∷ below) ∷
    (op.Static access.Store 0, Int (pos 9) ∷ below, reply.Done, below) ∷
    (op.Static access.Store 1, Half ∷ Long (pos 9) ∷ below, reply.Done, below) ∷
    (op.Field access.Load 5, Reference 30 ∷ below, reply.Item (Reference 31), Reference 31 ∷ below) ∷
    (op.Field access.Load 4, Reference 30 ∷ below, reply.Item (Long (pos 5)), Half ∷ Long (pos 5) ∷ below) ∷
    (op.Field access.Store 3, Int (pos 9) ∷ Reference 30 ∷ below, reply.Done, below) ∷
    (op.Field access.Store 4, Half ∷ Long (pos 9) ∷ Reference 30 ∷ below, reply.Done, below) ∷
    (op.New 2, below, reply.Made 31, Reference 31 ∷ below) ∷
    (op.NewArray 4, Int (pos 3) ∷ below, reply.Made 31, Reference 31 ∷ below) ∷
    (op.Length, Reference 30 ∷ below, reply.Item (Int (pos 4)), Int (pos 4) ∷ below) ∷
    (op.Cast 2, Reference 30 ∷ below, reply.Done, Reference 30 ∷ below) ∷
    (op.IsA 2, Reference 30 ∷ below, reply.Item (Int (pos 1)), Int (pos 1) ∷ below) ∷
    (op.Enter, Reference 30 ∷ below, reply.Done, below) ∷
    (op.Exit, Reference 30 ∷ below, reply.Done, below) ∷
    (op.IfSame Equal 0, Reference 31 ∷ Reference 30 ∷ below, reply.Item (Int (pos 0)), below) ∷
    (op.IfSame NotEqual 0, Reference 30 ∷ Reference 30 ∷ below, reply.Item (Int (pos 1)), below) ∷ []

abbrev pub answers : Op → Cells → Reply ℕ (Cell ℕ) → Thread → Answer
answers o stack r after = (one o, runs (frames_at 0 stack), r, after)

-- two references are of one object or not, and the branch that is taken goes back to its own instruction
abbrev pub branches_back : Op → ℤ → Answer
branches_back o same =
    answers o (Reference 31 ∷ Reference 30 ∷ below) (reply.Item (Int same)) (runs (frames_at 0 below))

abbrev pub branching : List Answer
branching = branches_back (op.IfSame Equal 0) (pos 1) ∷ branches_back (op.IfSame NotEqual 0) (pos 0) ∷ []

-- all the cells that the stack may have
abbrev pub six : Cells
six = long (pos 1) ++ long (pos 2) ++ long (pos 3)

abbrev pub lacks_room : Op → Cells → Reply ℕ (Cell ℕ) → Answer
lacks_room o stack r = answers o stack r (does (Breaks (fault.BadCode here)) (frames_at 0 stack))

abbrev pub no_room : List Answer
no_room =
    lacks_room (op.New 2) six (reply.Made 31) ∷
    lacks_room (op.Static access.Load 0) six (reply.Item (Int (pos 5))) ∷
    lacks_room (op.Field access.Load 4) (Reference 30 ∷ Int (pos 1) ∷ long (pos 2) ++ long (pos 3))
    (reply.Item (Long (pos 5))) ∷ []
