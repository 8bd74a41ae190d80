-- A small program, and its run:
--
--   class Main {
--     @DurableRoot static Node head;
--     static void main(String[] arguments) { head = new Node(); head.visit(); Thread.yield(); }
--   }
--   class Node { Node next; static { } synchronized void visit() { } }
--
-- Its native method asks for nothing but a pause.
use Rattle.std.specs.Prelude.{ℕ, zero, suc, nat_lt, true, false, Bool, List, [], ◌∷◌, ◌++◌, length, filter, Some, None}
use Rattle.code_form.specs.declared.ins.Access.TheVariants as access
use Rattle.code_form.specs.declared.ins.Sort.{Sort}
use Rattle.code_form.specs.declared.ins.Sort.TheVariants as sort
use Rattle.ap_base.specs.declared.place.Place.TheVariants.{Static}
use Rattle.graph_model.specs.declared.types.Value.TheVariants.{Obj as Object}
use Rattle.natives.specs.declared.requests.Request.TheVariants as ask
use Rattle.run_history.specs.declared.act.Op.TheVariants as act
use Rattle.run_history.specs.declared.act.PlainKey.TheVariants as key
use Rattle.run_history.specs.Recorded.{Recorded}
use Rattle.plain_model.specs.declared.throws.Throws.TheVariants.{NullPointer, Arithmetic}
use Rattle.plain_model.specs.BuiltIn.{throwable_place, thread_place}
use Rattle.plain_model.specs.Facts.{SetFacts, built_in_number, classes_of, class_at, is_sub, thrown_class}
use Rattle.plain_model.specs.Consistent.{IsConsistent}
use Rattle.plain_model.specs.First.{IsOpening}
use Rattle.plain_model.specs.Runs.{IsPlainRun}
use Rattle.plain_model.specs.Rows.{nodes, null_root, head, made_node, asked, joined, stored, fenced, left, by_main}
use Rattle.frames.specs.declared.given.Given.TheVariants as given
use Rattle.frames.specs.declared.op.Op.{Op}
use Rattle.frames.specs.declared.op.Op.TheVariants as op
use Rattle.frames.specs.declared.program.Body.{Body}
use Rattle.frames.specs.declared.program.Body.TheVariants as body
use Rattle.frames.specs.declared.program.Class.{Class}
use Rattle.frames.specs.declared.program.Method.{Method}
use Rattle.frames.specs.declared.program.Placed.{Placed}
use Rattle.frames.specs.declared.program.Program.{Program}
use Rattle.frames.specs.declared.program.Target.TheVariants as target
use Rattle.frames.specs.Settings.{Gives}
use Rattle.plain_frames.specs.Codes.{PlainNatives, code_of}
use Rattle.plain_frames.specs.Tables.{IsProgramOf, IsMainOf}
use Rattle.plain_frames.specs.Sound.{KeepIn}

abbrev pub Nothing : Type 0
Nothing = Unit {0}

-- ---- classes

-- the numbers from k on, so many
abbrev pub numbers_from : ℕ → ℕ → List ℕ
numbers_from k zero = []
numbers_from k (suc n) = k ∷ numbers_from (suc k) n

-- what a set tells of a class, without methods
abbrev pub row_of : SetFacts → ℕ → Class
row_of set n = record {
  supertypes = filter (is_sub set n) (numbers_from 0 (length (classes_of set)));
  dispatch = [];
  superclass = (class_at set n).superclass;
  initialiser = None;
  of_program = nat_lt n (length set.program);
}

-- Main has number 0 and Node number 1. Signature 2 is that of `visit`, method 3, and `<clinit>` is method 2.
abbrev pub small_row : ℕ → Class
small_row zero = row_of nodes 0
small_row (suc zero) = record (row_of nodes 1) {
  dispatch = record { signature = 2; target = target.Method 3 } ∷ [];
  initialiser = Some 2;
}
small_row (suc (suc n)) = row_of nodes (suc (suc n))

abbrev pub rows_from : (ℕ → Class) → ℕ → ℕ → List Class
rows_from row k zero = []
rows_from row k (suc n) = row k ∷ rows_from row (suc k) n

-- ---- code

abbrev pub placed : (method pc : ℕ) → Op → Placed
placed method pc o = record { op = o; method = method; pc = pc }

abbrev pub small_code : List Placed
small_code =
    placed 0 0 (op.New 1)
    ∷ placed 0 3 (op.Static access.Store 0)
    ∷ placed 0 6 (op.Static access.Load 0)
    ∷ placed 0 9 (op.InvokeVirtual 0)
    ∷ placed 0 12 (op.InvokeStatic 1)
    ∷ placed 0 15 op.Return
    ∷ placed 2 0 op.Return
    ∷ placed 3 0 op.Return
    ∷ []

-- a static method of this class, with these parameters
abbrev pub static_method : (class number : ℕ) → Body Nothing → List Sort → Method Nothing
static_method class number does parameters = record {
  class = class;
  number = number;
  body = does;
  parameters = parameters;
  max_locals = 1;
  max_stack = 1;
  is_static = true;
  is_synchronized = false;
  handlers = [];
}

abbrev pub small_methods : List (Method Nothing)
small_methods =
    static_method 0 0 (body.Code 0) (sort.Reference ∷ [])
    ∷ static_method (built_in_number nodes thread_place) 0 (body.Native tt) []
    ∷ static_method 1 0 (body.Code 6) []
    ∷ record (static_method 1 1 (body.Code 7) (sort.Reference ∷ [])) {
      is_static = false;
      is_synchronized = true;
    }
    ∷ []

abbrev pub small_program : Program Nothing
small_program = record {
  code = small_code;
  methods = small_methods;
  classes = rows_from small_row 0 (length (classes_of nodes));
  tables = [];
  lookups = [];
  selectors = record { signature = 2; within = 1; arguments = 1; class = 0; index = 5 } ∷ [];
  fields = head ∷ [];
  longs = [];
  throwable = built_in_number nodes throwable_place;
  thread = built_in_number nodes thread_place;
  null_pointer = thrown_class nodes NullPointer;
  arithmetic = thrown_class nodes Arithmetic;
  run = 0;
  to_string = 1;
}

abbrev pub pausing : PlainNatives Nothing Nothing
pausing = record {
  start = λ k from values. tt;
  asks = λ state. ask.Pause;
  next = λ state r. Gives given.Nothing;
}

-- a state of the native method refers to nothing
abbrev pub any_state : ℕ → Nothing → Bool
any_state n state = true

-- ---- what holds of it

-- The program meets all premises of the law on duties.
pub record MeetsAll : Type 0 where
  pub consistent : IsConsistent nodes
  pub opens : IsOpening nodes null_root
  pub tables : IsProgramOf nodes small_program
  pub natives : KeepIn nodes pausing any_state
  pub main : IsMainOf nodes small_program 0 0

-- The classes are initialised. The node is made, asked, joined, stored to the root and fenced. Then it is
-- read, its class is told, and its monitor entered and left; the native method pauses, and the thread ends.
abbrev pub small_acts : List Recorded
small_acts =
    made_node ++ asked ∷ joined (2 ∷ []) ∷ stored ∷ fenced
    ∷ by_main 4 (act.Read (Static 1) (Object 2))
    ∷ by_main 4 (act.Class (Some 2) (Some 1))
    ∷ by_main 4 (act.Enter (key.Object 2))
    ∷ by_main 4 (act.Exit (key.Object 2))
    ∷ by_main 4 act.Pause
    ∷ left
    ∷ []

abbrev pub RunsSo : Type 0
RunsSo = IsPlainRun nodes 0 null_root (code_of nodes null_root small_program pausing 0 0) small_acts
