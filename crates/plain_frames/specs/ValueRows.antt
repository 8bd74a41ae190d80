-- What plain frames make of numbers, null, literals and the objects of threads, and of what replies give, by
-- computation.
use Rattle.std.specs.Prelude.{◌≡◌, pos, ◌^◌, false, true, List, [], ◌∷◌, map, codes, Option, Some, None}
use Rattle.ap_base.specs.declared.kind.Kind.TheVariants.{I, J}
use Rattle.run_types.specs.declared.resolved.At.{At}
use Rattle.run_types.specs.declared.resolved.FieldAt.{FieldAt}
use Rattle.code_form.specs.declared.ins.Access.TheVariants.{Load, Store}
use Rattle.code_form.specs.declared.ins.Equality.TheVariants as is
use Rattle.graph_model.specs.declared.types.Value.{Value}
use Rattle.graph_model.specs.declared.types.Value.TheVariants as value
use Rattle.natives.specs.declared.requests.Request.TheVariants as ask
use Rattle.natives.specs.declared.requests.Reply.TheVariants as reply
use Rattle.plain_model.specs.BuiltIn.{thread_place}
use Rattle.plain_model.specs.Codes.{Code}
use Rattle.plain_model.specs.Facts.{SetFacts, built_in_number}
use Rattle.plain_model.specs.Requests.{PlainRequest, PlainReply}
use Rattle.plain_model.specs.Rows.{nodes, one_node, head}
use Rattle.frame_cells.specs.declared.cell.Cell.{Cell}
use Rattle.frame_cells.specs.declared.cell.Cell.TheVariants.{Int, Long, Half, Reference}
use Rattle.frames.specs.declared.op.Op.{Op}
use Rattle.frames.specs.declared.op.Op.TheVariants.{PushNull, PushInt, PushLong, PushLiteral, IfNull, Static, New, Bad}
use Rattle.frames.specs.declared.program.Program.{Program}
use Rattle.frames.specs.Settings.{Frame, Running, Runs, Frames, Setting}
use Rattle.frames.specs.Turns.{turn, answer}
use Rattle.plain_frames.specs.Codes.{code_of, plain_setting}
use Rattle.plain_frames.specs.Small.{Nothing, placed, small_program, pausing}

-- a set with two literals; the opening graph has one node, so that they are objects 3 and 4
abbrev pub texts : SetFacts
texts = record nodes { literals = codes "one" ∷ codes "two" ∷ [] }

abbrev pub int_field : FieldAt
int_field = record { class = 0; is_static = true; at = 2; kind = I }

abbrev pub long_field : FieldAt
long_field = record { class = 0; is_static = true; at = 3; kind = J }

-- the small program with this code, fields 0 to 2 of an int, a long and a reference, and a long
abbrev pub with_code : List Op → Program Nothing
with_code ops = record small_program {
  code = map (placed 0 0) ops;
  fields = int_field ∷ long_field ∷ head ∷ [];
  longs = pos (2 ^ 40) ∷ [];
}

abbrev pub setting : List Op → Setting Nothing Value Nothing Value
setting ops = plain_setting texts (one_node value.Null) (with_code ops) pausing 0

-- the first instruction comes next, and the stack is empty
abbrev pub at_first : Frames Value Nothing
at_first = record {
  doing = Runs;
  frames = Running 0 0 (record { locals = []; stack = []; room = 4 }) None ∷ [];
  paused = false;
}

abbrev pub here : At
here = record { class = 0; method = 0; pc = 0 }

-- ---- requests

abbrev pub asked_by : List Op → Option PlainRequest
asked_by ops = (turn (setting ops) at_first).asks

pub record AskOfValues : Type 0 where
  pub int : asked_by (PushInt (pos 7) ∷ Static Store 0 ∷ [])
      ≡ Some (ask.PutStatic here int_field (value.Int (pos 7)))
  pub long : asked_by (PushLong 0 ∷ Static Store 1 ∷ [])
      ≡ Some (ask.PutStatic here long_field (value.Long (pos (2 ^ 40))))
  pub null : asked_by (PushNull ∷ Static Store 2 ∷ []) ≡ Some (ask.PutStatic here head value.Null)
  pub literal : asked_by (PushLiteral 1 ∷ Static Store 2 ∷ [])
      ≡ Some (ask.PutStatic here head (value.Obj 4))
  -- null is null, and an object isn't
  pub is_null : asked_by (PushNull ∷ IfNull is.Equal 3 ∷ Bad ∷ PushInt (pos 1) ∷ Static Store 0 ∷ [])
      ≡ Some (ask.PutStatic here int_field (value.Int (pos 1)))
  pub is_object : asked_by (PushLiteral 0 ∷ IfNull is.Equal 4 ∷ PushInt (pos 1) ∷ Static Store 0 ∷ Bad ∷ [])
      ≡ Some (ask.PutStatic here int_field (value.Int (pos 1)))

-- ---- replies

abbrev pub stack_of : List (Frame Value Nothing) → List (Cell Value)
stack_of (Running m at own held ∷ below) = own.stack
stack_of frames = []

-- the stack after a reply to this instruction
abbrev pub given_by : Op → PlainReply → List (Cell Value)
given_by o r = stack_of (answer (setting (o ∷ [])) at_first r).frames

pub record GiveValues : Type 0 where
  pub int : given_by (Static Load 0) (reply.Item (value.Int (pos 7))) ≡ Int (pos 7) ∷ []
  pub long : given_by (Static Load 1) (reply.Item (value.Long (pos 7))) ≡ Half ∷ Long (pos 7) ∷ []
  pub null : given_by (Static Load 2) (reply.Item value.Null) ≡ Reference value.Null ∷ []
  pub object : given_by (Static Load 2) (reply.Item (value.Obj 5)) ≡ Reference (value.Obj 5) ∷ []
  pub made : given_by (New 1) (reply.Made (value.Obj 5)) ≡ Reference (value.Obj 5) ∷ []

-- ---- beginnings

abbrev pub code : Code texts 0 (one_node value.Null) (Frames Value Nothing)
code = code_of texts (one_node value.Null) small_program pausing 0 0

-- The main class is initialised first, and then `main` has the argument array, object 2. Another thread asks for
-- the class of its object.
pub record Begin : Type 0 where
  pub main : (code.turn code.main_frames).1 ≡ ask.Init here 0
  pub argument : (code.answer code.main_frames reply.Done).frames
      ≡ Running 0 0 (record { locals = Reference (value.Obj 2) ∷ []; stack = []; room = 1 }) None ∷ []
  pub thread : (code.turn (code.thread_frames 5)).1
      ≡ ask.ClassOf here (value.Obj 5) (built_in_number texts thread_place)
