-- The code of a class set whose instructions are decoded: its frames hold plain values as references.
use Rattle.std.specs.Prelude.{ℕ, Bool, true, false, List, [], ◌∷◌, Option, Some, None}
use Rattle.run_types.specs.declared.resolved.At.{At}
use Rattle.graph_model.specs.declared.types.Graph.{Graph}
use Rattle.graph_model.specs.declared.types.Value.{Value}
use Rattle.graph_model.specs.declared.types.Value.TheVariants as value
use Rattle.natives.specs.declared.requests.Request.TheVariants as ask
use Rattle.plain_model.specs.Codes.{Code}
use Rattle.plain_model.specs.Facts.{SetFacts}
use Rattle.plain_model.specs.First.{arguments_number, literal_number}
use Rattle.plain_model.specs.Requests.{PlainRequest, PlainReply}
use Rattle.frame_cells.specs.declared.cell.Cell.{Cell}
use Rattle.frame_cells.specs.declared.cell.Cell.TheVariants.{Int, Long, Half, Reference}
use Rattle.frames.specs.declared.program.Program.{Program}
use Rattle.frames.specs.Tables.{start_of}
use Rattle.frames.specs.Settings.{Frames, NativeStep, Setting}
use Rattle.frames.specs.Turns.{begun_main, begun_thread, turn, answer}

-- the native methods M of the plain machine, with their states N
pub record PlainNatives (M N : Type 0) : Type 0 where
  pub start : M → At → List Value → N
  pub asks : N → PlainRequest
  pub next : N → PlainReply → NativeStep Value N

-- the cells of a value, the top first
abbrev pub plain_cells : Value → List (Cell Value)
plain_cells (value.Int i) = Int i ∷ []
plain_cells (value.Long i) = Half ∷ Long i ∷ []
plain_cells other = Reference other ∷ []

abbrev pub is_null : Value → Bool
is_null value.Null = true
is_null other = false

abbrev pub request_or_pause : Option PlainRequest → PlainRequest
request_or_pause None = ask.Pause
request_or_pause (Some request) = request

module _ (set : SetFacts) (opening : Graph) {M N : Type 0} (p : Program M) (natives : PlainNatives M N)
    (method : ℕ) where
  -- literals are objects of the first heap; `method` is the number of `main`
  abbrev pub plain_setting : Setting M Value N Value
  plain_setting = record {
    program = p;
    main = start_of p method;
    null = value.Null;
    is_null = is_null;
    literal = λ k. value.Obj (literal_number set opening k);
    of_int = value.Int;
    of_long = value.Long;
    of_reference = λ r. r;
    cells = plain_cells;
    start = natives.start;
    asks = natives.asks;
    next = natives.next;
  }

  -- The code of the set with this main class.
  unfoldable pub code_of : (main : ℕ) → Code set main opening (Frames Value N)
  code_of main = record {
    turn = λ fs. ((turn plain_setting fs).frames, request_or_pause (turn plain_setting fs).asks);
    answer = answer plain_setting;
    main_frames = begun_main main method (value.Obj (arguments_number set opening));
    thread_frames = λ n. begun_thread (value.Obj n);
  }
