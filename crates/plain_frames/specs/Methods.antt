-- The built-in methods as frames have them, over any references and values; and those of the plain machine.
use Rattle.std.specs.Prelude.{true, List, ℤ, pos, Option, Some, None}
use Rattle.run_types.specs.declared.known.Known.{Known}
use Rattle.run_types.specs.declared.resolved.At.{At}
use Rattle.graph_model.specs.declared.types.Value.{Value}
use Rattle.graph_model.specs.declared.types.Value.TheVariants as value
use Rattle.natives.specs.declared.methods.Native.{Native}
use Rattle.natives.specs.declared.requests.Request.{Request}
use Rattle.natives.specs.declared.requests.Reply.{Reply}
use Rattle.natives.specs.declared.positions.Called.{Called as CalledMethod}
use Rattle.natives.specs.declared.positions.Called.TheVariants as called
use Rattle.natives.specs.declared.positions.Moved.{Moved}
use Rattle.natives.specs.declared.positions.Moved.TheVariants as moved
use Rattle.natives.specs.declared.positions.Position.{Position}
use Rattle.natives.specs.declared.states.NativeState.{NativeState}
use Rattle.natives.specs.Values.{Values}
use Rattle.natives.specs.States.{request_of, started, moved_of}
use Rattle.frames.specs.declared.given.Given.{Given}
use Rattle.frames.specs.declared.given.Given.TheVariants as given
use Rattle.frames.specs.Settings.{Called, Run, ToString, NativeStep, Asks, Calls, Gives}
use Rattle.plain_model.specs.Facts.{SetFacts, known_classes}
use Rattle.plain_frames.specs.Codes.{PlainNatives, is_null}

abbrev pub method_of : CalledMethod → Called
method_of called.Run = Run
method_of called.ToString = ToString

abbrev pub given_back : {R V : Type 0} → (V → Given R) → Option V → Given R
given_back give None = given.Nothing
given_back give (Some v) = give v

-- `give` reads a value as what a method gives back
module _ {R V : Type 0} (x : Values R V) (give : V → Given R) where
  abbrev pub at : NativeState R → Position R → NativeState R
  at s p = record s { is_begun = true; position = p }

  abbrev pub step : NativeState R → Moved R V → NativeStep R (NativeState R)
  step s (moved.Asks p) = Asks (at s p)
  step s (moved.Calls p method class receiver) = Calls (at s p) (method_of method) class receiver
  step s (moved.Gives v) = Gives (given_back give v)

  -- a method that has asked its first request
  abbrev pub start : Known → Native → At → List V → NativeState R
  start known method from values = record (started x method known from values) { is_begun = true }

  abbrev pub asks : NativeState R → Request R V
  asks s = request_of x s

  abbrev pub next : NativeState R → Reply R V → NativeStep R (NativeState R)
  next s r = step s (moved_of x s r)

-- Plain values are references too.
abbrev pub int_of : Value → ℤ
int_of (value.Int i) = i
int_of v = pos 0

abbrev pub long_of : Value → ℤ
long_of (value.Long i) = i
long_of v = pos 0

abbrev pub reference_of : Value → Value
reference_of (value.Obj n) = value.Obj n
reference_of v = value.Null

abbrev pub plain_values : Values Value Value
plain_values = record {
  null = value.Null;
  is_null = is_null;
  of_int = value.Int;
  of_reference = λ r. r;
  int_of = int_of;
  long_of = long_of;
  reference_of = reference_of;
}

abbrev pub plain_given : Value → Given Value
plain_given (value.Int i) = given.Int i
plain_given (value.Long i) = given.Long i
plain_given r = given.Reference r

-- the built-in methods of a class set
abbrev pub plain_natives : SetFacts → PlainNatives Native (NativeState Value)
plain_natives set = record {
  start = start plain_values plain_given (known_classes set);
  asks = asks plain_values plain_given;
  next = next plain_values plain_given;
}
