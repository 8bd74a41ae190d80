-- A built-in method in progress, over any references and values: what it asks, and what comes of a reply.
use Rattle.std.specs.Prelude.{true, false, List, if◌then◌else◌}
use Rattle.run_types.specs.declared.known.Known.{Known}
use Rattle.run_types.specs.declared.resolved.At.{At}
use Rattle.natives.specs.declared.methods.Native.{Native}
use Rattle.natives.specs.declared.requests.Request.{Request}
use Rattle.natives.specs.declared.requests.Reply.{Reply}
use Rattle.natives.specs.declared.positions.Moved.{Moved}
use Rattle.natives.specs.declared.positions.Moved.TheVariants.{Asks, Calls, Gives}
use Rattle.natives.specs.declared.states.NativeState.{NativeState}
use Rattle.natives.specs.declared.states.NativeStep.{NativeStep}
use Rattle.natives.specs.declared.states.NativeStep.TheVariants.{Ask, Call, Return}
use Rattle.natives.specs.Values.{Values}
use Rattle.natives.specs.Positions.{asks_at, next_at, begins_at}

module _ {R V : Type 0} (x : Values R V) where
  -- the request for whose reply it waits
  abbrev pub request_of : NativeState R → Request R V
  request_of s = asks_at x s.known s.from s.position

  -- a method that was given its arguments
  abbrev pub started : Native → Known → At → List V → NativeState R
  started method known from values =
      record { known = known; from = from; is_begun = false; position = begins_at x values method }

  -- what it comes to: the reply before its first request says nothing
  abbrev pub moved_of : NativeState R → Reply R V → Moved R V
  moved_of s r = if s.is_begun then next_at x s.position r else Asks s.position

  abbrev pub step_of : NativeState R → Moved R V → NativeStep R V
  step_of s (Asks p) = Ask (asks_at x s.known s.from p)
  step_of s (Calls p called class receiver) = Call called class receiver
  step_of s (Gives value) = Return value

module _ {R V : Type 0} where
  abbrev pub state_after : NativeState R → Moved R V → NativeState R
  state_after s (Asks p) = record s { is_begun = true; position = p }
  state_after s (Calls p called class receiver) = record s { is_begun = true; position = p }
  state_after s (Gives value) = s
