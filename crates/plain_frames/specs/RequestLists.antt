-- Built-in methods in progress make their request lists: what `next_request` answers, and the state that it
-- leaves (natives/specs/States.antt).
use Rattle.std.specs.Prelude.{◌≡◌, List, Option, Some, None}
use Rattle.run_types.specs.declared.known.Known.{Known}
use Rattle.run_types.specs.declared.resolved.At.{At}
use Rattle.natives.specs.declared.methods.Native.{Native}
use Rattle.natives.specs.declared.requests.Request.{Request}
use Rattle.natives.specs.declared.requests.Request.TheVariants as ask
use Rattle.natives.specs.declared.requests.Reply.{Reply}
use Rattle.natives.specs.declared.states.NativeState.{NativeState}
use Rattle.natives.specs.declared.states.NativeStep.{NativeStep}
use Rattle.natives.specs.declared.states.NativeStep.TheVariants as step
use Rattle.natives.specs.Values.{Values}
use Rattle.natives.specs.Scripts.{Script, Ask, Call, Return, request_list}
use Rattle.natives.specs.States.{request_of, started, moved_of, step_of, state_after}
use Rattle.frames.specs.declared.given.Given.{Given}
use Rattle.frames.specs.Settings.{Asks, Calls, Gives}
use Rattle.frames.specs.Settings as frames
use Rattle.plain_frames.specs.Methods.{method_of, given_back, start, asks, next}

-- the first request of a list
abbrev pub first_of : {R V : Type 0} → Script R V → Option (Request R V)
first_of (Ask q goes_on) = Some q
first_of (Call called class receiver goes_on) = None
first_of (Return value) = None

module _ {R V : Type 0} (x : Values R V) where
  -- what a reply is answered by, and the state after it
  abbrev pub answered : NativeState R → Reply R V → NativeStep R V
  answered s r = step_of x s (moved_of x s r)

  abbrev pub after_reply : NativeState R → Reply R V → NativeState R
  after_reply s r = state_after s (moved_of x s r)

  -- A step is what the list says, and the state after it waits for its reply, with Pause for what a method
  -- gives back; and so it goes on after each reply.
  abbrev pub Makes : Script R V → NativeStep R V → NativeState R → Type 0
  Makes (Ask q goes_on) taken s = (taken ≡ step.Ask q) × (request_of x s ≡ q)
      × ((r : Reply R V) → Makes (goes_on r) (answered s r) (after_reply s r))
  Makes (Call called class receiver goes_on) taken s =
      (taken ≡ step.Call called class receiver) × (request_of x s ≡ ask.Pause)
      × ((r : Reply R V) → Makes (goes_on r) (answered s r) (after_reply s r))
  Makes (Return value) taken s = taken ≡ step.Return value

  -- A method, given its arguments, waits for its first request, and makes its list from the first reply on,
  -- which says nothing.
  pub record MakesFromItsStart (list : Script R V) (s : NativeState R) : Type 0 where
    pub first : first_of list ≡ Some (request_of x s)
    pub all : (r : Reply R V) → Makes list (answered s r) (after_reply s r)

  abbrev pub StatesMakeTheirRequestLists : Type 0
  StatesMakeTheirRequestLists = (known : Known) (from : At) (method : Native) (values : List V)
      → MakesFromItsStart (request_list x known from values method) (started x method known from values)

  -- And so does a method as frames have it, which stands at its first request once it is started.
  module _ (give : V → Given R) where
    abbrev pub GoesOn : Script R V → frames.NativeStep R (NativeState R) → Type 0
    GoesOn (Ask q goes_on) (Asks s) =
        (asks x give s ≡ q) × ((r : Reply R V) → GoesOn (goes_on r) (next x give s r))
    GoesOn (Call called class receiver goes_on) (Calls s other_called other_class other_receiver) =
        (other_called ≡ method_of called) × (other_class ≡ class) × (other_receiver ≡ receiver)
        × (asks x give s ≡ ask.Pause) × ((r : Reply R V) → GoesOn (goes_on r) (next x give s r))
    GoesOn (Return value) (Gives given) = given ≡ given_back give value
    GoesOn list taken = ⊥

    abbrev pub FramesMakeTheirRequestLists : Type 0
    FramesMakeTheirRequestLists = (known : Known) (from : At) (method : Native) (values : List V)
        → GoesOn (request_list x known from values method) (Asks (start x give known method from values))
