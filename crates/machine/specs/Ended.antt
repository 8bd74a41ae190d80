-- What the step of a request comes to as an event; and what an event is given further.
use Rattle.std.specs.Prelude.{◌≡◌, ℕ, ◌<◌, List, [], ◌∷◌, ◌++◌, unwrap_or, Option, None, IsSome}
use Rattle.ap_base.specs.declared.reference.Ref.{Ref}
use Rattle.ap_base.specs.declared.reference.Item.{Item}
use Rattle.run_types.specs.declared.fault.StepFault.TheVariants as met
use Rattle.run_types.specs.declared.fault.Which.TheVariants as which
use Rattle.run_types.specs.declared.resolved.At.{At}
use Rattle.run_types.specs.declared.wait.On.TheVariants as on
use Rattle.natives.specs.declared.requests.Request.{Request}
use Rattle.natives.specs.declared.requests.Request.TheVariants as ask
use Rattle.natives.specs.declared.requests.Reply.{Reply}
use Rattle.run_history.specs.Recorded.{Recorded}
use Rattle.plain_model.specs.Facts.{SetFacts}
use Rattle.step_forms.specs.declared.stepped.Stepped.{Stepped}
use Rattle.step_forms.specs.declared.stepped.Stepped.TheVariants as stepped
use Rattle.step_forms.specs.Becomes.{given}
use Rattle.run_forms.specs.Views.{ThreadFrames}
use Rattle.run_forms.specs.Ends.{from_in}
use Rattle.twin_forms.specs.Table.{Entry}
use Rattle.region_log.specs.declared.entry.Underway.TheVariants.{Nothing as Idle}
use Rattle.machine_threads.specs.Passed.{Machine, Opening, doing_of, log_of}
use Rattle.machine_threads.specs.Passed.{IsReady}
use Rattle.object_steps.specs.declared.storing.Store.{Store}
use Rattle.shared_heap.specs.declared.conversions.Conversion.{Conversion}
use Rattle.shared_heap.specs.declared.conversions.Conversion.TheVariants as did
use Rattle.shared_heap.specs.Shared.{Shared}
use Rattle.shared_heap.specs.Requests.{IsPlannedFor}
use Rattle.machine.specs.declared.events.Event.{Event}
use Rattle.machine.specs.declared.events.Event.TheVariants.{Did, Micro, WouldWait, Over}
use Rattle.machine.specs.declared.events.Halt.TheVariants.{Met}
use Rattle.machine.specs.Halts.{lacks}
use Rattle.machine.specs.Events.{Comes, HasSinkCause, IsShare, SparesSink, TakesOutput}
use Rattle.machine.specs.Running.{IsDue}

abbrev pub nowhere : At
nowhere = record { class = 0; method = 0; pc = 0 }

-- A reply answers; a wrong operand names the instruction that asks.
abbrev pub event_of : Request Ref Item → Stepped → Event
event_of request (stepped.Did operation r) = Did r
event_of request (stepped.Waits on) = WouldWait on
event_of request stepped.Wrong = Over (Met (met.BadCode (unwrap_or (from_in request) nowhere)))
event_of request (stepped.Over f) = Over (Met f)

-- A conversion that needs more lines than are left ends the run; one that waits for a thread's conversion tells it; any
-- other event of it goes on.
abbrev pub went_event : Conversion → Event
went_event (did.Full need left) = Over (Met (lacks which.ImageLines need left))
went_event (did.Waits u) = WouldWait (on.Conversion u)
went_event other = Micro

-- the thread that is waited for is one of the 64
abbrev pub IsThread : Conversion → Type 0
IsThread (did.Waits u) = u < 64
IsThread other = Unit {0}

-- The tests of the request's store are passed. Nothing is under way in the thread's log.
pub record HasPlanned (o : Opening) (first : ℕ) (set : SetFacts) (s : Shared) (es : List Entry)
    (threads : List ThreadFrames) (t : ℕ) (fs : ThreadFrames) (request : Request Ref Item) (store : Store)
    : Type 0 where
  pub due : IsDue o first set s es threads t fs request
  pub ready : IsReady (doing_of s.machine t)
  pub idle : (log_of s.machine t).underway ≡ Idle
  pub planned : IsPlannedFor set t request store s
  pub gives : IsSome (given request)

-- ---- regions

-- Where so many regions are open, the request begins none and ends none.
abbrev pub IsOutside : ℕ → Request Ref Item → Type 0
IsOutside depth (ask.Begin from) = ⊥
IsOutside depth (ask.End from) = depth ≡ 0
IsOutside depth request = Unit {0}

-- ---- of whatever run

-- an event of thread t is due, of some run
abbrev pub IsSomeDue : Shared → ℕ → Type 0
IsSomeDue s t = (o : Opening) × (first : ℕ) × (set : SetFacts) × (es : List Entry) × (threads : List ThreadFrames)
    × (fs : ThreadFrames) × (request : Request Ref Item) × IsDue o first set s es threads t fs request

-- Of each run of which one is due, the event comes to this. It has no part in the sink.
pub record ComesTo (t : ℕ) (result : Event) (old new : Shared) : Type 0 where
  pub comes : (o : Opening) (first : ℕ) (set : SetFacts) (es : List Entry) (threads : List ThreadFrames)
      (fs : ThreadFrames) (request : Request Ref Item) → IsDue o first set old es threads t fs request
      → Comes o first es threads t fs request result old new
  pub sink : SparesSink result old.history.acts new.history.acts

-- the same where the tests of a store are passed
abbrev pub HasSomePlanned : Shared → ℕ → Store → Type 0
HasSomePlanned s t store = (o : Opening) × (first : ℕ) × (set : SetFacts) × (es : List Entry)
    × (threads : List ThreadFrames) × (fs : ThreadFrames) × (request : Request Ref Item)
    × HasPlanned o first set s es threads t fs request store

pub record StoreComesTo (t : ℕ) (store : Store) (result : Event) (old new : Shared) : Type 0 where
  pub comes : (o : Opening) (first : ℕ) (set : SetFacts) (es : List Entry) (threads : List ThreadFrames)
      (fs : ThreadFrames) (request : Request Ref Item) → HasPlanned o first set old es threads t fs request store
      → Comes o first es threads t fs request result old new
  pub sink : SparesSink result old.history.acts new.history.acts

-- ---- of a set's request

-- What an event comes to for each run of the set of which one is due with this request, and what the sink was
-- given in it.
pub record Serves (set : SetFacts) (t : ℕ) (request : Request Ref Item) (result : Event) (old new : Shared)
    (takes takes' : ℕ → ℕ → Option ℕ) (taken taken' : Option (List ℕ)) (faults faults' : ℕ) : Type 0 where
  pub comes : (o : Opening) (first : ℕ) (es : List Entry) (threads : List ThreadFrames) (fs : ThreadFrames)
      → IsDue o first set old es threads t fs request → Comes o first es threads t fs request result old new
  pub told : TakesOutput old.history.acts new.history.acts taken taken' takes takes'
  pub share : (act : Recorded) → new.history.acts ≡ old.history.acts ++ act ∷ []
      → IsShare request (takes 0) act.act.op
  pub cause : HasSinkCause result faults faults'

-- ---- of a request that isn't made

-- nothing is under way in the thread's log
abbrev pub IsIdle : Machine → ℕ → Type 0
IsIdle m t = (log_of m t).underway ≡ Idle

-- an event is due, of some run of the set, with this request, from some place
abbrev pub IsDueFrom : SetFacts → Shared → ℕ → (At → Request Ref Item) → Type 0
IsDueFrom set s t request = (from : At) × (o : Opening) × (first : ℕ) × (es : List Entry) × (threads : List ThreadFrames)
    × (fs : ThreadFrames) × IsDue o first set s es threads t fs (request from)

-- The event answers that request by this reply, from whichever place it comes. The sink has no part in it.
abbrev pub AnswersAtOnce : SetFacts → ℕ → (At → Request Ref Item) → Reply Ref Item → Shared → Shared → Type 0
AnswersAtOnce set t request r old new = (from : At) (o : Opening) (first : ℕ) (es : List Entry)
    (threads : List ThreadFrames) (fs : ThreadFrames) → IsDue o first set old es threads t fs (request from)
    → (takes : ℕ → ℕ → Option ℕ) (taken : Option (List ℕ)) (faults : ℕ)
    → Serves set t (request from) (Did r) old new takes takes taken taken faults faults

-- ---- what is under way

-- it ends no region
abbrev pub EndsNone : Request Ref Item → Type 0
EndsNone (ask.End from) = ⊥
EndsNone request = Unit {0}

-- A thread that asks neither a store nor the end of a region owes no fence, and nothing is under way in its log: no word is being
-- logged, and no region of it ended.
abbrev pub OnlyStoresAndEndsAreUnderWay : Type 0
OnlyStoresAndEndsAreUnderWay = (o : Opening) (first : ℕ) (set : SetFacts) (s : Shared) (es : List Entry)
    (threads : List ThreadFrames) (t : ℕ) (fs : ThreadFrames) (request : Request Ref Item)
    → IsDue o first set s es threads t fs request → given request ≡ None → EndsNone request
    → IsReady (doing_of s.machine t) × IsIdle s.machine t
