-- The classes that a thread may use without initialising them and without waiting (JVMS 5.5): they stay so.
use Rattle.std.specs.Prelude.{◌≡◌, ℕ, List, ◌++◌, Option, Some, None, slice_get}
use Rattle.ap_base.specs.declared.place.Place.{Place}
use Rattle.graph_model.specs.declared.types.Value.{Value}
use Rattle.graph_model.specs.declared.types.Graph.{Graph}
use Rattle.natives.specs.declared.requests.Request.TheVariants as ask
use Rattle.run_history.specs.declared.act.Op.TheVariants as op
use Rattle.run_history.specs.declared.plain.Progress.{Progress}
use Rattle.run_history.specs.declared.plain.Progress.TheVariants.{Untouched, BegunBy, Finished}
use Rattle.run_history.specs.Recorded.{Recorded}
use Rattle.run_history.specs.Worlds.{World}
use Rattle.run_history.specs.Knowing.{Pending, next_known}
use Rattle.plain_model.specs.Facts.{SetFacts}
use Rattle.plain_model.specs.Requests.{PlainRequest, PlainReply}
use Rattle.plain_model.specs.Steps.{Does, step}
use Rattle.plain_model.specs.Codes.{Code}
use Rattle.plain_model.specs.Runs.{MayAct, IsPlainRun, known_of, wants_of, request_after}
use Rattle.plain_model.specs.Laws.{WasAsked}
use Rattle.plain_model.specs.Ends.{wait_of, waits_of}

-- a class is done, or this thread has begun it
abbrev pub HasPassed : ℕ → Option Progress → Type 0
HasPassed t None = ⊥
HasPassed t (Some Untouched) = ⊥
HasPassed t (Some (BegunBy u)) = u ≡ t
HasPassed t (Some Finished) = Unit {0}

-- thread t passes the class in this world
abbrev pub Passes : World → ℕ → ℕ → Type 0
Passes world t class = HasPassed t (slice_get world.classes class)

-- Each act that may come next in a plain run, of whatever thread, leaves thread t past the class.
abbrev pub ClassesStayPassed : Type 0 → Type 0
ClassesStayPassed Frames =
    (set : SetFacts) (main : ℕ) (opening : Graph) (code : Code set main opening Frames) (acts : List Recorded)
    (a : Recorded) (t class : ℕ)
    → MayAct set (known_of set main opening code acts) (wants_of set main opening code acts)
    (request_after set main opening code acts a.act.thread) a
    → Passes (known_of set main opening code acts).world t class
    → Passes (next_known (known_of set main opening code acts) a).world t class

-- So do many.
abbrev pub ClassesStayPassedBy : Type 0 → Type 0
ClassesStayPassedBy Frames = (set : SetFacts) (main : ℕ) (opening : Graph) (code : Code set main opening Frames)
    (acts more : List Recorded) (t class : ℕ) → IsPlainRun set main opening code (acts ++ more)
    → Passes (known_of set main opening code acts).world t class
    → Passes (known_of set main opening code (acts ++ more)).world t class

-- the thread passes the class that the request names, where it stores to a static field
abbrev pub PassesIn : World → ℕ → PlainRequest → Type 0
PassesIn world t (ask.PutStatic from field value) = Passes world t field.class
PassesIn world t request = Unit {0}

-- A step that stores has passed the class of its field.
abbrev pub StoresHavePassed : Type 0
StoresHavePassed =
    (set : SetFacts) (world : World) (t taken : ℕ) (request : PlainRequest) (place : Place) (value : Value) (r : PlainReply)
    → step set world t taken request ≡ Does (op.Stored place value) r → PassesIn world t request

-- A request that stores in one world waits in none in which its class is passed.
abbrev pub PassedStoresDontWait : Type 0
PassedStoresDontWait =
    (set : SetFacts) (world after : World) (t taken taken' : ℕ) (request : PlainRequest) (place : Place) (value : Value)
    (r : PlainReply) → step set world t taken request ≡ Does (op.Stored place value) r
    → PassesIn after t request → wait_of (step set after t taken' request) ≡ None

-- Whoever has asked a store waits for nothing in the plain world, after whatever acts: for no class, no
-- monitor and no thread's end.
abbrev pub StoresNeverWait : Type 0 → Type 0
StoresNeverWait Frames =
    (set : SetFacts) (main : ℕ) (opening : Graph) (code : Code set main opening Frames) (acts more : List Recorded)
    (t taken taken' : ℕ) (request : PlainRequest) (place : Place) (value : Value) (r : PlainReply)
    → IsPlainRun set main opening code (acts ++ more)
    → step set (known_of set main opening code acts).world t taken request ≡ Does (op.Stored place value) r
    → wait_of (step set (known_of set main opening code (acts ++ more)).world t taken' request) ≡ None

-- ---- as an invariant of a machine, act by act

-- Each act leaves thread t past what its request stores to. (A machine of many threads can keep this beside the place and the value
-- that t has asked.)
abbrev pub AskedPlacesStayPassed : Type 0 → Type 0
AskedPlacesStayPassed Frames =
    (set : SetFacts) (main : ℕ) (opening : Graph) (code : Code set main opening Frames) (acts : List Recorded)
    (a : Recorded) (t : ℕ) (request : PlainRequest)
    → MayAct set (known_of set main opening code acts) (wants_of set main opening code acts)
    (request_after set main opening code acts a.act.thread) a
    → PassesIn (known_of set main opening code acts).world t request
    → PassesIn (next_known (known_of set main opening code acts) a).world t request

-- An Asked act is of a request that stores: its thread passes what that stores to.
abbrev pub AskedPlacesArePassed : Type 0 → Type 0
AskedPlacesArePassed Frames =
    (set : SetFacts) (main : ℕ) (opening : Graph) (code : Code set main opening Frames) (acts : List Recorded)
    (a : Recorded) (place : Place) (value : Value) (request : PlainRequest)
    → MayAct set (known_of set main opening code acts) (wants_of set main opening code acts)
    (request_after set main opening code acts a.act.thread) a
    → a.act.op ≡ op.Asked place value → request_after set main opening code acts a.act.thread ≡ Some request
    → PassesIn (next_known (known_of set main opening code acts) a).world a.act.thread request

-- Of a thread whose asked value is pending: while its request is the one for which it asked, it waits for nothing
-- in the plain world.
abbrev pub AskedStoresNeverWait : Type 0 → Type 0
AskedStoresNeverWait Frames =
    (set : SetFacts) (main : ℕ) (opening : Graph) (code : Code set main opening Frames) (acts : List Recorded)
    (t : ℕ) (p : Pending) → IsPlainRun set main opening code acts → (was : WasAsked acts t p)
    → request_after set main opening code acts t ≡ request_after set main opening code was.front t
    → waits_of set (known_of set main opening code acts) (request_after set main opening code acts) t ≡ None
