-- While a thread has asked a value, its request is the store for which it asked: it lives, and waits for nothing.
use Rattle.std.specs.Prelude.{◌≡◌, ◌≢◌, ℕ, ◌<◌, List, [], ◌∷◌, ◌++◌, length, Option, Some, None, IsSome}
use Rattle.ap_base.specs.declared.place.Place.{Place}
use Rattle.graph_model.specs.declared.types.Value.TheVariants.{Obj as Object}
use Rattle.graph_model.specs.declared.types.Graph.{Graph}
use Rattle.run_history.specs.declared.act.Op.TheVariants as op
use Rattle.run_history.specs.Recorded.{Recorded}
use Rattle.run_history.specs.Knowing.{Knowledge, Pending, pending_of}
use Rattle.plain_model.specs.Facts.{SetFacts}
use Rattle.plain_model.specs.Requests.{PlainRequest}
use Rattle.plain_model.specs.Codes.{Code}
use Rattle.plain_model.specs.Runs.{MayAct, known_of, wants_of, request_after}
use Rattle.plain_model.specs.Ends.{waits_of}
use Rattle.lasting_steps.specs.Staying.{StoresObject}

-- Where thread t has asked a value, this request of its stores it at the place for which it asked, in the present world.
abbrev pub AsksItsStore : SetFacts → Knowledge → Option PlainRequest → ℕ → Type 0
AsksItsStore set known request t = (p : Pending) → pending_of known.asked t ≡ Some p
    → (q : PlainRequest) × (n : ℕ) × (request ≡ Some q) × (p.value ≡ Object n) × StoresObject set known.world t q p.place n

-- where the act asks an object, that is there
abbrev pub AsksThere : Knowledge → Recorded → Type 0
AsksThere known a = (place : Place) (n : ℕ) → a.act.op ≡ op.Asked place (Object n) → n < length known.world.heap.objects

-- Each act that may come next leaves it so of each thread, of whatever thread it is.
abbrev pub ActsKeepAsking : Type 0 → Type 0
ActsKeepAsking Frames =
    (set : SetFacts) (main : ℕ) (opening : Graph) (code : Code set main opening Frames) (acts : List Recorded)
    (a : Recorded) (t : ℕ)
    → MayAct set (known_of set main opening code acts) (wants_of set main opening code acts)
    (request_after set main opening code acts a.act.thread) a
    → AsksThere (known_of set main opening code acts) a
    → AsksItsStore set (known_of set main opening code acts) (request_after set main opening code acts t) t
    → AsksItsStore set (known_of set main opening code (acts ++ a ∷ []))
    (request_after set main opening code (acts ++ a ∷ []) t) t

-- An act of another thread leaves it so, whatever that asks.
abbrev pub OtherActsKeepAsking : Type 0 → Type 0
OtherActsKeepAsking Frames =
    (set : SetFacts) (main : ℕ) (opening : Graph) (code : Code set main opening Frames) (acts : List Recorded)
    (a : Recorded) (t : ℕ)
    → MayAct set (known_of set main opening code acts) (wants_of set main opening code acts)
    (request_after set main opening code acts a.act.thread) a
    → a.act.thread ≢ t
    → AsksItsStore set (known_of set main opening code acts) (request_after set main opening code acts t) t
    → AsksItsStore set (known_of set main opening code (acts ++ a ∷ []))
    (request_after set main opening code (acts ++ a ∷ []) t) t

-- Such a thread lives, and waits for nothing in the plain world.
abbrev pub AskersLive : Type 0
AskersLive = (set : SetFacts) (known : Knowledge) (requests : ℕ → Option PlainRequest) (t : ℕ) (p : Pending)
    → AsksItsStore set known (requests t) t → pending_of known.asked t ≡ Some p
    → IsSome (requests t) × (waits_of set known requests t ≡ None)
