-- What a machine keeps of each of its threads between events, beside what it keeps of all; and that an event of one thread
-- leaves all others theirs.
use Rattle.std.specs.Prelude.{◌≡◌, ◌≢◌, ◌⊎◌, ℕ, ◌≤◌, true, List, length, slice_get, Some, IsSome}
use Rattle.ap_base.specs.declared.reference.Ref.{Ref}
use Rattle.ap_base.specs.declared.reference.Item.{Item}
use Rattle.ap_base.specs.declared.place.Place.{Place}
use Rattle.ap_base.specs.declared.place.Place.TheVariants.{Static, Slot}
use Rattle.run_types.specs.declared.resolved.At.{At}
use Rattle.natives.specs.declared.requests.Request.{Request}
use Rattle.natives.specs.declared.requests.Request.TheVariants as ask
use Rattle.graph_model.specs.Heaps.{has_number}
use Rattle.run_history.specs.Knowing.{Knowledge, Pending, pending_of, durable_at}
use Rattle.frames.specs.Turns.{turn}
use Rattle.shared_objects.specs.Shown.{Keeps}
use Rattle.step_forms.specs.Becomes.{given}
use Rattle.run_forms.specs.Views.{ThreadFrames}
use Rattle.run_forms.specs.Standing.{Launch, IsRun, setting_of}
use Rattle.region_log.specs.declared.entry.Underway.{Underway}
use Rattle.region_log.specs.declared.entry.Underway.TheVariants.{Nothing as Idle, Adding, Ending}
use Rattle.twin_forms.specs.Table.{Entry, entry, HasCopied}
use Rattle.lasting_steps.specs.Asking.{AsksItsStore}
use Rattle.machine_ends.specs.Passed.{Doing}
use Rattle.machine_ends.specs.Passed.{Nothing, Converting, Writing, Fencing}
use Rattle.machine_ends.specs.Passed.{Opening, Machine, known_in, shown_in, doing_of, log_of}
use Rattle.machine_ends.specs.Passed.{KeepsRun}
use Rattle.machine_ends.specs.Passed.{Happens, asked}
use Rattle.machine_ends.specs.Passed.{Asks, frames_by}
use Rattle.machine_threads.specs.Claiming.{HasForwarded}
use Rattle.machine_threads.specs.Stuck.{requests_in}

-- ---- one thread

-- What is stored at the place is to be durable: it is a durable root, or a slot of an object that is durable or of which a
-- line has been copied.
abbrev pub IsToHoldDurable : Knowledge → List Entry → Place → Type 0
IsToHoldDurable known es (Static f) = durable_at known (Static f) ≡ true
IsToHoldDurable known es (Slot n i) =
    (has_number known.durable n ≡ true) ⊎ ((c : ℕ) × HasCopied (entry es n) c)

-- the turn of these frames asks a store
abbrev pub AsksSomeStore : Launch → ThreadFrames → Type 0
AsksSomeStore launch fs = (request : Request Ref Item)
    × ((turn (setting_of launch) fs).asks ≡ Some request) × IsSome (given request)

-- The thread's own frames ask its durable store still while that is written back and fenced.
abbrev pub LagsByItsStore : Launch → Doing → ThreadFrames → Type 0
LagsByItsStore launch Nothing fs = Unit {0}
LagsByItsStore launch Converting fs = Unit {0}
LagsByItsStore launch (Writing line) fs = AsksSomeStore launch fs
LagsByItsStore launch Fencing fs = AsksSomeStore launch fs

-- While a word is being logged for the thread, its turn asks a store; while a region of it is being ended, that.
abbrev pub LagsByItsLog : Launch → Underway → ThreadFrames → Type 0
LagsByItsLog launch Idle fs = Unit {0}
LagsByItsLog launch (Adding e stage) fs = AsksSomeStore launch fs
LagsByItsLog launch (Ending stage) fs = (from : At) × ((turn (setting_of launch) fs).asks ≡ Some (ask.End from))

-- Of thread t, whose own frames are these. While it has asked a value, its request stores that object at the place for which
-- it asked, in the present world, and that place is to hold what is durable.
pub record KeepsThread (o : Opening) (m : Machine) (es : List Entry) (t : ℕ) (fs : ThreadFrames) : Type 0 where
  pub about : AsksItsStore o.launch.set (known_in o m) (requests_in o m t) t
  pub holds : (p : Pending) → pending_of (known_in o m).asked t ≡ Some p
      → IsToHoldDurable (known_in o m) es p.place
  pub lags : LagsByItsStore o.launch (doing_of m t) fs
  pub logs : LagsByItsLog o.launch (log_of m t).underway fs

-- A thread that hasn't begun is about nothing, and nothing is under way in its log.
pub record IsUnbegun (m : Machine) (t : ℕ) : Type 0 where
  pub doing : doing_of m t ≡ Nothing
  pub log : (log_of m t).underway ≡ Idle

-- ---- the others

-- of each event of thread t of a machine that keeps its run, after which the acts are a plain run, and of each other thread
abbrev pub OfOthers : (Opening → ℕ → Machine → List Entry → Machine → List Entry → Type 0) → Type 0
OfOthers P = (o : Opening) (t u : ℕ) (m m' : Machine) (es es' : List Entry) → KeepsRun o m es
    → IsRun o.launch m'.acts → Happens o t m es m' es' → u ≢ t → P o u m es m' es'

abbrev pub OthersKeepTheirs : Type 0
OthersKeepTheirs = OfOthers (λ o u m es m' es'. (fs : ThreadFrames) → KeepsThread o m es u fs
    → KeepsThread o m' es' u fs)

abbrev pub OthersStayUnbegun : Type 0
OthersStayUnbegun = OfOthers (λ o u m es m' es'. IsUnbegun m u → IsUnbegun m' u)

abbrev pub OthersStayForwarded : Type 0
OthersStayForwarded = OfOthers (λ o u m es m' es'. HasForwarded es u → HasForwarded es' u)

-- What another thread asks it asks still: it lives, and its own frames are the same.
abbrev pub OthersAskOn : Type 0
OthersAskOn = (o : Opening) (t u : ℕ) (m m' : Machine) (es es' : List Entry) (threads : List ThreadFrames)
    (fs gs : ThreadFrames) (begun : List ThreadFrames) (request : Request Ref Item) → KeepsRun o m es
    → (e : Happens o t m es m' es') → u ≢ t → Asks o m threads u gs request
    → Asks o m' (frames_by e threads fs begun) u gs request

-- What a reference stands for it stands for after each event: a request that is kept for a thread means what it meant.
abbrev pub ReferencesStandStill : Type 0
ReferencesStandStill = (o : Opening) (t : ℕ) (m m' : Machine) (es es' : List Entry) → KeepsRun o m es
    → Happens o t m es m' es' → Keeps (shown_in m).number (shown_in m').number

-- ---- the event's own thread

-- what the thread asks is to be stored where what is stored is to be durable
abbrev pub AsksToHold : {o : Opening} {t : ℕ} {m : Machine} {es : List Entry} {m' : Machine} {es' : List Entry}
    → Happens o t m es m' es' → Type 0
AsksToHold {o} {t} {m} {es} (asked request place item e) = IsToHoldDurable (known_in o m) es place
AsksToHold other = Unit {0}

-- What it has asked it asks still, until that is stored: whoever shows that these frames ask the durable store that isn't
-- fenced yet, the store whose word is being logged, and the end of the region that is being ended, has shown that the thread
-- keeps its own.
abbrev pub OwnersKeepTheirs : Type 0
OwnersKeepTheirs = (o : Opening) (t : ℕ) (m m' : Machine) (es es' : List Entry) (fs gs : ThreadFrames)
    → KeepsRun o m es → IsRun o.launch m'.acts → (e : Happens o t m es m' es') → AsksToHold e
    → KeepsThread o m es t fs → LagsByItsStore o.launch (doing_of m' t) gs
    → LagsByItsLog o.launch (log_of m' t).underway gs → KeepsThread o m' es' t gs

-- ---- threads that begin

-- A thread that begins keeps all of it, with whatever frames.
abbrev pub BeginnersKeepTheirs : Type 0
BeginnersKeepTheirs = (o : Opening) (t : ℕ) (m : Machine) (es : List Entry) (fs : ThreadFrames) → KeepsRun o m es
    → IsUnbegun m t → KeepsThread o m es t fs

-- ---- all threads

-- Each thread that has begun keeps its own, with these frames, the first thread's first; and no other has begun.
pub record AllKeep (o : Opening) (m : Machine) (es : List Entry) (threads : List ThreadFrames) : Type 0 where
  pub each : (t : ℕ) (fs : ThreadFrames) → slice_get threads t ≡ Some fs → KeepsThread o m es t fs
  pub unbegun : (t : ℕ) → length threads ≤ t → IsUnbegun m t

-- So whoever shows that the thread of an event keeps its own has shown it of all.
abbrev pub EventsKeepAll : Type 0
EventsKeepAll = (o : Opening) (t : ℕ) (m m' : Machine) (es es' : List Entry) (threads : List ThreadFrames)
    (fs : ThreadFrames) (begun : List ThreadFrames) → KeepsRun o m es → KeepsRun o m' es' → IsRun o.launch m'.acts
    → (e : Happens o t m es m' es') → slice_get threads t ≡ Some fs → AllKeep o m es threads
    → ((gs : ThreadFrames) → slice_get (frames_by e threads fs begun) t ≡ Some gs → KeepsThread o m' es' t gs)
    → AllKeep o m' es' (frames_by e threads fs begun)
