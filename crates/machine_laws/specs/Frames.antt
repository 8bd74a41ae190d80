-- The frames of a machine's threads, and those that the plain machine has after the same acts.
use Rattle.std.specs.Prelude.{◌≡◌, ◌⊎◌, ℕ, ◌≤◌, List, [], ◌∷◌, map, length, slice_get, slice_set, Option, Some, None}
use Rattle.ap_base.specs.declared.reference.Ref.{Ref}
use Rattle.ap_base.specs.declared.reference.Item.{Item}
use Rattle.natives.specs.declared.requests.Request.{Request}
use Rattle.natives.specs.declared.requests.Reply.TheVariants as reply
use Rattle.run_history.specs.declared.act.Op.{Op}
use Rattle.plain_model.specs.Codes.{begun_by}
use Rattle.frames.specs.Turns.{turn, answer}
use Rattle.run_forms.specs.Views.{ThreadFrames, plain_frames}
use Rattle.run_forms.specs.Standing.{Launch, IsRun, StandsFor, IsAsking, IsAsked, plain_code, setting_of}
use Rattle.run_forms.specs.Laws.{answered_threads}
use Rattle.twin_forms.specs.Table.{Entry}
use Rattle.machine_forms.specs.declared.doing.Doing.{Doing}
use Rattle.machine_forms.specs.declared.doing.Doing.TheVariants.{Nothing, Converting, Writing, Fencing}
use Rattle.machine_forms.specs.Machines.{Opening, Machine, doing_of, shown_in}
use Rattle.machine_forms.specs.Keeping.{KeepsRun}
use Rattle.machine_forms.specs.Events.{RegionStep}
use Rattle.machine_forms.specs.Events as step
use Rattle.machine_forms.specs.Happening.{Happens, request_of, acted, fenced, region}

-- ---- frames by the acts

-- the frames once their turn's store is done
abbrev pub stored_frames : Launch → ThreadFrames → ThreadFrames
stored_frames launch fs = answer (setting_of launch) (turn (setting_of launch) fs).frames reply.Done

-- The frames as the plain machine has them after the acts. A durable store's act has come before its line is
-- written back and fenced: there they are answered, while the thread's own frames lag until the fence.
abbrev pub acted_frames : Launch → Doing → ThreadFrames → ThreadFrames
acted_frames launch Nothing fs = fs
acted_frames launch Converting fs = fs
acted_frames launch (Writing line) fs = stored_frames launch fs
acted_frames launch Fencing fs = stored_frames launch fs

-- of all threads, the first thread's first
abbrev pub all_acted : Launch → List Doing → List ThreadFrames → List ThreadFrames
all_acted launch [] threads = threads
all_acted launch (d ∷ doing) [] = []
all_acted launch (d ∷ doing) (fs ∷ threads) = acted_frames launch d fs ∷ all_acted launch doing threads

-- The machine with these frames stands for the plain run of its acts. A thread that hasn't begun is about
-- nothing.
pub record RunsAsPlain (o : Opening) (m : Machine) (threads : List ThreadFrames) : Type 0 where
  pub stands : StandsFor o.launch m.acts (shown_in m) m.rest (all_acted o.launch m.doing threads)
  pub begun : (t : ℕ) → length threads ≤ t → doing_of m t ≡ Nothing

-- of every machine that keeps its run, and runs as the plain machine does
abbrev pub OfPlain : (Opening → Machine → List Entry → List ThreadFrames → Type 0) → Type 0
OfPlain P = (o : Opening) (m : Machine) (es : List Entry) (threads : List ThreadFrames) → KeepsRun o m es
    → RunsAsPlain o m threads → P o m es threads

-- Thread t lives, its own frames are these, and their turn asks this.
abbrev pub Asks : Opening → Machine → List ThreadFrames → ℕ → ThreadFrames → Request Ref Item → Type 0
Asks o m threads t fs request = IsAsking o.launch m.rest threads t fs request

-- ---- events

-- A thread that an act starts has these frames, and no other begins.
abbrev pub Begins : Opening → Machine → Op → List ThreadFrames → Type 0
Begins o m' operation begun = map (plain_frames (shown_in m')) begun
    ≡ begun_by o.launch.set o.launch.main o.launch.opening (plain_code o.launch) operation

-- The thread's own frames ask the request that the event does; they are there, where it does none.
abbrev pub AsksIts : Opening → Machine → List ThreadFrames → ℕ → ThreadFrames → Option (Request Ref Item) → Type 0
AsksIts o m threads t fs None = slice_get threads t ≡ Some fs
AsksIts o m threads t fs (Some request) = Asks o m threads t fs request

-- What an act starts begins.
abbrev pub BeginsBy : {o : Opening} {t : ℕ} {m : Machine} {es : List Entry} {m' : Machine} {es' : List Entry}
    → Happens o t m es m' es' → List ThreadFrames → Type 0
BeginsBy {o} (acted m' request operation r e) begun = Begins o m' operation begun
BeginsBy other begun = Unit {0}

-- While a place is guarded and logged and while a region is ended, all frames stay; its store, its begin and its
-- end answer the thread's.
abbrev pub region_frames : {o : Opening} {t : ℕ} {m : Machine} {es : List Entry} {m' : Machine}
    → RegionStep o t m es m' → List ThreadFrames → ThreadFrames → List ThreadFrames
region_frames {o} {t} (step.begun m' request r e) threads fs = answered_threads o.launch threads t fs r []
region_frames {o} {t} (step.stored m' request place item e) threads fs =
    answered_threads o.launch threads t fs reply.Done []
region_frames {o} {t} (step.ended m' request r e) threads fs = answered_threads o.launch threads t fs r []
region_frames other threads fs = threads

-- The threads' own frames after an event: a fence answers those of its thread, and so does an act of its request
-- that makes no durable store outside regions.
abbrev pub frames_by : {o : Opening} {t : ℕ} {m : Machine} {es : List Entry} {m' : Machine} {es' : List Entry}
    → Happens o t m es m' es' → List ThreadFrames → ThreadFrames → List ThreadFrames → List ThreadFrames
frames_by {o} {t} (fenced twin e) threads fs begun = slice_set threads t (stored_frames o.launch fs)
frames_by {o} {t} (acted m' request operation r e) threads fs begun =
    answered_threads o.launch threads t fs r begun
frames_by (region m' e) threads fs begun = region_frames e threads fs
frames_by other threads fs begun = threads

abbrev pub EventsGoOnAsPlain : Type 0
EventsGoOnAsPlain = (o : Opening) (t : ℕ) (m m' : Machine) (es es' : List Entry) (threads : List ThreadFrames)
    → KeepsRun o m es → RunsAsPlain o m threads → (e : Happens o t m es m' es') (fs : ThreadFrames)
    (begun : List ThreadFrames) → AsksIts o m threads t fs (request_of e) → BeginsBy e begun
    → RunsAsPlain o m' (frames_by e threads fs begun)

-- ---- what threads ask

-- a thread whose own frames don't lag
abbrev pub IsReady : Doing → Type 0
IsReady d = (d ≡ Nothing) ⊎ (d ≡ Converting)

-- It asks what the plain machine asks, and that is fit.
abbrev pub ReadyThreadsAskAlike : Type 0
ReadyThreadsAskAlike = OfPlain (λ o m es threads. (t : ℕ) (fs : ThreadFrames) (request : Request Ref Item)
    → IsReady (doing_of m t) → Asks o m threads t fs request
    → IsAsked o.launch m.acts (shown_in m) m.rest t request)

-- The acts are a plain run.
abbrev pub ActsArePlainRuns : Type 0
ActsArePlainRuns = OfPlain (λ o m es threads. IsRun o.launch m.acts)

-- Where no thread is about anything, their frames are the plain machine's.
abbrev pub IdleMachinesStand : Type 0
IdleMachinesStand = OfPlain (λ o m es threads. ((t : ℕ) → doing_of m t ≡ Nothing)
    → StandsFor o.launch m.acts (shown_in m) m.rest threads)
