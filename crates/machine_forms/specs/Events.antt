-- The events of a machine: what each does to its parts, as the layers below tell it.
use Rattle.std.specs.Prelude.{◌≡◌, ◌≢◌, ◌⊎◌, ◌↔◌, ℕ, ◌+◌, ◌-◌, ◌<◌, ◌≤◌, true, false, List, [], ◌∷◌, ◌++◌, length, slice_index}
use Rattle.std.specs.Prelude.{slice_set, None, Some, AllPairs, if◌then◌else◌}
use Rattle.ap_base.specs.declared.reference.Ref.{Ref}
use Rattle.ap_base.specs.declared.reference.Item.{Item}
use Rattle.ap_base.specs.declared.place.Place.{Place}
use Rattle.ap_base.specs.declared.place.Place.TheVariants.{Static, Slot}
use Rattle.graph_model.specs.declared.types.Value.{Value}
use Rattle.graph_model.specs.declared.types.Value.TheVariants.{Obj as Object}
use Rattle.graph_model.specs.Heaps.{has_number}
use Rattle.monitors.specs.Indexed.{AreSound}
use Rattle.natives.specs.declared.requests.Request.{Request}
use Rattle.natives.specs.declared.requests.Request.TheVariants as ask
use Rattle.natives.specs.declared.requests.Reply.{Reply}
use Rattle.natives.specs.declared.requests.Reply.TheVariants as reply
use Rattle.line_memory.specs.Memory.{IsWritten, IsDurable, SameImage, OneCall, MadeFence}
use Rattle.run_types.specs.declared.resolved.At.{At}
use Rattle.run_history.specs.declared.act.Op.{Op}
use Rattle.run_history.specs.declared.act.Op.TheVariants as op
use Rattle.run_history.specs.Recorded.{Recorded}
use Rattle.run_history.specs.Knowing.{Pending, pending_of, durable_at, guard_of}
use Rattle.plain_model.specs.Duties.{IsFit}
use Rattle.plain_model.specs.Runs.{is_volatile}
use Rattle.stop_theorem.specs.InvariantEvents.{line_at}
use Rattle.shared_objects.specs.Shown.{item_value}
use Rattle.shared_objects.specs.Plain.{plain_request, KnowsRequest}
use Rattle.shared_objects.specs.Worlds.{world_of}
use Rattle.step_forms.specs.declared.stepped.Stepped.TheVariants as stepped
use Rattle.step_forms.specs.Follows.{IsStep}
use Rattle.step_forms.specs.Becomes.{Becomes, AsksStore}
use Rattle.twin_forms.specs.Table.{Entry, entry, IsClaimed, InP, HasCopied, line_of}
use Rattle.twin_forms.specs.Moves.{fresh}
use Rattle.twin_forms.specs.Sights.{Twin, AllKnown}
use Rattle.two_spaces.specs.Seen.{shown_of}
use Rattle.two_spaces.specs.Whole.{StoresIn, MakesIn}
use Rattle.two_spaces.specs.Quiet.{IsImageCall}
use Rattle.convert_queue.specs.Marks.{with_fence as marks_fenced}
use Rattle.convert_queue.specs.Queues.{Queues, queue_of}
use Rattle.convert_words.specs.declared.step.ConvertStep.{ConvertStep}
use Rattle.convert_words.specs.declared.step.ConvertStep.TheVariants as step
use Rattle.convert_words.specs.Sealing.{OfSet}
use Rattle.convert_words.specs.Steps.{told, told_fenced}
use Rattle.converter.specs.declared.begin.Begun.{Begun}
use Rattle.converter.specs.Beginning.{Begins, IsAsked}
use Rattle.converter.specs.Stepping.{Event, FailedEvent}
use Rattle.machine_forms.specs.declared.doing.Doing.{Doing}
use Rattle.machine_forms.specs.declared.doing.Doing.TheVariants.{Nothing, Converting, Writing, Fencing}
use Rattle.region_log.specs.declared.entry.Entry.{Entry as LogEntry}
use Rattle.region_log.specs.declared.entry.Underway.TheVariants.{Nothing as Idle}
use Rattle.region_log.specs.Fencing.{makes_fence}
use Rattle.region_log.specs.Log.{Log}
use Rattle.region_log.specs.Stages.{EndsAtOnce}
use Rattle.region_log.specs.Steps.{EndsLog, EndsOn, FailsToEnd, FencesRegion, TouchesToEnd}
use Rattle.region_events.specs.Laws.{CallsToEnd, LogsOn, MayBeGuarded, MayBegin, one_deeper, with_entry}
use Rattle.machine_forms.specs.Machines.{Opening, Machine, known_in, memory_of, shown_in, scene_of, doing_of, log_of, layout_in}

-- ---- parts

abbrev pub with_twin : Machine → Twin → Machine
with_twin m t = record m { spaces = record m.spaces { twin = t } }

-- an act of thread t now, which names these objects
abbrev pub act_in : Machine → ℕ → Op → List ℕ → Recorded
act_in m t o named =
    record { act = record { thread = t; at = (memory_of m).calls; op = o }; named = named }

abbrev pub with_act : Machine → ℕ → Op → List ℕ → Machine
with_act m t o named = record m { acts = m.acts ++ act_in m t o named ∷ [] }

abbrev pub with_doing : Machine → ℕ → Doing → Machine
with_doing m t d = record m { doing = slice_set m.doing t d }

abbrev pub with_log : Machine → ℕ → Log → Machine
with_log m t log = record m { logs = slice_set m.logs t log }

-- ---- calls of the image

-- A touch, a write-back, a fence or an eviction, made or failed.
pub record CallsImage (m : Machine) (twin : Twin) : Type 0 where
  pub call : IsImageCall m.spaces twin
  pub count : SameImage (memory_of m) twin.memory ⊎ OneCall (memory_of m) twin.memory
  pub later : (memory_of m).calls ≤ twin.memory.calls

-- The line of the thread's durable store is written back.
pub record WritesBack (m : Machine) (twin : Twin) (t : ℕ) : Type 0 where
  pub calls : CallsImage m twin
  pub line : ℕ
  pub doing : doing_of m t ≡ Writing line
  pub inside : line < (memory_of m).size
  pub written : (w : ℕ) → IsWritten twin.memory line w

abbrev pub with_write : Machine → Twin → ℕ → Machine
with_write m twin t = with_doing (with_twin m twin) t Fencing

-- A fence is made, and conversions are told of it. The thread's store is fenced.
pub record MakesFence (m : Machine) (twin : Twin) (t : ℕ) : Type 0 where
  pub calls : CallsImage m twin
  pub doing : doing_of m t ≡ Fencing
  pub one : OneCall (memory_of m) twin.memory
  pub made : MadeFence (memory_of m) twin.memory
  pub durable : (l w : ℕ) → IsWritten (memory_of m) l w → IsDurable twin.memory l w

abbrev pub with_fence : Machine → Twin → ℕ → Machine
with_fence m twin t =
    with_doing (with_act (record (with_twin m twin) { queue = told_fenced m.queue }) t op.Fenced []) t Nothing

-- ---- conversions

-- Only the heap's words, the queues, the lines that are left and the monitors are other ones.
abbrev pub Converted : Machine → Machine → Type 0
Converted m m' = m' ≡ record m {
  spaces = record m.spaces { twin = m'.spaces.twin };
  queue = m'.queue;
  free = m'.free;
  rest = record m.rest { monitors = m'.rest.monitors };
}

-- what a conversion's event leaves besides
pub record StaysSound (m' : Machine) : Type 0 where
  pub within : m'.free ≤ (memory_of m').size
  pub sound : AreSound m'.rest.monitors
  pub known : AllKnown (memory_of m')

-- A thread whose Asked act is pending makes one step of its conversion.
pub record ConvertsOn (t : ℕ) (answer : ConvertStep) (m m' : Machine) (es : List Entry) : Type 0 where
  pub thread : t < 64
  pub doing : doing_of m t ≡ Converting
  pub event : Event t answer (scene_of m) (scene_of m') es m.rest.monitors m'.rest.monitors
  pub same : Converted m m'
  pub sound : StaysSound m'

-- the image failed in it
pub record FailsOn (t : ℕ) (m m' : Machine) (es : List Entry) : Type 0 where
  pub thread : t < 64
  pub doing : doing_of m t ≡ Converting
  pub event : FailedEvent t (scene_of m) (scene_of m') es m.rest.monitors m'.rest.monitors
  pub same : Converted m m'
  pub sound : StaysSound m'

-- Its conversion begins: with nothing queued, it claims the object that it asked, or needs who has.
pub record BeginsOn (t : ℕ) (n word : ℕ) (answer : Begun) (o : Opening) (m m' : Machine) (es es' : List Entry)
    : Type 0 where
  pub thread : t < 64
  pub doing : doing_of m t ≡ Converting
  pub pending : (p : Pending) × (pending_of (known_in o m).asked t ≡ Some p) × (p.value ≡ Object n)
  pub asked : IsAsked es word n
  pub idle : queue_of m.queue t ≡ []
  pub begins : Begins t n answer (scene_of m) (scene_of m') es es'
  pub same : Converted m m'
  pub sound : StaysSound m'
  pub monitors : m'.rest ≡ m.rest

-- Each object that a thread of the set has claimed is named, once, and no other.
pub record NamesSet (named : List ℕ) (es : List Entry) (set : ℕ) : Type 0 where
  pub some : named ≢ []
  pub once : AllPairs (λ m n. m ≢ n) named
  pub those : (n : ℕ) → (has_number named n ≡ true) ↔ OfSet es set n

-- The thread's group is sealed, with an act that names its objects.
pub record Seals (t set : ℕ) (named : List ℕ) (m m' : Machine) (es : List Entry) : Type 0 where
  pub converts : ConvertsOn t (step.Sealed set) m m' es
  pub names : NamesSet named es set

abbrev pub with_joined : Machine → ℕ → List ℕ → Machine
with_joined m' t named = with_act m' t op.Joined named

-- a step that is no seal
abbrev pub IsNoSeal : ConvertStep → Type 0
IsNoSeal (step.Sealed set) = ⊥
IsNoSeal answer = Unit {0}

-- ---- requests

-- A thread asks, and that is fit: it lives, what it names is there, its references are known.
pub record IsFitRequest (o : Opening) (m : Machine) (t : ℕ) (request : Request Ref Item) : Type 0 where
  pub thread : t < length m.rest.threads
  pub few : length m.rest.threads ≤ 64
  pub fit : IsFit o.launch.set (world_of [] (shown_in m) m.rest) t
      (plain_request (shown_in m).number request)
  pub known : KnowsRequest (shown_in m).number request

-- The request stores this item, of this value, to this place.
pub record IsStoreOf (o : Opening) (m : Machine) (t : ℕ) (request : Request Ref Item) (place : Place)
    (item : Item) : Type 0 where
  pub fit : IsFitRequest o m t request
  pub asks : AsksStore o.launch.set (shown_in m) m.rest t request place item

abbrev pub value_in : Machine → Item → Value
value_in m item = item_value (shown_in m).number item

-- ---- what is asked

-- the place is a slot of an object that some thread has claimed
pub record IsSlotOfClaimed (es : List Entry) (place : Place) : Type 0 where
  pub object : ℕ
  pub slot : ℕ
  pub thread : ℕ
  pub is : place ≡ Slot object slot
  pub claimed : IsClaimed es thread object

-- What is stored to a durable place, or to a slot of an object that is being made durable, isn't durable
-- yet: the thread asks it.
pub record AsksFor (o : Opening) (m : Machine) (es : List Entry) (t : ℕ) (request : Request Ref Item)
    (place : Place) (item : Item) : Type 0 where
  pub thread : t < 64
  pub doing : doing_of m t ≡ Nothing
  pub stores : IsStoreOf o m t request place item
  pub object : ℕ
  pub value : value_in m item ≡ Object object
  pub volatile : InP es object → ⊥
  pub holder : (durable_at (known_in o m) place ≡ true) ⊎ IsSlotOfClaimed es place

abbrev pub with_asked : Machine → ℕ → Place → Value → Machine
with_asked m t place value = with_doing (with_act m t (op.Asked place value) []) t Converting

-- ---- acts of requests

-- the thread asks nothing now, or what it has asked is durable
abbrev pub IsFree : Opening → Machine → List Entry → ℕ → Doing → Type 0
IsFree o m es t Nothing = Unit {0}
IsFree o m es t Converting = (p : Pending) (n : ℕ) → pending_of (known_in o m).asked t ≡ Some p
    → p.value ≡ Object n → InP es n
IsFree o m es t (Writing line) = ⊥
IsFree o m es t Fencing = ⊥

-- What a thread is about after an act of its request: one that has asked is about that until its store is made.
abbrev pub left_by : Op → Doing → Doing
left_by (op.Stored place value) d = Nothing
left_by operation d = d

-- The request's step does this; the heap becomes what the step says, and nothing else changes.
pub record DoesRequest (o : Opening) (m m' : Machine) (es : List Entry) (t : ℕ) (request : Request Ref Item)
    (operation : Op) (r : Reply Ref Item) : Type 0 where
  pub thread : t < 64
  pub fit : IsFitRequest o m t request
  pub doing : IsFree o m es t (doing_of m t)
  pub step : IsStep o.launch.set t request (shown_in m) m.rest (stepped.Did operation r) (shown_in m') m'.rest
  pub heap : Becomes shown_of StoresIn MakesIn m.spaces (stepped.Did operation r) m'.spaces
  pub sound : AreSound m'.rest.monitors
  pub free : m'.free ≡ m.free
  pub acts : m'.acts ≡ m.acts ++ act_in m t operation [] ∷ []

abbrev pub IsWithFresh : Machine → List Entry → List Entry → Type 0
IsWithFresh m es es' = (shape : ℕ) × (slots : ℕ)
    × (es' ≡ es ++ fresh shape slots (length m.spaces.twin.space.words) ∷ [])

-- A new object lies behind the words that were taken; all others lie where they lay.
abbrev pub TableAfter : Machine → Op → List Entry → List Entry → Type 0
TableAfter m (op.Alloc n class count) es es' = IsWithFresh m es es'
TableAfter m (op.Throw n class) es es' = IsWithFresh m es es'
TableAfter m operation es es' = es' ≡ es

-- An operation that begins or ends a region has events of its own; no other does.
abbrev pub LeavesRegions : Op → Type 0
LeavesRegions op.Begin = ⊥
LeavesRegions op.End = ⊥
LeavesRegions o = Unit {0}

-- It stores at no durable place. What a copied line takes is durable.
abbrev pub StoresBeside : Opening → Machine → List Entry → Op → Type 0
StoresBeside o m es (op.Stored (Static f) value) = durable_at (known_in o m) (Static f) ≡ false
StoresBeside o m es (op.Stored (Slot n i) value) = (durable_at (known_in o m) (Slot n i) ≡ false)
    × (HasCopied (entry es n) (line_of i) → is_volatile (known_in o m).durable value ≡ false)
StoresBeside o m es operation = Unit {0}

-- The queue is told of a store to a copied line, and of no other.
abbrev pub NotesStore : List Entry → Op → Queues → Queues → Type 0
NotesStore es (op.Stored (Slot n i) value) q q' =
    ((u : ℕ) → IsClaimed es u n → HasCopied (entry es n) (line_of i)
    → q' ≡ told q u ((entry es n).line + line_of i))
    × ((HasCopied (entry es n) (line_of i) → ⊥) → q' ≡ q)
NotesStore es operation q q' = q' ≡ q

-- the number that the heap has for the shape of the class is one of the directory's
abbrev pub IsListed : Opening → Machine → ℕ → Type 0
IsListed o m class = slice_index m.spaces.numbers class < length o.directory.shapes

-- A new object is of a shape that the directory has.
abbrev pub MakesListed : Opening → Machine → Op → Type 0
MakesListed o m (op.Alloc n class count) = IsListed o m class
MakesListed o m (op.Throw n class) = IsListed o m class
MakesListed o m operation = Unit {0}

-- An act of a request that changes no durable place.
pub record ActsBeside (o : Opening) (m m' : Machine) (es : List Entry) (t : ℕ) (request : Request Ref Item)
    (operation : Op) (r : Reply Ref Item) : Type 0 where
  pub does : DoesRequest o m m' es t request operation r
  pub outside : LeavesRegions operation
  pub beside : StoresBeside o m es operation
  pub notes : NotesStore es operation m.queue m'.queue
  pub logs : m'.logs ≡ m.logs
  pub listed : MakesListed o m operation
  pub doing : m'.doing ≡ slice_set m.doing t (left_by operation (doing_of m t))

-- A durable store outside regions: its line is to be written back.
pub record StoresDurably (o : Opening) (m m' : Machine) (es : List Entry) (t : ℕ) (request : Request Ref Item)
    (place : Place) (item : Item) : Type 0 where
  pub does : DoesRequest o m m' es t request (op.Stored place (value_in m item)) reply.Done
  pub stores : StoresIn m.spaces place item m'.spaces
  pub durable : durable_at (known_in o m) place ≡ true
  pub kept : is_volatile (known_in o m).durable (value_in m item) ≡ false
  pub outside : (log_of m t).depth ≡ 0
  pub unguarded : guard_of (known_in o m).guards place ≡ None
  pub queue : m'.queue ≡ m.queue
  pub logs : m'.logs ≡ m.logs
  pub doing : m'.doing
      ≡ slice_set m.doing t (Writing (line_at (layout_in o es) (known_in o m) place))

-- ---- regions

-- A region begins: the thread's log is one level deeper.
pub record BeginsRegion (o : Opening) (m m' : Machine) (es : List Entry) (t : ℕ) (request : Request Ref Item)
    (r : Reply Ref Item) : Type 0 where
  pub does : DoesRequest o m m' es t request op.Begin r
  pub may : MayBegin (known_in o m) (log_of m t)
  pub logs : m'.logs ≡ slice_set m.logs t (one_deeper (log_of m t))
  pub queue : m'.queue ≡ m.queue
  pub doing : m'.doing ≡ m.doing

-- The thread's region guards the durable place of its store, whose value is durable: its log names that
-- place's word next.
pub record GuardsPlace (o : Opening) (m : Machine) (es : List Entry) (t : ℕ) (request : Request Ref Item)
    (place : Place) (item : Item) (e : LogEntry) : Type 0 where
  pub thread : t < 64
  pub stores : IsStoreOf o m t request place item
  pub doing : IsFree o m es t (doing_of m t)
  pub durable : durable_at (known_in o m) place ≡ true
  pub kept : is_volatile (known_in o m).durable (value_in m item) ≡ false
  pub may : MayBeGuarded (known_in o m) (layout_in o es) (memory_of m) (log_of m t) e place

abbrev pub with_guarded : Machine → ℕ → Place → LogEntry → Machine
with_guarded m t place e =
    with_act (with_log m t (with_entry (log_of m t) e)) t (op.Guarded place) []

-- Beside the image nothing of the heap changes.
abbrev pub OnlyImage : Machine → Twin → Type 0
OnlyImage m twin = twin ≡ record m.spaces.twin { memory = twin.memory }

-- A call of the image logs the word that the thread's log names, or a part of that; made or failed.
pub record LogsWord (m : Machine) (twin : Twin) (t : ℕ) (log' : Log) : Type 0 where
  pub thread : t < 64
  pub entry : LogEntry
  pub logs : LogsOn (log_of m t) log' entry (memory_of m) twin.memory
  pub only : OnlyImage m twin
  pub known : AllKnown twin.memory

-- the queues behind a call that made one log of the other: told of its fence, where it made one
abbrev pub told_of_log : Queues → Log → Log → Queues
told_of_log q before after =
    record q { marks = if makes_fence before after then marks_fenced q.marks else q.marks }

-- Conversions are told of each fence that the log's call made, and of no other.
abbrev pub with_logged : Machine → Twin → ℕ → Log → Machine
with_logged m twin t log' =
    with_log (record (with_twin m twin) { queue = told_of_log m.queue (log_of m t) log' }) t log'

-- A durable store in the thread's region, whose log has the place's word.
pub record StoresLogged (o : Opening) (m m' : Machine) (es : List Entry) (t : ℕ) (request : Request Ref Item)
    (place : Place) (item : Item) : Type 0 where
  pub does : DoesRequest o m m' es t request (op.Stored place (value_in m item)) reply.Done
  pub stores : StoresIn m.spaces place item m'.spaces
  pub durable : durable_at (known_in o m) place ≡ true
  pub kept : is_volatile (known_in o m).durable (value_in m item) ≡ false
  pub idle : (log_of m t).underway ≡ Idle
  pub guard : guard_of (known_in o m).guards place ≡ Some t
  pub queue : m'.queue ≡ m.queue
  pub logs : m'.logs ≡ m.logs
  pub doing : m'.doing ≡ slice_set m.doing t Nothing

-- The thread asks to end a region that is open, and is about nothing else.
pub record AsksEnd (o : Opening) (m : Machine) (t : ℕ) (request : Request Ref Item) : Type 0 where
  pub fit : IsFitRequest o m t request
  pub is_end : (from : At) × (request ≡ ask.End from)
  pub doing : doing_of m t ≡ Nothing
  pub is_open : 0 < (log_of m t).depth

-- A call of the image by which the thread's region is being ended, made or failed, as its log says.
pub record CallsEnd (o : Opening) (m : Machine) (twin : Twin) (t : ℕ) (request : Request Ref Item)
    (log' : Log) : Type 0 where
  pub thread : t < 64
  pub asks : AsksEnd o m t request
  pub call : CallsToEnd (log_of m t) log' (memory_of m) twin.memory
  pub only : OnlyImage m twin
  pub known : AllKnown twin.memory

-- neither the fence behind all that was logged, nor the last one
pub record EndsPart (o : Opening) (m : Machine) (twin : Twin) (t : ℕ) (request : Request Ref Item)
    (log' : Log) : Type 0 where
  pub calls : CallsEnd o m twin t request log'
  pub went : TouchesToEnd (log_of m t) log' (memory_of m) twin.memory
      ⊎ (EndsOn (log_of m t) log' (memory_of m) twin.memory
      ⊎ FailsToEnd (log_of m t) log' (memory_of m) twin.memory)

-- With the fence behind all that was logged the region becomes closing, by an act.
pub record ClosesRegion (o : Opening) (m : Machine) (twin : Twin) (t : ℕ) (request : Request Ref Item)
    (log' : Log) : Type 0 where
  pub calls : CallsEnd o m twin t request log'
  pub fences : FencesRegion (log_of m t) log' (memory_of m) twin.memory

abbrev pub with_closing : Machine → Twin → ℕ → Log → Machine
with_closing m twin t log' = with_act (with_logged m twin t log') t op.Closing []

-- The last call of a region that logged something; its End follows at once.
pub record EmptiesRegion (o : Opening) (m : Machine) (twin : Twin) (t : ℕ) (request : Request Ref Item)
    (log' : Log) : Type 0 where
  pub calls : CallsEnd o m twin t request log'
  pub empties : EndsLog (log_of m t) log' (memory_of m) twin.memory

-- How the log is left by an End: emptied by a call of the image, or one level less deep, with no call.
pub data LeavesLog (o : Opening) (m : Machine) (twin : Twin) (t : ℕ) (request : Request Ref Item)
    : Log → Type 0 where
  emptied : (log' : Log) → EmptiesRegion o m twin t request log' → LeavesLog o m twin t request log'
  at_once : twin ≡ m.spaces.twin → AsksEnd o m t request → (log_of m t).underway ≡ Idle
      → EndsAtOnce (log_of m t)
      → LeavesLog o m twin t request (record (log_of m t) { depth = (log_of m t).depth - 1 })

-- A region ends, by an act of the thread's request.
pub record EndsByAct (o : Opening) (m m' : Machine) (es : List Entry) (t : ℕ) (request : Request Ref Item)
    (r : Reply Ref Item) : Type 0 where
  pub twin : Twin
  pub log : Log
  pub leaves : LeavesLog o m twin t request log
  pub does : DoesRequest o (with_logged m twin t log) m' es t request op.End r
  pub logs : m'.logs ≡ (with_logged m twin t log).logs
  pub queue : m'.queue ≡ (with_logged m twin t log).queue
  pub doing : m'.doing ≡ m.doing

-- What an event of thread t's region makes of a machine. Objects lie where they lay.
pub data RegionStep (o : Opening) (t : ℕ) (m : Machine) (es : List Entry) : Machine → Type 0 where
  begun : (m' : Machine) (request : Request Ref Item) (r : Reply Ref Item)
      → BeginsRegion o m m' es t request r → RegionStep o t m es m'
  guarded : (request : Request Ref Item) (place : Place) (item : Item) (e : LogEntry)
      → GuardsPlace o m es t request place item e → RegionStep o t m es (with_guarded m t place e)
  logged : (twin : Twin) (log' : Log) → LogsWord m twin t log'
      → RegionStep o t m es (with_logged m twin t log')
  stored : (m' : Machine) (request : Request Ref Item) (place : Place) (item : Item)
      → StoresLogged o m m' es t request place item → RegionStep o t m es m'
  ending : (twin : Twin) (request : Request Ref Item) (log' : Log)
      → EndsPart o m twin t request log' → RegionStep o t m es (with_logged m twin t log')
  closing : (twin : Twin) (request : Request Ref Item) (log' : Log)
      → ClosesRegion o m twin t request log' → RegionStep o t m es (with_closing m twin t log')
  ended : (m' : Machine) (request : Request Ref Item) (r : Reply Ref Item)
      → EndsByAct o m m' es t request r → RegionStep o t m es m'
