-- One event of a thread's run of a machine, whatever its kind, as one type: so that a law of events is said once.
use Rattle.std.specs.Prelude.{ℕ, List, [], ◌∷◌, ◌++◌, length, slice_index, Option, Some, None}
use Rattle.ap_base.specs.declared.reference.Ref.{Ref}
use Rattle.ap_base.specs.declared.reference.Item.{Item}
use Rattle.ap_base.specs.declared.place.Place.{Place}
use Rattle.graph_model.specs.Heaps.{fresh_values}
use Rattle.natives.specs.declared.requests.Request.{Request}
use Rattle.natives.specs.declared.requests.Reply.{Reply}
use Rattle.run_history.specs.declared.act.Op.{Op}
use Rattle.run_history.specs.declared.act.Op.TheVariants as op
use Rattle.run_history.specs.Recorded.{Recorded}
use Rattle.shared_objects.specs.Shown.{shape_in}
use Rattle.twin_forms.specs.Table.{Entry}
use Rattle.twin_forms.specs.Moves.{fresh}
use Rattle.twin_forms.specs.Sights.{Twin}
use Rattle.convert_words.specs.declared.step.ConvertStep.{ConvertStep}
use Rattle.converter.specs.declared.begin.Begun.{Begun}
use Rattle.machine_forms.specs.Machines.{Opening, Machine, shown_in}
use Rattle.machine_forms.specs.Keeping.{KeepsRun}
use Rattle.machine_forms.specs.Events.{CallsImage, with_twin, WritesBack, with_write, MakesFence, with_fence, ConvertsOn}
use Rattle.machine_forms.specs.Events.{FailsOn, BeginsOn, IsNoSeal, Seals, with_joined, AsksFor, with_asked, value_in}
use Rattle.machine_forms.specs.Events.{ActsBeside, StoresDurably, RegionStep, act_in, with_logged}
use Rattle.machine_forms.specs.Events as step

-- ---- the table after an act

-- The entry of a new object of the class: it lies behind the words that were taken, in no line yet.
abbrev pub made_entry : Machine → (class count : ℕ) → Entry
made_entry m class count = fresh (slice_index m.spaces.numbers class)
    (length (fresh_values (shape_in (shown_in m) class) count)) (length m.spaces.twin.space.words)

-- A new object lies behind the words that were taken; all others lie where they lay.
abbrev pub table_after : Machine → Op → List Entry → List Entry
table_after m (op.Alloc n class count) es = es ++ made_entry m class count ∷ []
table_after m (op.Throw n class) es = es ++ made_entry m class 0 ∷ []
table_after m operation es = es

-- ---- events

-- An event of thread t: what it makes of the machine, and of the table of its objects.
pub data Happens (o : Opening) (t : ℕ) (m : Machine) (es : List Entry) : Machine → List Entry → Type 0 where
  called : (twin : Twin) → CallsImage m twin → Happens o t m es (with_twin m twin) es
  written : (twin : Twin) → WritesBack m twin t → Happens o t m es (with_write m twin t) es
  fenced : (twin : Twin) → MakesFence m twin t → Happens o t m es (with_fence m twin t) es
  converted : (m' : Machine) (answer : ConvertStep) (c : ConvertsOn t answer m m' es) → IsNoSeal answer
      → Happens o t m es m' c.event.after
  failed : (m' : Machine) → FailsOn t m m' es → Happens o t m es m' es
  begun : (m' : Machine) (es' : List Entry) (n word : ℕ) (answer : Begun)
      → BeginsOn t n word answer o m m' es es' → Happens o t m es m' es'
  sealed : (m' : Machine) (set : ℕ) (named : List ℕ) (s : Seals t set named m m' es)
      → Happens o t m es (with_joined m' t named) s.converts.event.after
  asked : (request : Request Ref Item) (place : Place) (item : Item) → AsksFor o m es t request place item
      → Happens o t m es (with_asked m t place (value_in m item)) es
  acted : (m' : Machine) (request : Request Ref Item) (operation : Op) (r : Reply Ref Item)
      → ActsBeside o m m' es t request operation r → Happens o t m es m' (table_after m operation es)
  stored : (m' : Machine) (request : Request Ref Item) (place : Place) (item : Item)
      → StoresDurably o m m' es t request place item → Happens o t m es m' es
  region : (m' : Machine) → RegionStep o t m es m' → Happens o t m es m' es

-- so it is with each event of a machine that keeps its run
abbrev pub OfEvents : (Opening → Machine → List Entry → Machine → List Entry → Type 0) → Type 0
OfEvents P = (o : Opening) (t : ℕ) (m m' : Machine) (es es' : List Entry) → KeepsRun o m es
    → Happens o t m es m' es' → P o m es m' es'

-- ---- what an event of a thread has to do with its frames

-- the act that a region's event makes
abbrev pub region_act : {o : Opening} {t : ℕ} {m : Machine} {es : List Entry} {m' : Machine}
    → RegionStep o t m es m' → Option Recorded
region_act {o} {t} {m} (step.begun m' request r e) = Some (act_in m t op.Begin [])
region_act {o} {t} {m} (step.guarded request place item entry e) = Some (act_in m t (op.Guarded place) [])
region_act {o} {t} {m} (step.logged twin log' e) = None
region_act {o} {t} {m} (step.stored m' request place item e) =
    Some (act_in m t (op.Stored place (value_in m item)) [])
region_act {o} {t} {m} (step.ending twin request log' e) = None
region_act {o} {t} {m} (step.closing twin request log' e) =
    Some (act_in (with_logged m twin t log') t op.Closing [])
region_act {o} {t} {m} (step.ended m' request r e) = Some (act_in (with_logged m e.twin t e.log) t op.End [])

-- the act that an event makes
abbrev pub act_of : {o : Opening} {t : ℕ} {m : Machine} {es : List Entry} {m' : Machine} {es' : List Entry}
    → Happens o t m es m' es' → Option Recorded
act_of {o} {t} {m} (called twin e) = None
act_of {o} {t} {m} (written twin e) = None
act_of {o} {t} {m} (fenced twin e) = Some (act_in (with_twin m twin) t op.Fenced [])
act_of {o} {t} {m} (converted m' answer e no_seal) = None
act_of {o} {t} {m} (failed m' e) = None
act_of {o} {t} {m} (begun m' es' n word answer e) = None
act_of {o} {t} {m} (sealed m' set named e) = Some (act_in m' t op.Joined named)
act_of {o} {t} {m} (asked request place item e) = Some (act_in m t (op.Asked place (value_in m item)) [])
act_of {o} {t} {m} (acted m' request operation r e) = Some (act_in m t operation [])
act_of {o} {t} {m} (stored m' request place item e) = Some (act_in m t (op.Stored place (value_in m item)) [])
act_of {o} {t} {m} (region m' e) = region_act e

-- the request that a region's event does
abbrev pub region_request : {o : Opening} {t : ℕ} {m : Machine} {es : List Entry} {m' : Machine}
    → RegionStep o t m es m' → Option (Request Ref Item)
region_request (step.begun m' request r e) = Some request
region_request (step.guarded request place item entry e) = Some request
region_request (step.logged twin log' e) = None
region_request (step.stored m' request place item e) = Some request
region_request (step.ending twin request log' e) = Some request
region_request (step.closing twin request log' e) = Some request
region_request (step.ended m' request r e) = Some request

-- the request that an event does, which the thread asks
abbrev pub request_of : {o : Opening} {t : ℕ} {m : Machine} {es : List Entry} {m' : Machine}
    {es' : List Entry} → Happens o t m es m' es' → Option (Request Ref Item)
request_of (called twin e) = None
request_of (written twin e) = None
request_of (fenced twin e) = None
request_of (converted m' answer e no_seal) = None
request_of (failed m' e) = None
request_of (begun m' es' n word answer e) = None
request_of (sealed m' set named e) = None
request_of (asked request place item e) = Some request
request_of (acted m' request operation r e) = Some request
request_of (stored m' request place item e) = Some request
request_of (region m' e) = region_request e
