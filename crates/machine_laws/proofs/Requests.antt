-- Acts of requests, one by one.
use Rattle.std.proofs.Common.{◌≡◌, ℕ, true, false, List, refl, sym, ap, ◌∙◌}
use Rattle.std.proofs.lemmas.Bool.{false≢true}
use Rattle.ap_base.specs.declared.place.Place.{Place}
use Rattle.ap_base.specs.declared.place.Place.TheVariants.{Static as StaticPlace, Slot as SlotPlace}
use Rattle.ap_base.specs.declared.reference.Ref.{Ref}
use Rattle.ap_base.specs.declared.reference.Item.{Item}
use Rattle.graph_model.specs.declared.types.Value.{Value}
use Rattle.graph_model.specs.Heaps.{has_number}
use Rattle.natives.specs.declared.requests.Request.{Request}
use Rattle.natives.specs.declared.requests.Reply.{Reply}
use Rattle.natives.specs.declared.requests.Reply.TheVariants as reply
use Rattle.run_history.specs.declared.act.Op.{Op}
use Rattle.run_history.specs.declared.act.Op.TheVariants as op
use Rattle.run_history.specs.Knowing.{durable_at}
use Rattle.twin_forms.specs.Table.{Entry, InP}
use Rattle.two_spaces.specs.Seen.{Spaces}
use Rattle.two_spaces.specs.Whole.{StoresIn}
use Rattle.machine_forms.specs.Machines.{Opening, Machine, known_in}
use Rattle.machine_forms.specs.Keeping.{KeepsRun}
use Rattle.machine_forms.specs.Events.{ActsBeside, DoesRequest, value_in}
use Rattle.machine_laws.specs.HeapLaws.{KeepsShared}
use Rattle.machine_laws.proofs.HeapActing.{acted_heap, acted_still, acted_world, same_fields}
use Rattle.machine_laws.proofs.Fields.{shared_field}
use Rattle.machine_laws.proofs.Making.{shared_made}
use Rattle.machine_forms.specs.Happening.{table_after}
use Rattle.machine_laws.proofs.HeapStoring.{beside_agrees, durable_agrees, shared_slot}

-- ---- durable stores

-- a store to a durable place, of which no queue is told
pub durable_place : (o : Opening) (m m' : Machine) (es : List Entry) (run : KeepsRun o m es) (t : ℕ)
    (request : Request Ref Item) (place : Place) (item : Item)
    → DoesRequest o m m' es t request (op.Stored place (value_in m item)) reply.Done
    → StoresIn m.spaces place item m'.spaces → durable_at (known_in o m) place ≡ true
    → m'.queue ≡ m.queue → KeepsShared o m' es
durable_place o m m' es run t request (StaticPlace f) item does stores durable queue =
    shared_field o m m' es run t request f (value_in m item) reply.Done does item queue
    (stores es run.heap.whole)
durable_place o m m' es run t request (SlotPlace n i) item does stores durable queue =
    let stored = stores es run.heap.whole in
    shared_slot o m m' es run t request n i
    (value_in m item) reply.Done does item stored.0 refl stored.1 stored.2
    (durable_agrees o m m' es run t request n i
    (value_in m item) reply.Done does item stored.0 refl stored.1
    stored.2 m'.queue queue ((run.asked.durable n).0 durable))

-- ---- acts that change no durable place

-- a durable object's slot is a durable place
not_durable : (o : Opening) (m : Machine) (es : List Entry) → KeepsRun o m es → (n : ℕ)
    → has_number (known_in o m).durable n ≡ false → InP es n → ⊥
not_durable o m es run n none durable = false≢true (sym none ∙ (run.asked.durable n).1 durable)

beside_slot : (o : Opening) (m m' : Machine) (es : List Entry) (run : KeepsRun o m es) (t : ℕ)
    (request : Request Ref Item) (n i : ℕ) (value : Value) (r : Reply Ref Item)
    → ActsBeside o m m' es t request (op.Stored (SlotPlace n i) value) r → KeepsShared o m' es
beside_slot o m m' es run t request n i value r a =
    let item = a.does.heap.0 in
    let is = a.does.heap.1 in
    let stored = a.does.heap.2 es run.heap.whole in
    shared_slot o m m' es run t request n i value r a.does item stored.0 is stored.1 stored.2
    (beside_agrees o m m' es run t request n i value r a.does item stored.0 is stored.1 stored.2 m'.queue
    (record { claimed = a.notes.0; none = a.notes.1 }) (not_durable o m es run n a.beside.0) a.beside.1)

pub still : (o : Opening) (m m' : Machine) (es : List Entry) (kept : KeepsShared o m es) (t : ℕ)
    (request : Request Ref Item) (operation : Op) (r : Reply Ref Item)
    → DoesRequest o m m' es t request operation r → m'.spaces ≡ m.spaces → m'.queue ≡ m.queue
    → KeepsShared o m' es
still o m m' es kept t request operation r d same queue = (
  acted_heap o m m' es kept t request operation r d es
      (acted_still o m m' es kept t request operation r d same queue),
  acted_world o m m' es kept t request operation r d
      (same_fields m.spaces.statics m'.spaces.statics (ap (λ (s : Spaces). s.statics) same)),
)

pub acts : (o : Opening) (m m' : Machine) (es : List Entry) (run : KeepsRun o m es) (t : ℕ)
    (request : Request Ref Item) (operation : Op) (r : Reply Ref Item)
    → ActsBeside o m m' es t request operation r → KeepsShared o m' (table_after m operation es)
acts o m m' es run t request (op.Alloc n class count) r a =
    shared_made o m m' es run t request (op.Alloc n class count) r a.does (a.does.heap es run.heap.whole) class
    count (λ objects. refl) a.notes a.listed
acts o m m' es run t request (op.Throw n class) r a =
    shared_made o m m' es run t request (op.Throw n class) r a.does (a.does.heap es run.heap.whole) class 0
    (λ objects. refl) a.notes a.listed
acts o m m' es run t request (op.Stored (StaticPlace f) value) r a =
    shared_field o m m' es run t request f value r a.does a.does.heap.0 a.notes
    (a.does.heap.2 es run.heap.whole)
acts o m m' es run t request (op.Stored (SlotPlace n i) value) r a =
    beside_slot o m m' es run t request n i value r a
acts o m m' es run t request operation r a =
    still o m m' es (run.heap, run.world) t request operation r a.does a.does.heap a.notes
