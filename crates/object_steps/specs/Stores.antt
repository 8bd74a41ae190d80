-- Stores whose tests are passed, and what the tests of a store request come to.
use Rattle.std.specs.Prelude.{◌≡◌, ◌<◌, ℕ, Bool, true, List, length, Some}
use Rattle.ap_base.specs.declared.reference.Ref.{Ref}
use Rattle.ap_base.specs.declared.reference.Item.{Item}
use Rattle.ap_base.specs.declared.kind.Kind.{Kind}
use Rattle.ap_base.specs.declared.kind.Kind.TheVariants.{L}
use Rattle.ap_base.specs.declared.place.Place.{Place}
use Rattle.ap_base.specs.declared.place.Place.TheVariants.{Static, Slot}
use Rattle.run_types.specs.declared.resolved.At.{At}
use Rattle.graph_model.specs.declared.types.Value.{Value}
use Rattle.graph_model.specs.declared.types.Value.TheVariants.{Obj as Object}
use Rattle.graph_model.specs.declared.types.Root.{Root}
use Rattle.natives.specs.declared.requests.Request.{Request}
use Rattle.natives.specs.declared.requests.Reply.TheVariants as reply
use Rattle.run_history.specs.declared.act.Op.TheVariants as op
use Rattle.plain_model.specs.Facts.{SetFacts, may_hold}
use Rattle.plain_model.specs.Steps.{step}
use Rattle.shared_objects.specs.declared.rest.Rest.{Rest}
use Rattle.shared_objects.specs.Shown.{Shown, IsKnownItem, IsOfKindIn, IsSameForm, item_value, object_in, slot_kind, static_in}
use Rattle.shared_objects.specs.Plain.{plain_request}
use Rattle.shared_objects.specs.Worlds.{world_of, KnowsMonitors}
use Rattle.step_forms.specs.declared.stepped.Stepped.{Stepped}
use Rattle.step_forms.specs.declared.stepped.Stepped.TheVariants as stepped
use Rattle.step_forms.specs.Becomes.{Becomes, IsNarrowed}
use Rattle.step_forms.specs.Follows.{IsHeapStep, IsStep, stored_as}
use Rattle.step_forms.specs.Needs.{Here, ItemIsHere}
use Rattle.object_steps.specs.declared.storing.Target.{Target}
use Rattle.object_steps.specs.declared.storing.Target.TheVariants as target
use Rattle.object_steps.specs.declared.storing.Store.{Store}
use Rattle.object_steps.specs.declared.storing.Planned.{Planned}
use Rattle.object_steps.specs.declared.storing.Planned.TheVariants.{Stores, Ends}

abbrev pub place_of : Target → Place
place_of (target.Static n) = Static n
place_of (target.Slot holder object index) = Slot object index

-- the place is there, and the value is one for it
abbrev pub CanTake : Shown → Target → Value → Type 0
CanTake shown (target.Static n) value = (n < length shown.statics) × IsSameForm (static_in shown n) value
CanTake shown (target.Slot holder object index) value =
    (shown.number holder ≡ Some object) × (index < length (object_in shown object).values)
    × IsOfKindIn (slot_kind shown object index) value

-- The store can be made.
pub record CanStore (shown : Shown) (store : Store) : Type 0 where
  pub known : IsKnownItem shown.number store.kept
  pub place : CanTake shown store.target (item_value shown.number store.kept)

abbrev pub TargetIsHere : Here → (ℕ → Type 0) → Target → Type 0
TargetIsHere here static_here (target.Static n) = static_here n
TargetIsHere here static_here (target.Slot holder object index) = here object index

-- what a store reads and stores to is at hand
pub record IsStoreHere (here : Here) (static_here : ℕ → Type 0) (shown : Shown) (store : Store) : Type 0 where
  pub target : TargetIsHere here static_here store.target
  pub value : ItemIsHere here shown store.kept

-- what the store of a value to a place comes to
abbrev pub stored_by : Place → Value → Stepped
stored_by place value = stepped.Did (op.Stored place value) reply.Done

-- whether an array of a class may hold a value that a request for this kind gives
abbrev pub holds_by_class : SetFacts → Shown → Kind → ℕ → Value → Bool
holds_by_class set shown L class (Object n) = may_hold set class (object_in shown n).shape
holds_by_class set shown kind class value = true

-- ---- what tests come to

abbrev pub IfStores : Planned → (Store → Type 0) → Type 0
IfStores (Stores store) P = P store
IfStores (Ends result) P = Unit {0}

abbrev pub IfEnds : Planned → (Stepped → Type 0) → Type 0
IfEnds (Stores store) P = Unit {0}
IfEnds (Ends result) P = P result

-- The place is to keep the request's own item, narrowed to the place's kind.
abbrev pub IsKeptOf : Item → Item → Type 0
IsKeptOf value kept = (kind : Kind) × IsNarrowed kind value kept

-- A store stores what a place keeps of this very item, and makes of the heap what a store of that makes of it.
abbrev pub StoresOf : {Heap : Type 0} → (Heap → Shown) → (Heap → Place → Item → Heap → Type 0) → Heap → Item
    → Stepped → Heap → Type 0
StoresOf shown stores before value (stepped.Did (op.Stored place v) r) now =
    (kept : Item) × IsKeptOf value kept × (item_value (shown before).number kept ≡ v)
    × stores before place kept now
StoresOf shown stores before value result now = Unit {0}

-- Tests that are passed leave the heap as it is, whole; a step that is over makes of it what it makes.
abbrev pub PlanBecomes : {Heap : Type 0} → (Heap → Shown) → (Heap → Place → Item → Heap → Type 0)
    → (Heap → Heap → Type 0) → Heap → Planned → Heap → Type 0
PlanBecomes shown stores makes before (Stores store) now = now ≡ before
PlanBecomes shown stores makes before (Ends result) now = Becomes shown stores makes before result now

-- The plain step of the request is the store of what this item stands for to this place, whoever asks.
abbrev pub IsStoreOf : SetFacts → (At → Request Ref Item) → Shown → Place → Item → Type 0
IsStoreOf set request shown place kept = (t taken : ℕ) (roots : List Root) (rest : Rest) (from : At)
    → step set (world_of roots shown rest) t taken (plain_request shown.number (request from))
    ≡ stored_as place (item_value shown.number kept)

-- the same of a static field, whose class may have to be initialised first, in every class set
abbrev pub IsStaticStoreOf : ℕ → (At → Request Ref Item) → Shown → Rest → Place → Item → Type 0
IsStaticStoreOf t request shown rest place kept =
    (set : SetFacts) (taken : ℕ) (roots : List Root) (from : At)
    → step set (world_of roots shown rest) t taken (plain_request shown.number (request from))
    ≡ stored_as place (item_value shown.number kept)

-- The tests of the plain step are passed and it makes this store, which can be made, and nothing has changed;
-- or the step is over,
-- as the plain step says.
abbrev pub IsPlan : SetFacts → (At → Request Ref Item) → Shown → Planned → Shown → Type 0
IsPlan set request before (Stores store) now =
    IsStoreOf set request before (place_of store.target) store.kept
    × CanStore before store × (now ≡ before)
IsPlan set request before (Ends result) now = IsHeapStep set request before result now

-- the same for a static field, whose class may have to be initialised first, in every class set
abbrev pub IsStaticPlan : ℕ → (At → Request Ref Item) → Shown → Rest → Planned → Rest → Type 0
IsStaticPlan t request shown rest (Stores store) now =
    IsStaticStoreOf t request shown rest (place_of store.target) store.kept
    × CanStore shown store × (now ≡ rest)
IsStaticPlan t request shown rest (Ends result) now = (set : SetFacts) (from : At) → KnowsMonitors shown rest
    → IsStep set t (request from) shown rest result shown now
