-- What a step makes of a heap of objects itself, and not only of what the heap shows.
use Rattle.std.specs.Prelude.{◌≡◌, ℕ, [], Option, Some, None}
use Rattle.ap_base.specs.declared.reference.Ref.{Ref}
use Rattle.ap_base.specs.declared.reference.Item.{Item}
use Rattle.ap_base.specs.declared.place.Place.{Place}
use Rattle.natives.specs.declared.requests.Request.{Request}
use Rattle.natives.specs.declared.requests.Request.TheVariants as ask
use Rattle.run_history.specs.declared.act.Op.TheVariants as op
use Rattle.plain_model.specs.Facts.{SetFacts}
use Rattle.plain_model.specs.Kinds.{narrowed}
use Rattle.plain_model.specs.Steps.{step}
use Rattle.shared_objects.specs.declared.rest.Rest.{Rest}
use Rattle.shared_objects.specs.Shown.{Numbers, Shown, item_value}
use Rattle.shared_objects.specs.Plain.{plain_request}
use Rattle.shared_objects.specs.Worlds.{world_of}
use Rattle.step_forms.specs.declared.stepped.Stepped.{Stepped}
use Rattle.step_forms.specs.declared.stepped.Stepped.TheVariants as stepped
use Rattle.step_forms.specs.Follows.{stored_as}
use Rattle.ap_base.specs.declared.kind.Kind.{Kind}

-- A store makes of the heap what a store of an item of this value makes of it, and a new object what a new
-- object makes of it. Otherwise the heap is as it was.
abbrev pub Becomes : {Heap : Type 0} → (Heap → Shown) → (Heap → Place → Item → Heap → Type 0)
    → (Heap → Heap → Type 0) → Heap → Stepped → Heap → Type 0
Becomes shown stores makes before (stepped.Did (op.Stored place value) r) now =
    (item : Item) × (item_value (shown before).number item ≡ value) × stores before place item now
Becomes shown stores makes before (stepped.Did (op.Alloc n shape count) r) now = makes before now
Becomes shown stores makes before (stepped.Did (op.Throw n class) r) now = makes before now
Becomes shown stores makes before result now = now ≡ before

-- no store, and no new object
abbrev pub IsQuiet : Stepped → Type 0
IsQuiet (stepped.Did (op.Stored place value) r) = ⊥
IsQuiet (stepped.Did (op.Alloc n shape count) r) = ⊥
IsQuiet (stepped.Did (op.Throw n class) r) = ⊥
IsQuiet result = Unit {0}

-- no store
abbrev pub IsNoStore : Stepped → Type 0
IsNoStore (stepped.Did (op.Stored place value) r) = ⊥
IsNoStore result = Unit {0}

-- ---- what a request may store

-- A place of the kind keeps this of an item, whatever references stand for: so a reference as it is.
abbrev pub IsNarrowed : Kind → Item → Item → Type 0
IsNarrowed kind item kept =
    (number : Numbers) → item_value number kept ≡ narrowed kind (item_value number item)

-- What is stored may be stored: an item that a place of some kind keeps of this one.
abbrev pub MayKeep : (Place → Item → Type 0) → Item → (Place → Item → Type 0) → Type 0
MayKeep may item IsStored = (place : Place) (kind : Kind) (kept : Item) → IsNarrowed kind item kept
    → IsStored place kept → may place kept

-- the item that a request gives to a place
abbrev pub given : Request Ref Item → Option Item
given (ask.PutStatic from field value) = Some value
given (ask.PutField from holder field value) = Some value
given (ask.PutElement from array index kind value) = Some value
given request = None

-- Thread t's request stores this item to this place by the plain step.
abbrev pub AsksStore : SetFacts → Shown → Rest → ℕ → Request Ref Item → Place → Item → Type 0
AsksStore set shown rest t request place kept =
    step set (world_of [] shown rest) t 0 (plain_request shown.number request)
    ≡ stored_as place (item_value shown.number kept)

-- If the request's step is a store, the place may keep what is stored.
abbrev pub MayBeStored : (Place → Item → Type 0) → SetFacts → Shown → Rest → ℕ → Request Ref Item → Type 0
MayBeStored may set shown rest t request =
    (item : Item) → given request ≡ Some item → MayKeep may item (AsksStore set shown rest t request)
