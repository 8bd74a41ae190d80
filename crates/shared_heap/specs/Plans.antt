-- What the tests of a request that stores come to, over any heap; and what a plan says of its cases.
use Rattle.std.specs.Prelude.{◌≡◌, ℕ, Some}
use Rattle.ap_base.specs.declared.reference.Ref.{Ref}
use Rattle.ap_base.specs.declared.reference.Item.{Item}
use Rattle.ap_base.specs.declared.place.Place.{Place}
use Rattle.natives.specs.declared.requests.Request.{Request}
use Rattle.plain_model.specs.Facts.{SetFacts}
use Rattle.shared_objects.specs.declared.rest.Rest.{Rest}
use Rattle.shared_objects.specs.Shown.{Shown}
use Rattle.step_forms.specs.declared.stepped.Stepped.{Stepped}
use Rattle.step_forms.specs.Becomes.{AsksStore, Becomes, IsNoStore, given}
use Rattle.step_forms.specs.Follows.{IsStep}
use Rattle.step_forms.specs.Needs.{Here}
use Rattle.object_steps.specs.declared.storing.Planned.{Planned}
use Rattle.object_steps.specs.declared.storing.Planned.TheVariants as planned
use Rattle.object_steps.specs.declared.storing.Store.{Store}
use Rattle.object_steps.specs.Stores.{CanStore, IsKeptOf, IsStoreHere, place_of}
use Rattle.shared_heap.specs.declared.requests.Plan.{Plan}
use Rattle.shared_heap.specs.declared.requests.Plan.TheVariants as plan

-- The tests are passed, and nothing has changed: the request makes this store, of what it gives, which can be
-- made and is at hand.
pub record Passes {Heap : Type 0} (shown : Heap → Shown) (is_here : Heap → Here) (is_static_here : Heap
    → ℕ → Type 0)
    (set : SetFacts) (t : ℕ) (request : Request Ref Item) (before : Heap) (rest : Rest) (now : Heap)
    (rest_now : Rest) (store : Store) : Type 0 where
  pub same_heap : now ≡ before
  pub same_rest : rest_now ≡ rest
  pub asks : AsksStore set (shown before) rest t request (place_of store.target) store.kept
  pub can : CanStore (shown before) store
  pub here : IsStoreHere (is_here before) (is_static_here before) (shown before) store
  pub kept : (item : Item) → given request ≡ Some item → IsKeptOf item store.kept

-- The step is over, and is no store.
pub record Stops {Heap : Type 0} (shown : Heap → Shown) (stores : Heap → Place → Item → Heap → Type 0)
    (makes : Heap → Heap → Type 0) (set : SetFacts) (t : ℕ) (request : Request Ref Item) (before : Heap)
    (rest : Rest) (now : Heap) (rest_now : Rest) (result : Stepped) : Type 0 where
  pub step : IsStep set t request (shown before) rest result (shown now) rest_now
  pub heap : Becomes shown stores makes before result now
  pub no_store : IsNoStore result

abbrev pub PlansTo : {Heap : Type 0} → (Heap → Shown) → (Heap → Here) → (Heap → ℕ → Type 0)
    → (Heap → Place → Item → Heap → Type 0) → (Heap → Heap → Type 0) → SetFacts → ℕ → Request Ref Item → Heap
    → Rest → Heap → Rest → Planned → Type 0
PlansTo shown is_here is_static_here stores makes set t request before rest now rest_now
    (planned.Stores store) =
    Passes shown is_here is_static_here set t request before rest now rest_now store
PlansTo shown is_here is_static_here stores makes set t request before rest now rest_now
    (planned.Ends result) =
    Stops shown stores makes set t request before rest now rest_now result

-- ---- plans

abbrev pub IfPlanned : Plan → (Store → Type 0) → Type 0
IfPlanned (plan.Stores store) P = P store
IfPlanned other P = Unit {0}

abbrev pub IfEnded : Plan → (Stepped → Type 0) → Type 0
IfEnded (plan.Ends result) P = P result
IfEnded other P = Unit {0}
