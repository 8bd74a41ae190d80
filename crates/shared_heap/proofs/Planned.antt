-- What the tests of a request that stores come to, by what the tests of its kind come to.
use Rattle.std.proofs.Common.{◌≡◌, ℕ, [], Some, refl, sym, ◌∙◌, subst}
use Rattle.ap_base.specs.declared.reference.Ref.{Ref}
use Rattle.ap_base.specs.declared.reference.Item.{Item}
use Rattle.ap_base.specs.declared.place.Place.{Place}
use Rattle.run_types.specs.declared.resolved.At.{At}
use Rattle.natives.specs.declared.requests.Request.{Request}
use Rattle.plain_model.specs.Facts.{SetFacts}
use Rattle.shared_objects.specs.declared.rest.Rest.{Rest}
use Rattle.shared_objects.specs.Shown.{Shown}
use Rattle.shared_objects.specs.Worlds.{KnowsMonitors}
use Rattle.step_forms.specs.Becomes.{IsNoStore, IsQuiet, given}
use Rattle.step_forms.specs.Needs.{Here}
use Rattle.step_forms.proofs.Becoming.{quiet_becomes, quiet_no_store}
use Rattle.object_steps.specs.declared.storing.Planned.{Planned}
use Rattle.object_steps.specs.declared.storing.Planned.TheVariants as planned
use Rattle.object_steps.specs.declared.storing.Store.{Store}
use Rattle.object_steps.specs.Stores.{IfEnds, IfStores, IsKeptOf, IsPlan, IsStaticPlan, IsStoreHere, PlanBecomes}
use Rattle.shared_heap.specs.Plans.{PlansTo}

same_item : (x y : Item) → Some x ≡ Some y → x ≡ y
same_item x y e = cc

module _ {Heap : Type 0} (shown : Heap → Shown) (is_here : Heap → Here) (is_static_here : Heap → ℕ → Type 0)
    (stores : Heap → Place → Item → Heap → Type 0) (makes : Heap → Heap → Type 0) (set : SetFacts) (t : ℕ)
    (asked : Request Ref Item) (request : At → Request Ref Item) (from : At) (value : Item)
    (is : asked ≡ request from) (gives : given (request from) ≡ Some value) where
  kept_of : (store : Store) → IsKeptOf value store.kept → (item : Item) → given (request from) ≡ Some item
      → IsKeptOf item store.kept
  kept_of store kept item e =
      subst (λ (x : Item). IsKeptOf x store.kept) (same_item value item (sym gives ∙ e)) kept

  -- a slot
  pub plans_slot : (before now : Heap) (rest : Rest) (plan : Planned) → KnowsMonitors (shown before) rest
      → IsPlan set request (shown before) plan (shown now)
      → IfStores plan (IsStoreHere (is_here now) (is_static_here now) (shown now))
      → IfStores plan (λ store. IsKeptOf value store.kept) → PlanBecomes shown stores makes before plan now
      → IfEnds plan IsNoStore
      → PlansTo shown is_here is_static_here stores makes set t asked before rest now rest plan
  plans_slot before now rest plan known is_plan here kept becomes no_store = subst (λ (r : Request Ref Item).
      PlansTo shown is_here is_static_here stores makes set t r before rest now rest plan) (sym is)
      (own plan is_plan here kept becomes no_store)
    where
      own : (p : Planned) → IsPlan set request (shown before) p (shown now)
          → IfStores p (IsStoreHere (is_here now) (is_static_here now) (shown now))
          → IfStores p (λ store. IsKeptOf value store.kept) → PlanBecomes shown stores makes before p now
          → IfEnds p IsNoStore
          → PlansTo shown is_here is_static_here stores makes set t (request from) before rest now rest p
      own (planned.Stores store) pl h k b n = record {
        same_heap = b;
        same_rest = refl;
        asks = pl.0 t 0 [] rest from;
        can = pl.1;
        here = subst (λ (x : Heap). IsStoreHere (is_here x) (is_static_here x) (shown x) store) b h;
        kept = kept_of store k;
      }
      own (planned.Ends result) pl h k b n = record { step = pl t rest from known; heap = b; no_store = n }

  -- a static field
  pub plans_static : (before : Heap) (rest rest_now : Rest) (plan : Planned)
      → KnowsMonitors (shown before) rest
      → IsStaticPlan t request (shown before) rest plan rest_now
      → IfStores plan (IsStoreHere (is_here before) (is_static_here before) (shown before))
      → IfStores plan (λ store. IsKeptOf value store.kept) → IfEnds plan IsQuiet
      → PlansTo shown is_here is_static_here stores makes set t asked before rest before rest_now plan
  plans_static before rest rest_now plan known is_plan here kept quiet = subst (λ (r : Request Ref Item).
      PlansTo shown is_here is_static_here stores makes set t r before rest before rest_now plan) (sym is)
      (own plan is_plan here kept quiet)
    where
      own : (p : Planned) → IsStaticPlan t request (shown before) rest p rest_now
          → IfStores p (IsStoreHere (is_here before) (is_static_here before) (shown before))
          → IfStores p (λ store. IsKeptOf value store.kept) → IfEnds p IsQuiet
          → PlansTo shown is_here is_static_here stores makes set t
          (request from) before rest before rest_now p
      own (planned.Stores store) pl h k q = record {
        same_heap = refl;
        same_rest = pl.2;
        asks = pl.0 set 0 [] from;
        can = pl.1;
        here = h;
        kept = kept_of store k;
      }
      own (planned.Ends result) pl h k q = record {
        step = pl set from known;
        heap = quiet_becomes shown stores makes before result q;
        no_store = quiet_no_store result q;
      }
