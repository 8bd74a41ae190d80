use Rattle.std.proofs.Common.{sym, subst}
use Rattle.std.proofs.Math.Facts.{to_z-of_z}
use Rattle.natives.specs.declared.requests.Request.TheVariants as ask
use Rattle.shared_objects.specs.Shown.{Shown, item_value}
use Rattle.step_forms.specs.Follows.{HeapGoes, IsHeapStep, stored_as}
use Rattle.step_forms.proofs.Going.{heap_step}
use Rattle.object_steps.specs.Stores.{CanStore, StoresOf, place_of}
use Rattle.step_forms.specs.Becomes.{Becomes}
use Rattle.object_steps.proofs.Stored.{none_given, store_becomes, store_given}
use Rattle.object_steps.proofs.storing.put_element.Goals as goal

pub returns-in-Ends-clause-step : goal.returns-in-Ends-clause-step
returns-in-Ends-clause-step g c =
    let facts = g.C.Types.facts c.args.set.now in
    let before = g.O.Objects.shown c.args.objects.now in
    let goes : IsHeapStep facts (λ from. ask.PutElement from c.args.array c.args.index c.args.kind
    c.args.value) before c.in-Ends.result
    (g.O.Objects.shown c.plan_element.new.objects) = rw (← to_z-of_z c.ranges.index) c.in-Ends.ensures.plan in
    goes

pub commit-requires-clause-can : goal.commit-requires-clause-can
commit-requires-clause-can g c = subst (λ (s : Shown). CanStore s c.in-Stores.store) (sym
    c.in-Stores.ensures.plan.2) c.in-Stores.ensures.plan.1

pub commit-requires-clause-here : goal.commit-requires-clause-here
commit-requires-clause-here g c = c.in-Stores.ensures.here

pub returns-in-Stores-clause-step : goal.returns-in-Stores-clause-step
returns-in-Stores-clause-step g c =
    let facts = g.C.Types.facts c.args.set.now in
    let before = g.O.Objects.shown c.args.objects.now in
    let store = c.in-Stores.store in
    let goes : HeapGoes (λ world. stored_as (place_of store.target) (item_value (g.O.Objects.shown
    c.plan_element.new.objects).number store.kept))
    (g.O.Objects.shown c.plan_element.new.objects) c.commit.result (g.O.Objects.shown c.commit.new.objects) =
    c.commit.ensures.step in
    heap_step (λ world. stored_as (place_of store.target) (item_value before.number store.kept)) facts (λ
    from. ask.PutElement from c.args.array c.args.index c.args.kind c.args.value)
    (λ roots rest t taken from. rw (← to_z-of_z c.ranges.index) (c.in-Stores.ensures.plan.0 t taken roots
    rest from))
    (subst (λ (s : Shown). HeapGoes (λ world. stored_as (place_of store.target) (item_value s.number
    store.kept)) s c.commit.result
    (g.O.Objects.shown c.commit.new.objects)) c.in-Stores.ensures.plan.2 goes)

pub commit-requires-clause-may : goal.commit-requires-clause-may
commit-requires-clause-may g c =
    let store = c.in-Stores.store in
    subst (λ h. g.O.Objects.may_store h (place_of store.target) store.kept) (sym c.in-Stores.ensures.heap)
    (c.requires.may (place_of store.target) c.in-Stores.ensures.kept.0 store.kept c.in-Stores.ensures.kept.1
    (λ t taken roots rest from. rw (← to_z-of_z c.ranges.index)
    (c.in-Stores.ensures.plan.0 t taken roots rest from)))

pub returns-in-Stores-clause-heap : goal.returns-in-Stores-clause-heap
returns-in-Stores-clause-heap g c =
    let store = c.in-Stores.store in
    subst (λ h. Becomes g.O.Objects.shown g.O.Objects.stores g.O.Objects.makes h c.commit.result
    c.commit.new.objects)
    c.in-Stores.ensures.heap (store_becomes g.O.Objects.shown g.O.Objects.stores g.O.Objects.makes
    c.plan_element.new.objects c.commit.new.objects (place_of store.target) store.kept c.commit.result
    c.commit.ensures.did c.commit.ensures.heap)

pub returns-in-Stores-clause-given : goal.returns-in-Stores-clause-given
returns-in-Stores-clause-given g c =
    let store = c.in-Stores.store in
    subst (λ h. StoresOf g.O.Objects.shown g.O.Objects.stores h c.args.value c.commit.result c.commit.new.objects)
    c.in-Stores.ensures.heap (store_given g.O.Objects.shown g.O.Objects.stores c.plan_element.new.objects
    c.commit.new.objects (place_of store.target) c.args.value store.kept c.commit.result c.commit.ensures.did
    c.in-Stores.ensures.kept c.commit.ensures.heap)

pub returns-in-Ends-clause-given : goal.returns-in-Ends-clause-given
returns-in-Ends-clause-given g c = none_given g.O.Objects.shown g.O.Objects.stores c.args.objects.now
    c.plan_element.new.objects c.args.value c.in-Ends.result c.in-Ends.ensures.no_store
