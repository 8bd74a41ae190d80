use Rattle.std.proofs.Common.{sym, subst}
use Rattle.natives.specs.declared.requests.Request.TheVariants as ask
use Rattle.shared_objects.specs.Shown.{Shown, item_value}
use Rattle.step_forms.specs.Follows.{HeapGoes, stored_as}
use Rattle.step_forms.proofs.Going.{heap_step}
use Rattle.object_steps.specs.Stores.{CanStore, StoresOf, place_of}
use Rattle.step_forms.specs.Becomes.{Becomes}
use Rattle.object_steps.proofs.Stored.{none_given, store_becomes, store_given}
use Rattle.object_steps.proofs.storing.put_field.Goals as goal

pub returns-in-Ends-clause-step : goal.returns-in-Ends-clause-step
returns-in-Ends-clause-step g c = c.in-Ends.ensures.plan

pub commit-requires-clause-can : goal.commit-requires-clause-can
commit-requires-clause-can g c = subst (λ (s : Shown). CanStore s c.in-Stores.store) (sym
    c.in-Stores.ensures.plan.2) c.in-Stores.ensures.plan.1

pub commit-requires-clause-here : goal.commit-requires-clause-here
commit-requires-clause-here g c = c.in-Stores.ensures.here

pub returns-in-Stores-clause-step : goal.returns-in-Stores-clause-step
returns-in-Stores-clause-step g c =
    let facts = g.C.Types.facts c.args.set.now in
    let before = g.O.Objects.shown c.args.objects.now in
    let store = c.in-Stores.store in
    let goes : HeapGoes (λ world. stored_as (place_of store.target) (item_value (g.O.Objects.shown
    c.plan_field.new.objects).number store.kept))
    (g.O.Objects.shown c.plan_field.new.objects) c.commit.result (g.O.Objects.shown c.commit.new.objects) =
    c.commit.ensures.step in
    heap_step (λ world. stored_as (place_of store.target) (item_value before.number store.kept)) facts (λ
    from. ask.PutField from c.args.holder c.args.field c.args.value)
    (λ roots rest t taken from. c.in-Stores.ensures.plan.0 t taken roots rest from)
    (subst (λ (s : Shown). HeapGoes (λ world. stored_as (place_of store.target) (item_value s.number
    store.kept)) s c.commit.result
    (g.O.Objects.shown c.commit.new.objects)) c.in-Stores.ensures.plan.2 goes)

pub commit-requires-clause-may : goal.commit-requires-clause-may
commit-requires-clause-may g c =
    let store = c.in-Stores.store in
    subst (λ h. g.O.Objects.may_store h (place_of store.target) store.kept) (sym c.in-Stores.ensures.heap)
    (c.requires.may (place_of store.target) c.in-Stores.ensures.kept.0 store.kept c.in-Stores.ensures.kept.1
    c.in-Stores.ensures.plan.0)

pub returns-in-Stores-clause-heap : goal.returns-in-Stores-clause-heap
returns-in-Stores-clause-heap g c =
    let store = c.in-Stores.store in
    subst (λ h. Becomes g.O.Objects.shown g.O.Objects.stores g.O.Objects.makes h c.commit.result
    c.commit.new.objects)
    c.in-Stores.ensures.heap (store_becomes g.O.Objects.shown g.O.Objects.stores g.O.Objects.makes
    c.plan_field.new.objects c.commit.new.objects (place_of store.target) store.kept c.commit.result
    c.commit.ensures.did c.commit.ensures.heap)

pub returns-in-Stores-clause-given : goal.returns-in-Stores-clause-given
returns-in-Stores-clause-given g c =
    let store = c.in-Stores.store in
    subst (λ h. StoresOf g.O.Objects.shown g.O.Objects.stores h c.args.value c.commit.result c.commit.new.objects)
    c.in-Stores.ensures.heap (store_given g.O.Objects.shown g.O.Objects.stores c.plan_field.new.objects
    c.commit.new.objects (place_of store.target) c.args.value store.kept c.commit.result c.commit.ensures.did
    c.in-Stores.ensures.kept c.commit.ensures.heap)

pub returns-in-Ends-clause-given : goal.returns-in-Ends-clause-given
returns-in-Ends-clause-given g c = none_given g.O.Objects.shown g.O.Objects.stores c.args.objects.now
    c.plan_field.new.objects c.args.value c.in-Ends.result c.in-Ends.ensures.no_store
