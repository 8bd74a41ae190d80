use Rattle.shared_objects.specs.Shown.{item_value}
use Rattle.step_forms.specs.Follows.{HeapGoes, stored_as}
use Rattle.object_steps.specs.Stores.{place_of}
use Rattle.step_forms.proofs.Going.{same_goes}
use Rattle.step_forms.proofs.Becoming.{quiet_becomes, quiet_no_store}
use Rattle.object_steps.proofs.Stored.{none_given, store_becomes, store_given}
use Rattle.object_steps.proofs.storing.put_static.Goals as goal

pub returns-in-Ends-clause-step : goal.returns-in-Ends-clause-step
returns-in-Ends-clause-step g c = c.in-Ends.ensures.plan

pub commit-requires-clause-can : goal.commit-requires-clause-can
commit-requires-clause-can g c = c.in-Stores.ensures.plan.1

pub commit-requires-clause-here : goal.commit-requires-clause-here
commit-requires-clause-here g c = c.in-Stores.ensures.here

pub returns-in-Stores-clause-step : goal.returns-in-Stores-clause-step
returns-in-Stores-clause-step g c set from known =
    let before = g.O.Objects.shown c.args.objects.now in
    let store = c.in-Stores.store in
    let goes : HeapGoes (λ world. stored_as (place_of store.target) (item_value before.number store.kept))
    before c.commit.result
    (g.O.Objects.shown c.commit.new.objects) = c.commit.ensures.step in
    rw c.in-Stores.ensures.plan.2
    (same_goes (λ roots taken. c.in-Stores.ensures.plan.0 set taken roots from) (goes c.args.t
    c.args.rest.now known))

pub commit-requires-clause-may : goal.commit-requires-clause-may
commit-requires-clause-may g c =
    let store = c.in-Stores.store in
    c.requires.may (place_of store.target) c.in-Stores.ensures.kept.0 store.kept c.in-Stores.ensures.kept.1
    c.in-Stores.ensures.plan.0

pub returns-in-Stores-clause-heap : goal.returns-in-Stores-clause-heap
returns-in-Stores-clause-heap g c =
    let store = c.in-Stores.store in
    store_becomes g.O.Objects.shown g.O.Objects.stores g.O.Objects.makes
    c.args.objects.now c.commit.new.objects (place_of store.target) store.kept c.commit.result
    c.commit.ensures.did c.commit.ensures.heap

pub returns-in-Ends-clause-heap : goal.returns-in-Ends-clause-heap
returns-in-Ends-clause-heap g c = quiet_becomes g.O.Objects.shown g.O.Objects.stores g.O.Objects.makes
    c.args.objects.now c.in-Ends.result c.in-Ends.ensures.quiet

pub returns-in-Stores-clause-given : goal.returns-in-Stores-clause-given
returns-in-Stores-clause-given g c =
    let store = c.in-Stores.store in
    store_given g.O.Objects.shown g.O.Objects.stores c.args.objects.now c.commit.new.objects (place_of store.target)
    c.args.value store.kept c.commit.result c.commit.ensures.did c.in-Stores.ensures.kept c.commit.ensures.heap

pub returns-in-Ends-clause-given : goal.returns-in-Ends-clause-given
returns-in-Ends-clause-given g c = none_given g.O.Objects.shown g.O.Objects.stores c.args.objects.now
    c.args.objects.now c.args.value c.in-Ends.result (quiet_no_store c.in-Ends.result c.in-Ends.ensures.quiet)
