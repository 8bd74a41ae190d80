use Rattle.std.proofs.Common.{sym, subst}
use Rattle.object_steps.specs.declared.storing.Target.{Target}
use Rattle.shared_objects.specs.Shown.{item_value}
use Rattle.step_forms.specs.Follows.{HeapGoes, stored_as}
use Rattle.object_steps.specs.Stores.{place_of}
use Rattle.object_steps.proofs.commits.commit.Goals as goal

pub returns-in-Static-clause-step : goal.returns-in-Static-clause-step
returns-in-Static-clause-step g c =
    let before = g.O.Objects.shown c.args.objects.now in
    subst (λ (x : Target). HeapGoes (λ world. stored_as (place_of x) (item_value before.number
    c.args.store.kept)) before
    c.commit_static.result (g.O.Objects.shown c.commit_static.new.objects)) (sym c.in-Static.is)
    c.commit_static.ensures.step

pub returns-in-Slot-clause-step : goal.returns-in-Slot-clause-step
returns-in-Slot-clause-step g c =
    let before = g.O.Objects.shown c.args.objects.now in
    subst (λ (x : Target). HeapGoes (λ world. stored_as (place_of x) (item_value before.number
    c.args.store.kept)) before
    c.commit_slot.result (g.O.Objects.shown c.commit_slot.new.objects)) (sym c.in-Slot.is)
    c.commit_slot.ensures.step
