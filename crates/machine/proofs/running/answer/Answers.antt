use Rattle.std.proofs.Common.{inl, inr, length, refl, ap, subst, ◌∙◌}
use Rattle.run_history.specs.Recorded.{History}
use Rattle.step_forms.specs.Becomes.{given}
use Rattle.machine.proofs.Answering.{agrees-at, may-at, some-of, some-planned, step-serves, store-serves}
use Rattle.machine.proofs.Printing.{given-behind, given-faults, given-output, given-shares}
use Rattle.machine.proofs.Starting.{given-notes, has-notes}
use Rattle.shared_heap.specs.Shared.{Shared}
use Rattle.shared_heap.specs.Requests.{StepsTo}
use Rattle.machine.specs.Events.{IsUnanswered}
use Rattle.machine.proofs.Stepping.{stepped-image, stepped-silent}
use Rattle.machine.proofs.running.answer.Goals as goal

pub plan-requires-clause-agrees : goal.plan-requires-clause-agrees
plan-requires-clause-agrees g c =
    agrees-at c.laws.ensures (g.C.Types.facts c.args.set.now) c.args.heap.now c.args.t c.args.request.now
    c.requires.ready
    c.args.heap.now refl c.requires.due c.len-count.result c.len-count.type_inv
    (c.len-count.ensures.len ∙ ap (λ (h : History). length h.acts) c.acts.ensures)

pub plan-requires-clause-may : goal.plan-requires-clause-may
plan-requires-clause-may g c =
    may-at c.laws.ensures (g.C.Types.facts c.args.set.now) c.args.heap.now c.args.t c.args.request.now c.requires.ready
    c.args.heap.now refl c.requires.due

pub take-step-requires-clause-agrees : goal.take-step-requires-clause-agrees
take-step-requires-clause-agrees g c =
    agrees-at c.laws.ensures (g.C.Types.facts c.args.set.now) c.args.heap.now c.args.t c.args.request.now
    c.requires.ready
    c.plan.new.self (c.in-NoStore.ensures.same refl) c.requires.due c.len-count.result c.len-count.type_inv
    (c.len-count.ensures.len ∙ ap (λ (h : History). length h.acts) c.acts.ensures)

pub take-step-requires-clause-may : goal.take-step-requires-clause-may
take-step-requires-clause-may g c =
    may-at c.laws.ensures (g.C.Types.facts c.args.set.now) c.args.heap.now c.args.t c.args.request.now c.requires.ready
    c.plan.new.self (c.in-NoStore.ensures.same refl) c.requires.due

pub store-requires-clause-planned : goal.store-requires-clause-planned
store-requires-clause-planned g c =
    some-planned c.laws.ensures (g.C.Types.facts c.args.set.now) c.args.heap.now c.args.t c.args.request.now
    c.requires.ready
    c.plan.new.self c.in-Stores.planned c.in-Stores.ensures.stores.0
    c.requires.idle c.in-Stores.ensures.stores.1 (λ none. let no = c.in-Stores.ensures.none.1 none in cc)
    c.requires.due

pub returns-in-NoStore-clause-serves : goal.returns-in-NoStore-clause-serves
returns-in-NoStore-clause-serves g c =
    step-serves c.laws.ensures (g.C.Types.facts c.args.set.now) c.args.heap.now c.args.t c.args.request.now
    c.requires.ready
    c.requires.room c.plan.new.self c.take-step.new.self c.take-step.result (c.in-NoStore.ensures.same refl) c.take-step.ensures.steps
    c.take-step.ensures.no_store c.requires.idle c.requires.outside c.ended.result c.ended.ensures
    (has-notes c.args.request.now c.take-step.new.self c.take-step.ensures.threads)
    c.requires.due (g.S.Sink.takes c.args.sink.now) _ _ _ _ _ c.take-step.ensures.output
    c.take-step.ensures.behind c.take-step.ensures.share c.take-step.ensures.cause

pub returns-in-Ends-clause-serves : goal.returns-in-Ends-clause-serves
returns-in-Ends-clause-serves g c =
    let gives = some-of (given c.args.request.now) (λ none. let no = c.in-Ends.ensures.none.1 none in cc) in
    step-serves c.laws.ensures (g.C.Types.facts c.args.set.now) c.args.heap.now c.args.t c.args.request.now
    c.requires.ready
    c.requires.room c.args.heap.now c.plan.new.self c.in-Ends.step refl
    c.in-Ends.ensures.ends.0 c.in-Ends.ensures.ends.1 c.requires.idle c.requires.outside
    c.ended-in-Ends.result c.ended-in-Ends.ensures
    (given-notes c.args.request.now c.plan.new.self gives) c.requires.due (g.S.Sink.takes c.args.sink.now) _ _ _ _ _
    (given-output c.args.request.now (g.S.Sink.taken c.args.sink.now) c.in-Ends.step gives)
    (given-behind c.args.request.now (g.S.Sink.takes c.args.sink.now) c.in-Ends.step gives)
    (given-shares c.args.request.now (g.S.Sink.takes c.args.sink.now 0) c.in-Ends.step gives)
    (given-faults c.args.request.now (g.S.Sink.faults c.args.sink.now) c.in-Ends.step gives)

pub returns-in-Stores-clause-serves : goal.returns-in-Stores-clause-serves
returns-in-Stores-clause-serves g c =
    store-serves c.laws.ensures (g.C.Types.facts c.args.set.now) c.args.heap.now c.args.t c.args.request.now
    c.requires.ready
    c.plan.new.self c.in-Stores.planned c.in-Stores.ensures.stores.0
    c.requires.idle c.in-Stores.ensures.stores.1 (λ none. let no = c.in-Stores.ensures.none.1 none in cc)
    c.store.new.heap c.store.result c.store.ensures (g.S.Sink.takes c.args.sink.now)
    (g.S.Sink.taken c.args.sink.now) (g.S.Sink.faults c.args.sink.now)

pub returns-in-NoStore-clause-either : goal.returns-in-NoStore-clause-either
returns-in-NoStore-clause-either g c =
    let (o, first, es, threads, fs, due) = c.requires.due in
    let facts = g.C.Types.facts c.args.set.now in
    inl (stepped-image c.laws.ensures o first facts c.args.heap.now es threads c.args.t fs c.args.request.now due
    c.requires.room c.requires.ready c.take-step.new.self c.take-step.result
    (subst (λ (y : Shared). StepsTo facts c.args.t c.args.request.now c.take-step.result y c.take-step.new.self)
    (c.in-NoStore.ensures.same refl) c.take-step.ensures.steps) c.take-step.ensures.no_store)

pub returns-in-NoStore-clause-sink : goal.returns-in-NoStore-clause-sink
returns-in-NoStore-clause-sink g c un =
    let (o, first, es, threads, fs, due) = c.requires.due in
    let facts = g.C.Types.facts c.args.set.now in
    c.take-step.ensures.silent
    (stepped-silent c.laws.ensures o first facts c.args.heap.now es threads c.args.t fs c.args.request.now due
    c.requires.room c.requires.ready c.take-step.new.self c.take-step.result
    (subst (λ (y : Shared). StepsTo facts c.args.t c.args.request.now c.take-step.result y c.take-step.new.self)
    (c.in-NoStore.ensures.same refl) c.take-step.ensures.steps)
    (subst IsUnanswered c.ended.ensures un))

pub returns-in-Ends-clause-either : goal.returns-in-Ends-clause-either
returns-in-Ends-clause-either g c = inr refl

pub returns-in-Stores-clause-either : goal.returns-in-Stores-clause-either
returns-in-Stores-clause-either g c = inr refl
