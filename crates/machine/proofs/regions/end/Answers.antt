use Rattle.std.proofs.Common.{length, ap, ◌∙◌, subst, sym}
use Rattle.run_history.specs.Recorded.{History}
use Rattle.region_log.specs.declared.log.EndStep.{EndStep}
use Rattle.shared_heap.specs.Regions.{EndsTo}
use Rattle.machine.specs.Ended.{event_of}
use Rattle.machine.proofs.Answering.{serves-as}
use Rattle.machine.proofs.Closing.{closed-serves, ended-serves, failed-serves, left-agree, left-whole, part-serves}
use Rattle.machine.proofs.Marks.{IsRegional, regional-faults, regional-output}
use Rattle.shared_heap.specs.Passed.{IsSilent}
use Rattle.machine.proofs.regions.end.Goals as goal

pub take-step-requires-clause-whole : goal.take-step-requires-clause-whole
take-step-requires-clause-whole g c =
    left-whole c.laws.ensures (g.C.Types.facts c.args.set.now) c.args.heap.now c.args.t c.args.request.now c.requires.room
    c.requires.ready c.requires.open c.requires.is_end.0 c.requires.is_end.1 c.end_next.new.self
    (subst (λ (step : EndStep). EndsTo step c.args.t c.args.heap.now c.end_next.new.self)
    c.in-Ok-Ended.field-0-is c.in-Ok-Ended.ensures.ends) c.requires.due

pub take-step-requires-clause-agrees : goal.take-step-requires-clause-agrees
take-step-requires-clause-agrees g c =
    left-agree c.laws.ensures (g.C.Types.facts c.args.set.now) c.args.heap.now c.args.t c.args.request.now c.requires.room
    c.requires.ready c.requires.open c.requires.is_end.0 c.requires.is_end.1 c.end_next.new.self
    (subst (λ (step : EndStep). EndsTo step c.args.t c.args.heap.now c.end_next.new.self)
    c.in-Ok-Ended.field-0-is c.in-Ok-Ended.ensures.ends) c.requires.due c.len-count.result c.len-count.type_inv
    (c.len-count.ensures.len ∙ ap (λ (h : History). length h.acts) c.acts.ensures)

pub returns-in-Ok-Ended-clause-serves : goal.returns-in-Ok-Ended-clause-serves
returns-in-Ok-Ended-clause-serves g c =
    let facts = g.C.Types.facts c.args.set.now in
    let regional = subst IsRegional (sym c.requires.is_end.1) tt in
    serves-as facts c.args.heap.now c.take-step.new.self c.args.t c.args.request.now
    (event_of c.args.request.now c.take-step.result) c.ended.result (g.S.Sink.takes c.args.sink.now) _ _ _ _ _
    (ended-serves c.laws.ensures facts c.args.heap.now c.args.t c.args.request.now c.requires.room c.requires.ready
    c.requires.open c.requires.is_end.0 c.requires.is_end.1 c.end_next.new.self
    (subst (λ (step : EndStep). EndsTo step c.args.t c.args.heap.now c.end_next.new.self)
    c.in-Ok-Ended.field-0-is c.in-Ok-Ended.ensures.ends) c.requires.due c.take-step.new.self c.take-step.result
    c.take-step.ensures.steps
    c.take-step.ensures.no_store c.in-Ok-Ended.ensures.cause.spared (g.S.Sink.takes c.args.sink.now) _ _)
    c.ended.ensures
    (ap g.S.Sink.takes (c.take-step.ensures.silent (subst IsSilent (sym c.requires.is_end.1) tt)))
    (regional-output c.args.request.now regional _ _ c.take-step.result c.take-step.ensures.output)
    (regional-faults c.args.request.now regional _ _ c.take-step.result c.take-step.ensures.cause)

pub returns-in-Ok-More-clause-serves : goal.returns-in-Ok-More-clause-serves
returns-in-Ok-More-clause-serves g c =
    part-serves c.laws.ensures (g.C.Types.facts c.args.set.now) c.args.heap.now c.args.t c.args.request.now c.requires.room
    c.requires.ready c.requires.open c.requires.is_end.0 c.requires.is_end.1 c.end_next.new.self
    (subst (λ (step : EndStep). EndsTo step c.args.t c.args.heap.now c.end_next.new.self)
    c.in-Ok-More.field-0-is c.in-Ok-More.ensures.ends) c.in-Ok-More.ensures.cause.spared (g.S.Sink.takes c.args.sink.now)
    (g.S.Sink.taken c.args.sink.now) (g.S.Sink.faults c.args.sink.now)

pub returns-in-Ok-AllFenced-clause-serves : goal.returns-in-Ok-AllFenced-clause-serves
returns-in-Ok-AllFenced-clause-serves g c =
    closed-serves c.laws.ensures (g.C.Types.facts c.args.set.now) c.args.heap.now c.args.t c.args.request.now
    c.requires.room c.requires.ready c.requires.open c.requires.is_end.0 c.requires.is_end.1
    c.end_next.new.self
    (subst (λ (step : EndStep). EndsTo step c.args.t c.args.heap.now c.end_next.new.self)
    c.in-Ok-AllFenced.field-0-is c.in-Ok-AllFenced.ensures.ends) c.in-Ok-AllFenced.ensures.cause.spared (g.S.Sink.takes c.args.sink.now)
    (g.S.Sink.taken c.args.sink.now) (g.S.Sink.faults c.args.sink.now)

pub returns-in-Err-clause-serves : goal.returns-in-Err-clause-serves
returns-in-Err-clause-serves g c =
    failed-serves c.laws.ensures (g.C.Types.facts c.args.set.now) c.args.heap.now c.args.t c.args.request.now
    c.requires.room c.requires.ready c.requires.open c.requires.is_end.0 c.requires.is_end.1
    c.end_next.new.self
    c.in-Err.ensures.failed c.in-Err.ensures.cause.failed (g.S.Sink.takes c.args.sink.now)
    (g.S.Sink.taken c.args.sink.now) (g.S.Sink.faults c.args.sink.now)

pub returns-in-Ok-Ended-clause-sink : goal.returns-in-Ok-Ended-clause-sink
returns-in-Ok-Ended-clause-sink g c = c.take-step.ensures.silent (subst IsSilent (sym c.requires.is_end.1) tt)
