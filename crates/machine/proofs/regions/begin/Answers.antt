use Rattle.std.proofs.Common.{length, refl, ap, ◌∙◌, subst, sym}
use Rattle.run_history.specs.Recorded.{History}
use Rattle.machine.specs.Ended.{event_of}
use Rattle.machine.proofs.Answering.{agrees-at, serves-as}
use Rattle.machine.proofs.Beginning.{begun-serves}
use Rattle.machine.proofs.Marks.{IsRegional, regional-faults, regional-output}
use Rattle.shared_heap.specs.Passed.{IsSilent}
use Rattle.machine.proofs.regions.begin.Goals as goal

pub take-step-requires-clause-agrees : goal.take-step-requires-clause-agrees
take-step-requires-clause-agrees g c =
    agrees-at c.laws.ensures (g.C.Types.facts c.args.set.now) c.args.heap.now c.args.t c.args.request.now
    c.requires.ready
    c.args.heap.now refl c.requires.due c.len-count.result c.len-count.type_inv
    (c.len-count.ensures.len ∙ ap (λ (h : History). length h.acts) c.acts.ensures)

pub returns-clause-serves : goal.returns-clause-serves
returns-clause-serves g c =
    let facts = g.C.Types.facts c.args.set.now in
    let regional = subst IsRegional (sym c.requires.is_begin.1) tt in
    serves-as facts c.args.heap.now c.open_region.new.self c.args.t c.args.request.now
    (event_of c.args.request.now c.take-step.result) c.ended.result (g.S.Sink.takes c.args.sink.now) _ _ _ _ _
    (begun-serves c.laws.ensures facts c.args.heap.now c.take-step.new.self c.open_region.new.self
    c.args.t c.args.request.now c.requires.room c.requires.counted c.requires.ready c.requires.idle
    c.requires.is_begin.0 c.requires.is_begin.1 c.take-step.result
    c.take-step.ensures.steps
    c.take-step.ensures.no_store
    c.open_region.ensures.deeper c.requires.due (g.S.Sink.takes c.args.sink.now) _ _)
    c.ended.ensures
    (ap g.S.Sink.takes (c.take-step.ensures.silent (subst IsSilent (sym c.requires.is_begin.1) tt)))
    (regional-output c.args.request.now regional _ _ c.take-step.result c.take-step.ensures.output)
    (regional-faults c.args.request.now regional _ _ c.take-step.result c.take-step.ensures.cause)

pub returns-clause-sink : goal.returns-clause-sink
returns-clause-sink g c = c.take-step.ensures.silent (subst IsSilent (sym c.requires.is_begin.1) tt)
