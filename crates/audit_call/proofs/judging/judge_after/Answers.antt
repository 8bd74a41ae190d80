use Rattle.std.proofs.Common.{inl, inr, refl, ap, ◌∙◌, subst, sym}
use Rattle.graph_model.specs.declared.types.Graph.{Graph}
use Rattle.source_classes.specs.Names.{slashed}
use Rattle.audit_call.specs.Audits.{status_of_unopened}
use Rattle.audit_call.specs.Judged.{GraphsEnd}
use Rattle.audit_call.proofs.Found.{still_opens, still_small}
use Rattle.audit_call.proofs.Keeping.{unbegun_kept, unopened_kept}
use Rattle.audit_call.proofs.judging.judge_after.Goals as goal

pub judge_graphs-status-requires : goal.judge_graphs-status-requires
judge_graphs-status-requires g c =
    let f = c.in-Ok.found in
    record {
      opening = still_opens (g.J.Image.told c.args.after) c.args.set.linked c.find_for.new.set f.memory f.directory f.lines f.graph f.free
          c.in-Ok.ensures.found c.args.opening c.requires.opening;
    }

pub invariant_of-set : goal.invariant_of-set
invariant_of-set g c =
    let f = c.in-Ok.found in
    record {
      small = still_small (g.J.Image.told c.args.after) c.args.set.linked c.find_for.new.set f.memory f.directory f.lines f.graph f.free
          c.in-Ok.ensures.found c.args.set.small;
    }

pub returns-in-Ok-clause-ends : goal.returns-in-Ok-clause-ends
returns-in-Ok-clause-ends g c =
    let given = c.give_back-graph.ensures.given (g.J.Image.told c.args.after) c.args.set.linked c.find_for.new.set c.in-Ok.ensures.found in
    inr (record {
      numbered = c.find_for.new.set;
      found = given.0;
      ends = subst (λ (graph : Graph). GraphsEnd c.find_for.new.set (slashed c.args.class.now) c.args.opening graph c.args.records.now c.judge_graphs-status.result
          (g.S.Sink.taken c.args.sink.now) (g.S.Sink.taken c.judge_graphs-status.new.sink)) (sym given.1) c.judge_graphs-status.ensures.ends;
    })

pub returns-in-Ok-clause-kept : goal.returns-in-Ok-clause-kept
returns-in-Ok-clause-kept g c =
    let start = g.J.Image.told c.args.after in
    let given = c.give_back-graph.ensures.given start c.args.set.linked c.find_for.new.set c.in-Ok.ensures.found in
    unbegun_kept start (g.J.Image.told c.give_back-graph.result.1) c.args.set.linked c.find_for.new.set given.0

pub returns-in-Err-clause-ends : goal.returns-in-Err-clause-ends
returns-in-Err-clause-ends g c = inl (record {
  numbered = c.find_for.new.set;
  why = c.in-Err.why;
  unopened = c.in-Err.ensures.unopened;
  is = c.of_unopened-status.ensures.is;
  quiet = refl;
})

pub returns-in-Err-clause-kept : goal.returns-in-Err-clause-kept
returns-in-Err-clause-kept g c =
    unopened_kept (g.J.Image.told c.args.after) (g.J.Image.told c.in-Err.image) c.args.set.linked c.find_for.new.set c.in-Err.why
    c.in-Err.ensures.unopened

pub returns-in-Ok-clause-image_fault : goal.returns-in-Ok-clause-image_fault
returns-in-Ok-clause-image_fault g c = λ is. absurd (c.judge_graphs-status.ensures.no_image is)

pub returns-in-Err-clause-image_fault : goal.returns-in-Err-clause-image_fault
returns-in-Err-clause-image_fault g c = λ is. c.in-Err.ensures.cause.failed (c.of_unopened-status.ensures.image_failed is)

pub returns-in-Ok-clause-image_spared : goal.returns-in-Ok-clause-image_spared
returns-in-Ok-clause-image_spared g c = λ other. c.give_back-graph.ensures.faults ∙ c.in-Ok.ensures.spared

pub returns-in-Err-clause-image_spared : goal.returns-in-Err-clause-image_spared
returns-in-Err-clause-image_spared g c = λ other.
    c.in-Err.ensures.cause.spared (λ failed. other (c.of_unopened-status.ensures.is ∙ ap status_of_unopened failed))

pub returns-in-Err-clause-sink_fault : goal.returns-in-Err-clause-sink_fault
returns-in-Err-clause-sink_fault g c = λ is. absurd (c.of_unopened-status.ensures.no_sink is)
