use Rattle.std.proofs.Common.{inl, inr, refl, ap, ◌∙◌, subst, sym}
use Rattle.graph_model.specs.declared.types.Graph.{Graph}
use Rattle.source_classes.specs.Names.{slashed}
use Rattle.audit_call.specs.Audits.{AfterEnds, status_of_unopened}
use Rattle.audit_call.proofs.Found.{still_small}
use Rattle.audit_call.proofs.Keeping.{same_kept, unbegun_kept, unopened_kept}
use Rattle.audit_call.proofs.judging.judge_images.Goals as goal

pub judge_after-judged-requires : goal.judge_after-judged-requires
judge_after-judged-requires g c = record {
  opening = c.give_back-opening.ensures.opening (g.I.Image.told c.args.before) c.args.set.linked c.find_for.new.set c.in-Ok.ensures.found;
}

pub invariant_of-set : goal.invariant_of-set
invariant_of-set g c =
    let f = c.in-Ok.found in
    record {
      small = still_small (g.I.Image.told c.args.before) c.args.set.linked c.find_for.new.set f.memory f.directory f.lines f.graph f.free
          c.in-Ok.ensures.found c.args.set.small;
    }

pub returns-in-Ok-clause-ends : goal.returns-in-Ok-clause-ends
returns-in-Ok-clause-ends g c =
    let given = c.give_back-opening.ensures.given (g.I.Image.told c.args.before) c.args.set.linked c.find_for.new.set c.in-Ok.ensures.found in
    inr (record {
      numbered = c.find_for.new.set;
      found = given.0;
      ends = subst (λ (graph : Graph). AfterEnds c.find_for.new.set (slashed c.args.class.now) graph c.args.records.now
          (g.J.Image.told c.args.after) (g.J.Image.told c.judge_after-judged.result.image) c.judge_after-judged.result.status
          (g.S.Sink.taken c.args.sink.now) (g.S.Sink.taken c.judge_after-judged.new.sink)) (sym given.1) c.judge_after-judged.ensures.ends;
    })

pub returns-in-Ok-clause-before_kept : goal.returns-in-Ok-clause-before_kept
returns-in-Ok-clause-before_kept g c =
    let start = g.I.Image.told c.args.before in
    let given = c.give_back-opening.ensures.given start c.args.set.linked c.find_for.new.set c.in-Ok.ensures.found in
    unbegun_kept start (g.I.Image.told c.give_back-opening.result.1) c.args.set.linked c.find_for.new.set given.0

pub returns-in-Err-clause-ends : goal.returns-in-Err-clause-ends
returns-in-Err-clause-ends g c = inl (record {
  unopened = record {
    numbered = c.find_for.new.set;
    why = c.in-Err.why;
    unopened = c.in-Err.ensures.unopened;
    is = c.of_unopened-status.ensures.is;
    quiet = refl;
  };
  untouched = refl;
})

pub returns-in-Err-clause-before_kept : goal.returns-in-Err-clause-before_kept
returns-in-Err-clause-before_kept g c =
    unopened_kept (g.I.Image.told c.args.before) (g.I.Image.told c.in-Err.before) c.args.set.linked c.find_for.new.set c.in-Err.why
    c.in-Err.ensures.unopened

pub returns-in-Err-clause-after_kept : goal.returns-in-Err-clause-after_kept
returns-in-Err-clause-after_kept g c = same_kept (g.J.Image.told c.args.after)

pub returns-in-Ok-clause-image_fault : goal.returns-in-Ok-clause-image_fault
returns-in-Ok-clause-image_fault g c = λ is.
    inr (c.give_back-opening.ensures.faults ∙ c.in-Ok.ensures.spared, c.judge_after-judged.ensures.image_fault is)

pub returns-in-Ok-clause-image_spared : goal.returns-in-Ok-clause-image_spared
returns-in-Ok-clause-image_spared g c = λ other.
    (c.give_back-opening.ensures.faults ∙ c.in-Ok.ensures.spared, c.judge_after-judged.ensures.image_spared other)

pub returns-in-Err-clause-image_fault : goal.returns-in-Err-clause-image_fault
returns-in-Err-clause-image_fault g c = λ is. inl (c.in-Err.ensures.cause.failed (c.of_unopened-status.ensures.image_failed is), refl)

pub returns-in-Err-clause-image_spared : goal.returns-in-Err-clause-image_spared
returns-in-Err-clause-image_spared g c = λ other.
    (c.in-Err.ensures.cause.spared (λ failed. other (c.of_unopened-status.ensures.is ∙ ap status_of_unopened failed)), refl)

pub returns-in-Err-clause-sink_fault : goal.returns-in-Err-clause-sink_fault
returns-in-Err-clause-sink_fault g c = λ is. absurd (c.of_unopened-status.ensures.no_sink is)
