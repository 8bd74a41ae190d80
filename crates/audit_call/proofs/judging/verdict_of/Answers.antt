use Rattle.std.proofs.Common.{◌≡◌, Ok, ap, sym, subst}
use Rattle.graph_model.specs.declared.types.Graph.{Graph}
use Rattle.class_set.specs.Facts.{facts_of}
use Rattle.plain_model.specs.First.{IsOpening}
use Rattle.plain_model.specs.Runs.{IsAllowed}
use Rattle.audit_verdicts.specs.declared.verdict.Verdict.TheVariants.{Yes}
use Rattle.audit_runs.specs.Audits.{IsRight}
use Rattle.audit_call.proofs.judging.verdict_of.Goals as goal

pub audit_run-requires : goal.audit_run-requires
audit_run-requires c = record {
  opening = subst (λ (x : Graph). IsOpening (facts_of c.args.set.now.linked) x) (sym c.in_ok-opening.ensures.same) c.requires.opening;
  main = (c.args.main.now, c.requires.main);
}

pub returns-in-Ok-clause-right : goal.returns-in-Ok-clause-right
returns-in-Ok-clause-right c =
    subst (λ (x : Graph). IsRight c.args.set.now.linked c.args.main.now x c.args.acts.now.acts c.args.keep
    c.args.output.now c.args.after c.in-Ok.verdict) c.in_ok-opening.ensures.same
    (subst (λ (x : Graph). IsRight c.args.set.now.linked c.args.main.now c.in_ok-opening.opening c.args.acts.now.acts
    c.args.keep c.args.output.now x c.in-Ok.verdict) c.in_ok-after.ensures.same
    (c.in-Ok.ensures.right c.args.main.now c.requires.main))

pub returns-in-Ok-clause-allowed : goal.returns-in-Ok-clause-allowed
returns-in-Ok-clause-allowed c is =
    let yes : c.in-Ok.verdict ≡ Yes = cc in
    subst (λ (x : Graph). IsAllowed (facts_of c.args.set.now.linked) x c.args.acts.now.acts c.args.after) c.in_ok-opening.ensures.same
    (subst (λ (x : Graph). IsAllowed (facts_of c.args.set.now.linked) c.in_ok-opening.opening c.args.acts.now.acts x)
    c.in_ok-after.ensures.same (c.in-Ok.ensures.allowed (ap Ok yes)))
