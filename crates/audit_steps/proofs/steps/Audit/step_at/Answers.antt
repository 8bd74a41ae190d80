use Rattle.std.proofs.Common.{◌≡◌, ◌∙◌, ◌↔◌, ◌++◌, ◌∷◌, [], List, IsTrue, Some, ap, suc, sym, subst, take}
use Rattle.std.specs.Prelude.{IfOk, slice_get}
use Rattle.std.specs.Option.{option_copied}
use Rattle.run_history.specs.Recorded.{Recorded}
use Rattle.run_forms.specs.Standing.{IsRun}
use Rattle.plain_machine.specs.Standing.{recorded}
use Rattle.audit_steps.specs.Audits.{IsAt}
use Rattle.audit_steps.proofs.Histories.{act-at, act-there, named-rightly, take-next}
use Rattle.audit_steps.proofs.steps.Audit.step_at.Goals as goal

pub step-requires-clause-named : goal.step-requires-clause-named
step-requires-clause-named g c =
    let acts = c.args.acts.now.acts in
    let r = recorded c.in-Some.act.now c.named.result.now in
    named-rightly acts c.args.i r c.named.ensures.rightly
    (act-at acts c.args.i c.in-Some.act.now c.named.result.now c.in-Some.ensures.act c.named.ensures.named)

pub returns-in-Some-clause-exact : goal.returns-in-Some-clause-exact
returns-in-Some-clause-exact g c launch at =
    let acts = c.args.acts.now.acts in
    let act = c.in-Some.act.now in
    let named = c.named.result.now in
    let next = take-next acts c.args.i (recorded act named) (act-at acts c.args.i act named c.in-Some.ensures.act c.named.ensures.named) in
    subst (λ (xs : List Recorded). IfOk c.step.result (λ answer. IsTrue answer ↔ IsRun launch xs)) (sym next)
    (c.step.ensures.exact launch (take c.args.i acts) at)

pub returns-in-Some-clause-goes : goal.returns-in-Some-clause-goes
returns-in-Some-clause-goes g c launch at said_so =
    let acts = c.args.acts.now.acts in
    let act = c.in-Some.act.now in
    let named = c.named.result.now in
    let next = take-next acts c.args.i (recorded act named) (act-at acts c.args.i act named c.in-Some.ensures.act c.named.ensures.named) in
    subst (λ (xs : List Recorded). IsAt launch xs (g.C.Types.facts c.args.set.now) (g.H.Host.setting c.args.host.now) c.step.new.self)
    (sym next) (c.step.ensures.goes launch (take c.args.i acts) at said_so)

pub returns-in-None-clause-exact : goal.returns-in-None-clause-exact
returns-in-None-clause-exact g c launch at =
    absurd (act-there c.args.acts.now.acts c.args.i (sym (ap option_copied c.in-None.is) ∙ c.get.ensures.act) c.requires.there)
