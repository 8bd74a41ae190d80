use Rattle.std.proofs.Common.{◌≡◌, ◌∙◌, ◌+◌, List, ap, arith, subst, suc, take}
use Rattle.std.specs.Prelude.{Ok}
use Rattle.std.proofs.lemmas.List.{take_all}
use Rattle.run_history.specs.Recorded.{Recorded}
use Rattle.audit_steps.specs.Audits.{IsAt}
use Rattle.audit_steps.proofs.steps.Audit.follow.Goals as goal

pub acts-preserved : goal.acts-preserved
acts-preserved g c =
    let test = c.acts-test.true in
    let all = c.len.ensures.len in
    let next : suc c.acts.i ≡ c.acts.i + 1 = omega arith in
    record {
      there = omega (arith, test, all);
      at = λ launch at. subst (λ n. IsAt launch (take n c.args.acts.now.acts) (g.C.Types.facts c.args.set.now)
          (g.H.Host.setting c.args.host.now) c.step_at.new.self) next
          (c.step_at.ensures.goes launch (c.acts.invariant.at launch at) (c.in_ok-step_at.was ∙ ap Ok c.if-not-branch.false));
    }

pub returns-clause-whole : goal.returns-clause-whole
returns-clause-whole g c launch at said_so =
    let test = c.acts-test.false in
    let all = c.len.ensures.len in
    subst (λ (xs : List Recorded). IsAt launch xs (g.C.Types.facts c.args.set.now) (g.H.Host.setting c.args.host.now) c.acts.self)
    (take_all c.acts.i c.args.acts.now.acts (omega (arith, test, all))) (c.acts.invariant.at launch at)
