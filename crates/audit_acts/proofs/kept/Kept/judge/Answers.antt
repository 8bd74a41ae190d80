use Rattle.std.proofs.Common.{◌≡◌, List, [], true, subst, sym}
use Rattle.std.specs.Prelude.{IfOk, Ok}
use Rattle.audit_acts.specs.Keeps.{GoesOn, Judges}
use Rattle.audit_acts.proofs.Judging.{names-none}
use Rattle.audit_acts.proofs.kept.Kept.judge.Goals as goal

pub returns-in_default : goal.returns-in_default
returns-in_default c =
    let k = c.args.self.now in
    let act = c.args.act.now in
    let none = sym (names-none act.op c.args.named.now c.requires.named c.in_default.not-Joined) in
    record {
      exact = subst (λ ns. IfOk c.judge_one.result (Judges k act ns c.args.ahead c.args.about c.args.depth)) none c.judge_one.ensures.exact;
      goes = subst (λ ns. c.judge_one.result ≡ Ok true → GoesOn k act ns c.args.ahead c.args.about c.args.depth c.judge_one.new.self) none
          c.judge_one.ensures.goes;
    }
