use Rattle.std.proofs.Common.{◌≡◌, ◌<◌, ◌↔◌, ◌∙◌, IsTrue, refl, subst, sym}
use Rattle.audit_acts.specs.Keeps.{MayCome}
use Rattle.audit_acts.proofs.Judging.{joined, joined-exact}
use Rattle.audit_acts.proofs.kept.Kept.judge_joined.Goals as goal

pub returns-then-not-join-clause-exact : goal.returns-then-not-join-clause-exact
returns-then-not-join-clause-exact c set first acts request h told =
    let act = c.args.act.now in
    let named = c.args.named.now in
    subst (λ b. IsTrue b ↔ MayCome set first acts request act named) (sym c.join.ensures.test ∙ c.if-not-join.true)
    (joined-exact set first acts request c.args.self.now act c.args.ahead c.args.about c.args.depth h told named c.requires.later
    c.requires.joined (sym c.owes_fence.ensures ∙ c.if-owes_fence.false))

pub returns-clause-exact : goal.returns-clause-exact
returns-clause-exact c set first acts request h told =
    let act = c.args.act.now in
    let named = c.args.named.now in
    subst (λ b. IsTrue b ↔ MayCome set first acts request act named) (sym c.join.ensures.test ∙ c.if-not-join.false)
    (joined-exact set first acts request c.args.self.now act c.args.ahead c.args.about c.args.depth h told named c.requires.later
    c.requires.joined (sym c.owes_fence.ensures ∙ c.if-owes_fence.false))

pub returns-clause-goes : goal.returns-clause-goes
returns-clause-goes c done set first acts request h told =
    let act = c.args.act.now in
    let named = c.args.named.now in
    let test = sym c.join.ensures.test ∙ c.if-not-join.false in
    let may = (joined-exact set first acts request c.args.self.now act c.args.ahead c.args.about c.args.depth h told named c.requires.later
    c.requires.joined (sym c.owes_fence.ensures ∙ c.if-owes_fence.false)).0 test in
    let small = subst (λ n. n < 64) c.number-small.ensures.same c.number-small.ensures.below in
    joined set first acts request c.args.self.now act c.args.ahead c.args.about c.args.depth h told small named c.requires.joined may
    test _ refl (c.join.ensures.joined c.if-not-join.false) c.in_ok-tell.ensures.doubts c.in_ok-tell.ensures.lasts refl
