use Rattle.std.proofs.Common.{◌≡◌, ◌<◌, ◌↔◌, ◌∙◌, [], IsTrue, refl, subst, sym}
use Rattle.audit_acts.specs.Keeps.{MayCome}
use Rattle.audit_acts.proofs.Judging.{may-take, taken, test-exact}
use Rattle.audit_acts.proofs.kept.Kept.judge_one.Goals as goal

pub returns-then-not-may_come-clause-exact : goal.returns-then-not-may_come-clause-exact
returns-then-not-may_come-clause-exact c set first acts request h told =
    let act = c.args.act.now in
    subst (λ b. IsTrue b ↔ MayCome set first acts request act []) (sym c.may_come.ensures ∙ c.if-not-may_come.true)
    (test-exact set first acts request c.args.self.now act c.args.ahead c.args.about c.args.depth h told c.requires.few c.requires.later
    c.requires.other)

pub take-requires-clause-may : goal.take-requires-clause-may
take-requires-clause-may c =
    let j = c.requires.judged in
    let act = c.args.act.now in
    let may = (test-exact j.set j.first j.acts j.request c.args.self.now act c.args.ahead c.args.about c.args.depth j.kept j.told
    c.requires.few c.requires.later c.requires.other).0 (sym c.may_come.ensures ∙ c.if-not-may_come.false) in
    may-take j.set j.first j.acts j.request c.args.self.now act c.args.ahead c.args.about c.args.depth j.kept j.told c.requires.few may
    c.requires.other

pub returns-clause-exact : goal.returns-clause-exact
returns-clause-exact c set first acts request h told =
    let act = c.args.act.now in
    subst (λ b. IsTrue b ↔ MayCome set first acts request act []) (sym c.may_come.ensures ∙ c.if-not-may_come.false)
    (test-exact set first acts request c.args.self.now act c.args.ahead c.args.about c.args.depth h told c.requires.few c.requires.later
    c.requires.other)

pub returns-clause-goes : goal.returns-clause-goes
returns-clause-goes c done set first acts request h told =
    let act = c.args.act.now in
    let may = (test-exact set first acts request c.args.self.now act c.args.ahead c.args.about c.args.depth h told
    c.requires.few c.requires.later c.requires.other).0 (sym c.may_come.ensures ∙ c.if-not-may_come.false) in
    let small = subst (λ n. n < 64) c.number-small.ensures.same c.number-small.ensures.below in
    taken set first acts request c.args.self.now act c.args.ahead c.args.about c.args.depth h told c.requires.few may small
    c.requires.other _ c.in_ok-take.ensures
