use Rattle.std.proofs.Common.{◌≡◌, ◌<◌, ◌≤◌, List, length, get_or, subst, arith}
use Rattle.turnstile.specs.declared.pass.Pass.{Pass}
use Rattle.turnstile.proofs.Closing.{missed, zero_test, counted_all}
use Rattle.turnstile.proofs.turnstile.Turnstile.are_all.Goals as goal

pub returns-then-pass-missing : goal.returns-then-pass-missing
returns-then-pass-missing g c =
    let Q = List (Pass g.row.T.Denot g.row.T-Entry.Denot g.row.T-Part.Denot g.T.Kept) in
    let l = c.loop-pass in
    let pass = c.pass-item.result in
    let same : c.deref-pass-items.result.now ≡ c.args.passes.now.items = cc c.deref-pass-items.ensures.value in
    let there = subst (λ (ps : Q). l.pass-index < length ps) same c.loop-pass-test.true in
    let is = subst (λ (ps : Q). pass ≡ get_or ps l.pass-index pass) same c.pass-item.is in
    (λ t. absurd (cc t), λ e. absurd (missed c.args.passes.now.items l.pass-index pass l.missing c.args.self.now.passes there is l.invariant c.if-pass-missing.true e))

pub returns : goal.returns
returns g c =
    let Q = List (Pass g.row.T.Denot g.row.T-Entry.Denot g.row.T-Part.Denot g.T.Kept) in
    let l = c.loop-pass in
    let same : c.deref-pass-items.result.now ≡ c.args.passes.now.items = cc c.deref-pass-items.ensures.value in
    let past = subst (λ (ps : Q). length ps ≤ l.pass-index) same c.loop-pass-test.false in
    let all = counted_all c.args.passes.now.items l.pass-index past in
    zero_test l.missing _ c.args.self.now.passes (let i = l.invariant in omega arith)
