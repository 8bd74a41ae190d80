use Rattle.std.proofs.Common.{◌≡◌, ◌∙◌, subst, sym, ap}
use Rattle.turnstile.specs.Hands.{Agree}
use Rattle.turnstile.specs.Entries.{entries_by}
use Rattle.turnstile.specs.Views.{is_holding}
use Rattle.turnstile.proofs.Ends.{closes}
use Rattle.turnstile.proofs.turnstile.Turnstile.open.Goals as goal

pub unreachable-requires : goal.unreachable-requires
unreachable-requires g c =
    let f = closes g.T.Kept.worker g.T.Kept.entries g.T.Kept.parts c.args.self.table.shared.key.0 c.args.seat.id c.args.seat.me.0 _ _ (ap (λ f. is_holding f) c.requires.idle)
    (c.requires.all ∙ sym c.args.self.counted) c.close_with-closed.ensures.values.2 in
    cc (f.1, c.take-value.ensures.value, c.in-None.is)

pub returns-clause-agree : goal.returns-clause-agree
returns-clause-agree g c =
    let f = closes g.T.Kept.worker g.T.Kept.entries g.T.Kept.parts c.args.self.table.shared.key.0 c.args.seat.id c.args.seat.me.0 _ _ (ap (λ f. is_holding f) c.requires.idle)
    (c.requires.all ∙ sym c.args.self.counted) c.close_with-closed.ensures.values.2 in
    let same : f.0 ≡ c.in-Some.value = cc (f.1, c.take-value.ensures.value, c.in-Some.is) in
    subst (λ (x : g.row.T.Denot). Agree g.T.Kept.worker c.args.seat.me.0.hands (g.T.Kept.entries x) (g.T.Kept.parts x)) same f.2

pub returns-clause-no_other : goal.returns-clause-no_other
returns-clause-no_other g c n none_here =
    let f = closes g.T.Kept.worker g.T.Kept.entries g.T.Kept.parts c.args.self.table.shared.key.0 c.args.seat.id c.args.seat.me.0 _ _ (ap (λ f. is_holding f) c.requires.idle)
    (c.requires.all ∙ sym c.args.self.counted) c.close_with-closed.ensures.values.2 in
    let same : f.0 ≡ c.in-Some.value = cc (f.1, c.take-value.ensures.value, c.in-Some.is) in
    ap (λ (x : g.row.T.Denot). entries_by g.T.Kept.worker n (g.T.Kept.entries x)) (sym same) ∙ f.3 n none_here
