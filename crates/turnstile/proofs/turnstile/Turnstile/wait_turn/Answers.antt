use Rattle.std.proofs.Common.{◌≡◌, Bool, MatchBool, Option, subst}
use Rattle.atomic_table.specs.Table.{Me}
use Rattle.turnstile.specs.declared.view.View.{View}
use Rattle.turnstile.specs.Rules.{Found}
use Rattle.turnstile.proofs.turnstile.Turnstile.wait_turn.Goals as goal

pub returns-then-not-looks-clause-found : goal.returns-then-not-looks-clause-found
returns-then-not-looks-clause-found g c =
    let M = Me (Option g.row.T.Denot) (View g.row.T-Entry.Denot g.row.T-Part.Denot) in
    let was = c.args.seat.now.me in
    let between = c.looks.new.seat.me in
    let same : between ≡ was = subst (λ (b : Bool). MatchBool b (Found g.T.Kept.worker g.T.Kept.entries g.T.Kept.parts was between) (between ≡ was)) c.if-not-looks.true c.looks.ensures.found in
    subst (λ (m : M). Found g.T.Kept.worker g.T.Kept.entries g.T.Kept.parts m c.sleeps.new.seat.me) same c.sleeps.ensures.found
