use Rattle.std.proofs.Common.{◌≡◌, ◌%◌, ◌==◌, Bool, true, MatchBool, Option, subst, arith}
use Rattle.std.proofs.lemmas.Bool.Decides.{nat_tests}
use Rattle.atomic_table.specs.Table.{Me}
use Rattle.turnstile.specs.declared.view.View.{View}
use Rattle.turnstile.specs.Rules.{Found}
use Rattle.turnstile.proofs.turnstile.Turnstile.looks.Goals as goal

pub returns-then-serving-ticket-clause-found : goal.returns-then-serving-ticket-clause-found
returns-then-serving-ticket-clause-found g c =
    let M = Me (Option g.row.T.Denot) (View g.row.T-Entry.Denot g.row.T-Part.Denot) in
    let was = c.args.seat.now.me in
    let now = c.look-serving.new.seat.me in
    let looked = subst (λ (m : M). MatchBool (c.look-serving.result == m.0.ticket % 18446744073709551616) (Found g.T.Kept.worker g.T.Kept.entries g.T.Kept.parts m now)
    (now ≡ m)) c.loop-looks.invariant.1 c.look-serving.ensures.looked in
    let yes : (c.look-serving.result == was.0.ticket % 18446744073709551616) ≡ true = grind (arith, nat_tests, c.if-serving-ticket.true, c.requires.ticket) in
    subst (λ (b : Bool). MatchBool b (Found g.T.Kept.worker g.T.Kept.entries g.T.Kept.parts was now) (now ≡ was)) yes looked
