use Rattle.std.proofs.Common.{◌≡◌, List, ap, subst}
use Rattle.turnstile.specs.declared.view.Hand.{Hand}
use Rattle.turnstile.specs.Hands.{Agree}
use Rattle.turnstile.proofs.Held.{same_held}
use Rattle.turnstile.proofs.turnstile.Turnstile.take_turn.Goals as goal

pub returns-clause-agree : goal.returns-clause-agree
returns-clause-agree g c =
    let f = c.wait_turn.ensures.found in
    let same : f.0 ≡ c.take.result = same_held c.wait_turn.new.seat.me.1 c.draw-ticket.new.seat.me.1 f.0 c.take.result (ap (λ m. m.1) f.1) c.take.ensures.taken.0 in
    subst (λ (hs : List (Hand g.row.T-Entry.Denot g.row.T-Part.Denot)). Agree g.T.Kept.worker hs (g.T.Kept.entries c.take.result) (g.T.Kept.parts c.take.result))
    (ap (λ m. m.0.hands) c.draw-ticket.ensures.drawn.2)
    (subst (λ (x : g.row.T.Denot). Agree g.T.Kept.worker c.draw-ticket.new.seat.me.0.hands (g.T.Kept.entries x) (g.T.Kept.parts x)) same f.2)
