use Rattle.std.proofs.Common.{arith, ◌∙◌}
use Rattle.turnstile.proofs.Known.{own_agrees, slots_idle}
use Rattle.turnstile.proofs.turnstile.Turnstile.enter.Goals as goal

pub take_turn-requires-clause-empty : goal.take_turn-requires-clause-empty
take_turn-requires-clause-empty g c κs within = let p = c.args.pass.now in p.slots ∙ slots_idle p.seat.me.0.phase c.requires.idle

pub returns-clause-entries : goal.returns-clause-entries
returns-clause-entries g c =
    let p = c.args.pass.now in
    let n = p.counted in
    (own_agrees g.T.Kept.worker p.seat.me.0.hands _ _ (omega arith) c.take_turn.ensures.agree).0

pub returns-clause-part : goal.returns-clause-part
returns-clause-part g c =
    let p = c.args.pass.now in
    let n = p.counted in
    (own_agrees g.T.Kept.worker p.seat.me.0.hands _ _ (omega arith) c.take_turn.ensures.agree).1

pub returns-clause-before : goal.returns-clause-before
returns-clause-before g c =
    let p = c.args.pass.now in
    let n = p.counted in
    (own_agrees g.T.Kept.worker p.seat.me.0.hands _ _ (omega arith) c.take_turn.ensures.agree).2
