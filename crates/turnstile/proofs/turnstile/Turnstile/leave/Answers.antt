use Rattle.std.proofs.Common.{◌∙◌, ap, arith}
use Rattle.turnstile.proofs.Known.{left_says, slots_holding}
use Rattle.turnstile.proofs.turnstile.Turnstile.leave.Goals as goal

pub end_turn-requires-clause-holds : goal.end_turn-requires-clause-holds
end_turn-requires-clause-holds g c κs within =
    let p = c.args.pass.now in
    (c.requires.holding, p.slots ∙ slots_holding p.seat.me.0.phase c.requires.holding)

pub end_turn-requires-clause-adds : goal.end_turn-requires-clause-adds
end_turn-requires-clause-adds g c κs within = (c.requires.entries, c.requires.parts)

pub returns : goal.returns
returns g c =
    let p = c.args.pass.now in
    let e = c.end_turn.ensures in
    let n = p.counted in
    let l = left_says g.T.Kept.worker p.seat.me.0.hands _ _ _ (omega arith) (ap (λ m. m.0.hands) e.left) e.agree in
    record {
      of = e.of ∙ c.requires.of;
      idle = ap (λ m. m.0.phase) e.left;
      number = l.number;
      stock = l.further;
      entries = l.entries;
      part = l.part;
      left = l.left;
    }
