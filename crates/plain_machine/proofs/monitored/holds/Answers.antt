use Rattle.std.proofs.Common.{◌∙◌, ap, refl, sym, subst}
use Rattle.monitors.specs.Held.{exited, IsHeldBy, monitor_of}
use Rattle.plain_machine.proofs.Entered.{own-held, tried-same}
use Rattle.plain_machine.proofs.monitored.holds.Goals as goal

pub returns-in-Taken-clause-same : goal.returns-in-Taken-clause-same
returns-in-Taken-clause-same c =
    let now = c.in-Taken.ensures.taken refl in
    let own = own-held c.args.monitors.now c.args.key c.another-other.result c.in-Taken.ensures.answer in
    let ok = c.exit-left.ensures.owner.1 (subst (λ ms. IsHeldBy c.another-other.result
    (monitor_of ms c.args.key)) (sym now) own) in
    c.exit-left.ensures.left ok ∙ ap (λ ms. exited ms c.args.key) now
    ∙ tried-same c.args.monitors.now c.args.key c.another-other.result c.requires.entered c.requires.counts
