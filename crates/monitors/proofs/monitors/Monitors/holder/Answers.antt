use Rattle.std.proofs.Common.{refl, sym, ap}
use Rattle.monitors.specs.Held.{IsAt, IsFree, owner_of}
use Rattle.monitors.proofs.Firsts.{held_free}
use Rattle.monitors.proofs.Becomes.{owner_found}
use Rattle.monitors.proofs.monitors.Monitors.holder.Goals as goal

pub returns-in-Some : goal.returns-in-Some
returns-in-Some c =
    let at : IsAt c.self.inside.held.items c.args.key c.in-Some.at = rw (← c.deref.ensures.value) c.in-Some.ensures.found in
    record { holder = rw (← c.self.view_is) (owner_found c.self.inside.held.items c.args.key c.in-Some.at c.index.result.now c.self.invariant.sound at c.index.ensures) }

pub returns-in-None : goal.returns-in-None
returns-in-None c =
    let free : IsFree c.args.self.now c.args.key = rw (← c.self.view_is, ← c.deref.ensures.value) (c.in-None.ensures.none refl) in
    record { holder = sym (ap owner_of (held_free c.args.self.now c.args.key free)) }
