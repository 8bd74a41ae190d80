use Rattle.std.proofs.Common.{refl, sym}
use Rattle.monitors.specs.Held.{IsAt, IsFree}
use Rattle.monitors.specs.Indexed.{IsIndex}
use Rattle.monitors.proofs.Firsts.{rekeyed_free}
use Rattle.monitors.proofs.Becomes.{set_rekeyed, held_rekeyed, index_set}
use Rattle.monitors.proofs.monitors.Monitors.rekey.Goals as goal

pub returns-in_default : goal.returns-in_default
returns-in_default c =
    let free : IsFree c.args.self.now c.args.from = rw (← c.self.view_is, ← c.deref.ensures.value) (c.in_default.ensures.none refl) in
    record { rekeyed = sym (rekeyed_free c.args.self.now c.args.from c.args.to free) }

pub link_from-requires-clause-before : goal.link_from-requires-clause-before
link_from-requires-clause-before c =
    let before : IsIndex c.self.inside.held.items c.unlink_from.new.self.latest.items c.unlink_from.new.self.earlier.items c.in-Some.at
    = rw (← c.deref-2.ensures.value) c.unlink_from.ensures.unlinked in
    rw c.deref-3.ensures.value (index_set c.self.inside.held.items c.unlink_from.new.self.latest.items c.unlink_from.new.self.earlier.items c.in-Some.at _ before)

pub invariant_of-self : goal.invariant_of-self
invariant_of-self c =
    let at : IsAt c.self.inside.held.items c.args.from c.in-Some.at = rw (← c.deref.ensures.value) c.in-Some.ensures.found in
    held_rekeyed c.self.inside.held.items c.args.from c.args.to _ c.in-Some.at c.link_from.new.self.latest.items c.link_from.new.self.earlier.items
    c.index_mut.result.now c.self.invariant.sound c.self.invariant.few c.self.invariant.fit (rw c.self.view_is c.requires.free) at
    c.index_mut.ensures.value (rw (← c.deref-3.ensures.value) c.link_from.ensures.linked)

pub returns : goal.returns
returns c =
    let at : IsAt c.self.inside.held.items c.args.from c.in-Some.at = rw (← c.deref.ensures.value) c.in-Some.ensures.found in
    record {
      rekeyed = rw (← c.self.view_is) (set_rekeyed c.self.inside.held.items c.args.from c.args.to c.in-Some.at c.index_mut.result.now
          c.self.invariant.sound at c.index_mut.ensures.value);
    }
