use Rattle.std.proofs.Common.{sym, ◌∙◌}
use Rattle.std.proofs.lemmas.Bool.{false≢true}
use Rattle.store_barrier.specs.Barriers.{spaces_of}
use Rattle.store_barrier.proofs.Holders.{has_slot, held, leads}
use Rattle.store_barrier.proofs.Spots.{spot_durable, spot_inside, spot_other}
use Rattle.store_barrier.proofs.barrier.durable_spot.Goals as goal

pub in_p-requires : goal.in_p-requires
in_p-requires g c =
    let s = spaces_of c.args.spaces.now in
    let x = c.in-Slot in
    let w = c.requires.whole in
    record {
      object = leads s w.0 x.holder x.object x.index
          (held s c.args.store.now w.0 x.holder x.object x.index c.requires.can x.is w.1);
    }

pub copied_line-requires : goal.copied_line-requires
copied_line-requires g c =
    let s = spaces_of c.args.spaces.now in
    let x = c.in-Slot in
    let w = c.requires.whole in
    record {
      slot = has_slot s w.0 x.holder x.object x.index
          (held s c.args.store.now w.0 x.holder x.object x.index c.requires.can x.is w.1);
    }

pub returns-then-in_p-clause-spot : goal.returns-then-in_p-clause-spot
returns-then-in_p-clause-spot g c = λ es stands.
    let s = spaces_of c.args.spaces.now in
    let x = c.in-Slot in
    let h = held s c.args.store.now es x.holder x.object x.index c.requires.can x.is stands in
    let at = h.at in
    let l = c.copied_line.ensures in
    spot_durable s c.args.store.now es x.holder x.object x.index c.copied_line.result c.slot_in.result x.is
    ((c.in_p.ensures.durable es x.object at.stands.lies at.below at.names).0 c.if-in_p.true)
    (l.copied es x.object at.stands.lies at.below at.names h.slot)
    (l.none es x.object at.stands.lies at.below at.names) c.slot_in.ensures.some c.slot_in.ensures.none

pub returns-then-in_p-clause-inside : goal.returns-then-in_p-clause-inside
returns-then-in_p-clause-inside g c =
    let s = spaces_of c.args.spaces.now in
    let x = c.in-Slot in
    let w = c.requires.whole in
    let h = held s c.args.store.now w.0 x.holder x.object x.index c.requires.can x.is w.1 in
    let at = h.at in
    spot_inside s w.0 x.holder x.object x.index c.copied_line.result c.slot_in.result h
    (c.copied_line.ensures.copied w.0 x.object at.stands.lies at.below at.names h.slot) c.slot_in.ensures.some

pub returns-else-in_p-clause-spot : goal.returns-else-in_p-clause-spot
returns-else-in_p-clause-spot g c = λ es stands.
    let s = spaces_of c.args.spaces.now in
    let x = c.in-Slot in
    let at = (held s c.args.store.now es x.holder x.object x.index c.requires.can x.is stands).at in
    spot_other s c.args.store.now es x.holder x.object x.index x.is
    (λ p. false≢true (sym c.if-in_p.false
    ∙ (c.in_p.ensures.durable es x.object at.stands.lies at.below at.names).1 p))
