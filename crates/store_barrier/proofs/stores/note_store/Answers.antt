use Rattle.std.proofs.Common.{sym, ◌∙◌, ap}
use Rattle.std.specs.Prelude.{is_some}
use Rattle.converter.proofs.Looked.{none_some}
use Rattle.store_barrier.specs.Barriers.{kept_value, spaces_of}
use Rattle.store_barrier.proofs.Holders.{has_slot, held, leads}
use Rattle.store_barrier.proofs.Lines.{claimed_outside, line_noted, line_within, notes_none, notes_told}
use Rattle.store_barrier.proofs.stores.note_store.Goals as goal

pub claimed_by-requires : goal.claimed_by-requires
claimed_by-requires g c =
    let s = spaces_of c.args.spaces.now in
    let x = c.in-Slot in
    let a = c.requires.agrees in
    record {
      object = leads s a.es x.holder x.object x.index
          (held s c.args.store.now a.es x.holder x.object x.index c.requires.can x.is a.stands);
    }

pub copied_line-requires : goal.copied_line-requires
copied_line-requires g c =
    let s = spaces_of c.args.spaces.now in
    let x = c.in-Slot in
    let a = c.requires.agrees in
    record {
      slot = has_slot s a.es x.holder x.object x.index
          (held s c.args.store.now a.es x.holder x.object x.index c.requires.can x.is a.stands);
    }

pub dirty-requires-clause-below : goal.dirty-requires-clause-below
dirty-requires-clause-below g c =
    let s = spaces_of c.args.spaces.now in
    let x = c.in-Slot in
    let a = c.requires.agrees in
    let h = held s c.args.store.now a.es x.holder x.object x.index c.requires.can x.is a.stands in
    let at = h.at in
    let l = c.in-Some-copied_line.ensures.copied a.es x.object at.stands.lies at.below at.names h.slot in
    line_within s c.args.queue.now a x.holder x.object x.index c.in-Some-copied_line.line h l.0 l.1

pub dirty-requires-clause-alone : goal.dirty-requires-clause-alone
dirty-requires-clause-alone g c =
    let s = spaces_of c.args.spaces.now in
    let x = c.in-Slot in
    let a = c.requires.agrees in
    let h = held s c.args.store.now a.es x.holder x.object x.index c.requires.can x.is a.stands in
    let at = h.at in
    let l = c.in-Some-copied_line.ensures.copied a.es x.object at.stands.lies at.below at.names h.slot in
    let claimed = (c.claimed_by.ensures.claimer a.es x.object at.stands.lies at.below at.names c.in-Some.t).0
    c.in-Some.is in
    line_noted s c.args.queue.now a x.holder x.object x.index c.in-Some-copied_line.line c.in-Some.t h l.0 l.1
    claimed

pub returns-clause-notes : goal.returns-clause-notes
returns-clause-notes g c = λ es stands.
    let s = spaces_of c.args.spaces.now in
    let x = c.in-Slot in
    let h = held s c.args.store.now es x.holder x.object x.index c.requires.can x.is stands in
    let at = h.at in
    let l = c.in-Some-copied_line.ensures.copied es x.object at.stands.lies at.below at.names h.slot in
    let claimed = (c.claimed_by.ensures.claimer es x.object at.stands.lies at.below at.names c.in-Some.t).0
    c.in-Some.is in
    notes_told c.args.store.now (kept_value s c.args.store.now) es x.holder x.object x.index
    c.in-Some-copied_line.line c.in-Some.t c.args.queue.now c.dirty.new.self x.is claimed l.0 l.1
    c.dirty.ensures.noted

pub returns-clause-durable : goal.returns-clause-durable
returns-clause-durable g c = λ es stands durable.
    let s = spaces_of c.args.spaces.now in
    let x = c.in-Slot in
    let at = (held s c.args.store.now es x.holder x.object x.index c.requires.can x.is stands).at in
    let claimed = (c.claimed_by.ensures.claimer es x.object at.stands.lies at.below at.names c.in-Some.t).0
    c.in-Some.is in
    absurd (claimed_outside s c.args.store.now es x.holder x.object x.index c.in-Some.t x.is claimed durable)

pub returns-in_default-claimed_by-clause-notes : goal.returns-in_default-claimed_by-clause-notes
returns-in_default-claimed_by-clause-notes g c = λ es stands.
    let s = spaces_of c.args.spaces.now in
    let x = c.in-Slot in
    let at = (held s c.args.store.now es x.holder x.object x.index c.requires.can x.is stands).at in
    notes_none c.args.store.now (kept_value s c.args.store.now) es x.holder x.object x.index
    c.args.queue.now x.is
    (λ u claimed _. none_some u (sym c.in_default-claimed_by.is
    ∙ (c.claimed_by.ensures.claimer es x.object at.stands.lies at.below at.names u).1 claimed))

pub returns-in_default-copied_line-clause-notes : goal.returns-in_default-copied_line-clause-notes
returns-in_default-copied_line-clause-notes g c = λ es stands.
    let s = spaces_of c.args.spaces.now in
    let x = c.in-Slot in
    let at = (held s c.args.store.now es x.holder x.object x.index c.requires.can x.is stands).at in
    notes_none c.args.store.now (kept_value s c.args.store.now) es x.holder x.object x.index
    c.args.queue.now x.is
    (λ u _. c.copied_line.ensures.none es x.object at.stands.lies at.below at.names
    (ap is_some c.in_default-copied_line.is))
