use Rattle.std.proofs.Common.{◌≡◌, ◌+◌, arith}
use Rattle.twin_forms.specs.Table.{entry, HasCopied, line_of}
use Rattle.store_barrier.specs.Barriers.{spaces_of}
use Rattle.store_barrier.proofs.Holders.{has_first, held, holds_where, told_where}
use Rattle.store_barrier.proofs.barrier.holds_durable.Goals as goal

pub copied_line-requires : goal.copied_line-requires
copied_line-requires g c =
    let s = spaces_of c.args.spaces.now in
    let x = c.in-Slot in
    let w = c.requires.whole in
    record {
      slot = has_first s w.0 x.holder x.object x.index
          (held s c.args.store.now w.0 x.holder x.object x.index c.requires.can x.is w.1);
    }

pub returns-in-Slot : goal.returns-in-Slot
returns-in-Slot g c = λ es stands.
    let s = spaces_of c.args.spaces.now in
    let x = c.in-Slot in
    let h = held s c.args.store.now es x.holder x.object x.index c.requires.can x.is stands in
    let at = h.at in
    let lt = h.slot in
    let l = c.copied_line.ensures in
    let told = told_where c.copied_line.result (λ line. line ≡ (entry es x.object).line + line_of 0)
    (HasCopied (entry es x.object) (line_of 0)) c.is_some.result c.is_some.ensures
    (l.copied es x.object at.stands.lies at.below at.names (omega (arith, lt)))
    (l.none es x.object at.stands.lies at.below at.names) in
    holds_where s c.args.store.now es x.holder x.object x.index c.is_some.result x.is told.0 told.1
