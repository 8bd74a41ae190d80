use Rattle.std.proofs.Common.{rules}
use Rattle.space_rows.specs.Worlds.{spaces_of}
use Rattle.space_rows.proofs.Asking.{ask_refer_static}
use Rattle.space_rows.proofs.world.World.refer_static.Goals as goal

pub step-requires-clause-may : goal.step-requires-clause-may
step-requires-clause-may g c =
    let s = spaces_of c.args.self.now.spaces in
    let h = c.requires.holds in
    ask_refer_static _ s h.table h.whole.stands c.args.self.now.rest _ _ c.args.field c.named-value.result c.requires.field c.requires.kind c.named-value.ensures.known
    (c.has_line.ensures.line (search (rules, c.if-not-has_line.false)))
