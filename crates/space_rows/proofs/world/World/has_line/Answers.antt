use Rattle.space_rows.specs.Worlds.{spaces_of}
use Rattle.space_rows.proofs.Moving.{refers_to}
use Rattle.space_rows.proofs.world.World.has_line.Goals as goal

pub resolved-requires : goal.resolved-requires
resolved-requires c =
    let s = spaces_of c.args.self.now.spaces in
    let h = c.requires.holds.1 in
    let f = refers_to s h.table h.whole.stands c.args.r c.requires.known c.in_default.not-Null in
    record { object = (h.table, f.n, h.whole.stands.lies, f.below, f.names) }
