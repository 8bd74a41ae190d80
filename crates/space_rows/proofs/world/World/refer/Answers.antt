use Rattle.std.proofs.Common.{rules}
use Rattle.space_rows.specs.Worlds.{spaces_of}
use Rattle.space_rows.proofs.Asking.{ask_put_ref}
use Rattle.space_rows.proofs.world.World.refer.Goals as goal

pub step-requires-clause-may : goal.step-requires-clause-may
step-requires-clause-may g c =
    let s = spaces_of c.args.self.now.spaces in
    let h = c.requires.holds in
    ask_put_ref _ s h.table h.whole.stands c.args.self.now.rest _ _ c.named-holder.result c.named-holder.ensures.known c.args.field c.named-value.result c.requires.field
    c.requires.kind c.named-value.ensures.known (c.may_refer.ensures.may (search (rules, c.if-not-may_refer.false)))
