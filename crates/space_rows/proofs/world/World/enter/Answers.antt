use Rattle.space_rows.specs.Worlds.{spaces_of}
use Rattle.space_rows.proofs.Asking.{ask_enter}
use Rattle.space_rows.proofs.world.World.enter.Goals as goal

pub step-requires-clause-may : goal.step-requires-clause-may
step-requires-clause-may g c =
    let s = spaces_of c.args.self.now.spaces in
    let h = c.requires.holds in
    ask_enter _ s h.table h.whole.stands c.args.self.now.rest _ _ c.named.result c.named.ensures.known
