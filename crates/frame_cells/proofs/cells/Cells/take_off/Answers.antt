use Rattle.std.proofs.Common.{◌≡◌, ◌-◌, ◌++◌, [], length, take, arith}
use Rattle.std.proofs.lemmas.Grind.{common_steps}
use Rattle.frame_cells.proofs.Windows.{put-window, window-depth}
use Rattle.frame_cells.proofs.cells.Cells.take_off.Goals as goal

pub returns-clause-own : goal.returns-clause-own
returns-clause-own g c =
    let i = c.self.inside in
    let e : c.truncate.new.self.entries ≡ take (length i.items.entries - c.args.taken) i.items.entries ++ ([]) =
    grind (arith, common_steps) in
    put-window c.args.self.now i.items.entries ([]) (c.truncate.new.self.entries) i.locals i.base i.room c.args.taken
    c.args.did
    c.self.view_is e (omega arith) (omega arith) (omega arith)
    (omega (arith, window-depth c.args.self.now i.items.entries i.locals i.base i.room c.self.view_is))
