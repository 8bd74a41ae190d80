use Rattle.std.proofs.Common.{◌≡◌, ◌-◌, ◌++◌, [], ◌∷◌, length, take, arith}
use Rattle.std.proofs.lemmas.Grind.{common_steps}
use Rattle.frame_cells.specs.declared.cell.Did.TheVariants.{Next}
use Rattle.frame_cells.proofs.Windows.{put-window}
use Rattle.frame_cells.proofs.cells.Cells.put.Goals as goal

pub returns-clause-own : goal.returns-clause-own
returns-clause-own g c =
    let i = c.self.inside in
    let e : c.push.new.self.entries ≡ take (length i.items.entries - c.args.taken) i.items.entries ++ (c.args.cell ∷ []) =
    grind (arith, common_steps) in
    put-window c.args.self.now i.items.entries (c.args.cell ∷ []) (c.push.new.self.entries) i.locals i.base i.room
    c.args.taken
    Next c.self.view_is e (omega arith) (omega arith) (omega arith) (omega arith)
