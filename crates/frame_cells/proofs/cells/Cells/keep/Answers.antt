use Rattle.std.proofs.Common.{◌≡◌, ◌-◌, ◌+◌, [], ◌∷◌, length, take, arith, slice_set}
use Rattle.std.proofs.lemmas.Grind.{common_steps}
use Rattle.frame_cells.proofs.Windows.{write-one, keep-window}
use Rattle.frame_cells.proofs.cells.Cells.keep.Goals as goal

pub returns-clause-own : goal.returns-clause-own
returns-clause-own g c =
    let i = c.self.inside in
    let o = write-one i.items.entries i.locals i.base c.args.at c.args.cell (omega arith) (omega arith) in
    let new = slice_set i.items.entries (i.locals + c.args.at) c.args.cell in
    let f : c.truncate.new.self.entries ≡ take (length new - c.args.taken) new = grind (arith, common_steps) in
    keep-window c.args.self.now i.items.entries new c.truncate.new.self.entries (c.args.cell ∷ []) i.locals i.base i.room
    c.args.taken c.args.at c.self.view_is o f
    (omega arith) (omega arith) (omega arith) (omega arith)
