use Rattle.std.proofs.Common.{◌≡◌, ◌-◌, ◌+◌, [], ◌∷◌, length, take, arith, slice_set}
use Rattle.std.proofs.lemmas.Grind.{common_steps}
use Rattle.frame_cells.specs.declared.cell.Cell.TheVariants.{Long, Half}
use Rattle.frame_cells.proofs.Windows.{write-two, keep-window}
use Rattle.frame_cells.proofs.cells.Cells.keep_long.Goals as goal

pub returns-clause-own : goal.returns-clause-own
returns-clause-own g c =
    let i = c.self.inside in
    let o = write-two i.items.entries i.locals i.base c.args.at (Long c.args.value) Half (omega arith) (omega arith)
    in
    let place = i.locals + c.args.at in
    let new = slice_set (slice_set i.items.entries place (Long c.args.value)) (place + 1) Half in
    let f : c.truncate.new.self.entries ≡ take (length new - c.args.taken) new = grind (arith, common_steps) in
    keep-window c.args.self.now i.items.entries new c.truncate.new.self.entries (Long c.args.value ∷ Half ∷ [])
    i.locals i.base i.room c.args.taken c.args.at
    c.self.view_is o f (omega arith) (omega arith) (omega arith) (omega arith)
