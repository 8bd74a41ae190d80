use Rattle.std.proofs.Common.{◌-◌, ◌++◌, ◌∙◌, replicate, ap, arith}
use Rattle.std.proofs.lemmas.Grind.{common_steps}
use Rattle.frame_cells.specs.declared.cell.Cell.TheVariants.{Empty}
use Rattle.frame_cells.proofs.Calls.{window-enter}
use Rattle.frame_cells.proofs.cells.Cells.enter.Goals as goal

pub returns : goal.returns
returns g c =
    let i = c.self.inside in
    let new = replicate (c.args.locals - c.args.args) Empty in
    let f = c.fill.ensures.entries ∙ ap (λ entries. entries ++ new) c.make_ready.ensures.entries in
    let e = window-enter c.args.self.now i.items.entries new
    c.fill.new.items.entries i.locals i.base i.room c.args.room c.args.args c.self.view_is f
    (omega arith) (omega arith) (omega arith) in
    grind (arith, common_steps, e)
