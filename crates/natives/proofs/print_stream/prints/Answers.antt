use Rattle.std.proofs.Common.{◌≡◌, ap, sym, ◌∙◌}
use Rattle.natives.specs.Coded.{items}
use Rattle.natives.specs.Positions as move
use Rattle.natives.proofs.Ends.{all_printed}
use Rattle.natives.proofs.print_stream.prints.Goals as goal

-- all of the piece is printed
pub returns-in-None : goal.returns-in-None
returns-in-None c = c.resumes.ensures
    ∙ ap (λ left. move.prints items c.args.to c.args.reading c.args.rest left)
    (sym (all_printed c.max.result c.args.count c.args.piece c.max.ensures c.in-None.ensures.some.1))
