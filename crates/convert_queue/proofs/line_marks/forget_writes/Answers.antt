use Rattle.std.proofs.Common.{ap, ◌∙◌, arith, slice_set}
use Rattle.std.proofs.lemmas.List.Edits.{map_over_more}
use Rattle.convert_queue.specs.declared.line_marks.Note.{Note}
use Rattle.convert_queue.specs.Notes.{without_write}
use Rattle.convert_queue.proofs.line_marks.forget_writes.Goals as goal

pub loop-i-preserved : goal.loop-i-preserved
loop-i-preserved c =
    ap (λ (note : Note). slice_set c.loop-i.notes.items c.loop-i.i note) c.forgotten.ensures.forgotten
    ∙ map_over_more without_write c.args.notes.now.items c.loop-i.notes.items c.loop-i.i c.index.result.now (omega arith) c.loop-i.invariant c.index.ensures
