use Rattle.std.proofs.Common.{◌∙◌, ℕ, ap}
use Rattle.std.specs.Prelude.{slice_set}
use Rattle.workers.specs.Shared.{values_of}
use Rattle.workers.proofs.Frames.{values-set}
use Rattle.workers.proofs.notes.note.Goals as goal

pub returns : goal.returns
returns c = values-set c.args.notes.now.items c.number.result c.of.result c.args.frames.now c.of.ensures
    ∙ ap (λ (t : ℕ). slice_set (values_of c.args.notes.now.items) t c.args.frames.now) c.number.ensures.same
