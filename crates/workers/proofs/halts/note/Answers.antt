use Rattle.std.proofs.Common.{◌∙◌, None, ap, sym}
use Rattle.std.specs.Prelude.{slice_set}
use Rattle.std.proofs.lemmas.List.{set-get_or}
use Rattle.workers.proofs.halts.note.Goals as goal

pub returns-in_default : goal.returns-in_default
returns-in_default c = sym (set-get_or c.args.waits.now c.args.t None)
    ∙ ap (slice_set c.args.waits.now c.args.t) (c.requires ∙ sym c.in_default.is)
