use Rattle.told_runs.proofs.Told.{run-told}
use Rattle.told_runs.proofs.laws.runs_are_read_as_they_were_written.Goals as goal

pub returns : goal.returns
returns g c = λ set main opening code acts keep run held few kept.
    c.what_is_written_is_read.ensures acts keep (run-told set main opening code acts keep run held few kept)
