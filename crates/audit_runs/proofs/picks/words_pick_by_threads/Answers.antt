use Rattle.std.proofs.Common.{refl}
use Rattle.audit_runs.proofs.picks.words_pick_by_threads.Goals as goal

pub returns : goal.returns
returns c = record { none = refl; first = refl; second = refl; both = refl; third = refl }
