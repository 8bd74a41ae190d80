use Rattle.run_types.specs.declared.limits.Limits.{Limits}
use Rattle.audit_runs.proofs.beginning.begin.Goals as goal

pub returns-clause-at : goal.returns-clause-at
returns-clause-at c = λ (limits : Limits). record { stands = c.in_ok-run.ensures.stands limits; kept = c.in_ok-kept.ensures.kept }
