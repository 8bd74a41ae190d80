use Rattle.plain_model.proofs.Limits.{logs_hold_1024, monitors_are_4096}
use Rattle.plain_model.proofs.run_laws.limits_are_reached.Goals as goal

pub returns : goal.returns
returns c = record { logs = logs_hold_1024; monitors = monitors_are_4096 }
