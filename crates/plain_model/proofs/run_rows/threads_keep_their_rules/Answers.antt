use Rattle.plain_model.proofs.Waiting.{acts_are_in_order, threads_wait, monitors_exclude}
use Rattle.plain_model.proofs.run_rows.threads_keep_their_rules.Goals as goal

pub returns : goal.returns
returns c = record { order = acts_are_in_order; waits = threads_wait; monitors = monitors_exclude }
