use Rattle.convert_waits.proofs.Waiting.{conversions_never_stick, waits_come_settled}
use Rattle.convert_waits.proofs.laws.conversions_are_never_stuck.Goals as goal

pub returns-clause-never : goal.returns-clause-never
returns-clause-never c = conversions_never_stick

pub returns-clause-settled : goal.returns-clause-settled
returns-clause-settled c = waits_come_settled
