use Rattle.convert_words.proofs.Converted.{sealed_converts}
use Rattle.convert_words.proofs.StepLaws.{settled_sets_are_closed, seals_keep, seals_make_durable}
use Rattle.convert_words.proofs.laws.seals_are_fenced_and_closed.Goals as goal

pub returns-clause-closed : goal.returns-clause-closed
returns-clause-closed c = settled_sets_are_closed

pub returns-clause-sealed : goal.returns-clause-sealed
returns-clause-sealed c = seals_keep

pub returns-clause-durable : goal.returns-clause-durable
returns-clause-durable c = seals_make_durable

pub returns-clause-converts : goal.returns-clause-converts
returns-clause-converts c = sealed_converts
