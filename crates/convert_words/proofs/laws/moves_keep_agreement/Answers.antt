use Rattle.convert_words.proofs.Converted.{durable_set, durable_claimed}
use Rattle.convert_words.proofs.StepLaws.{claims_keep, copies_keep, forwards_keep, repairs_keep}
use Rattle.convert_words.proofs.laws.moves_keep_agreement.Goals as goal

pub returns-clause-claimed : goal.returns-clause-claimed
returns-clause-claimed c = claims_keep

pub returns-clause-copied : goal.returns-clause-copied
returns-clause-copied c = copies_keep

pub returns-clause-forwarded : goal.returns-clause-forwarded
returns-clause-forwarded c = forwards_keep

pub returns-clause-repaired : goal.returns-clause-repaired
returns-clause-repaired c = repairs_keep

pub returns-clause-own : goal.returns-clause-own
returns-clause-own c = durable_set

pub returns-clause-none : goal.returns-clause-none
returns-clause-none c = durable_claimed
