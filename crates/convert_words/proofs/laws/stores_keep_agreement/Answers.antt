use Rattle.convert_words.proofs.StepLaws.{copied_stores_keep, old_stores_keep, ordinary_stores_keep, durable_stores_keep}
use Rattle.convert_words.proofs.StepLaws.{other_stores_keep, new_objects_keep}
use Rattle.convert_words.proofs.laws.stores_keep_agreement.Goals as goal

pub returns-clause-copied : goal.returns-clause-copied
returns-clause-copied c = copied_stores_keep

pub returns-clause-old : goal.returns-clause-old
returns-clause-old c = old_stores_keep

pub returns-clause-ordinary : goal.returns-clause-ordinary
returns-clause-ordinary c = ordinary_stores_keep

pub returns-clause-durable : goal.returns-clause-durable
returns-clause-durable c = durable_stores_keep

pub returns-clause-others : goal.returns-clause-others
returns-clause-others c = other_stores_keep

pub returns-clause-new : goal.returns-clause-new
returns-clause-new c = new_objects_keep
