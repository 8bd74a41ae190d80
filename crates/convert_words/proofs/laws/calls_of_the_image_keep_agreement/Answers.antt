use Rattle.convert_words.proofs.StepLaws.{calls_keep, told_writes_keep, told_fences_keep}
use Rattle.convert_words.proofs.laws.calls_of_the_image_keep_agreement.Goals as goal

pub returns-clause-calls : goal.returns-clause-calls
returns-clause-calls c = calls_keep

pub returns-clause-written : goal.returns-clause-written
returns-clause-written c = told_writes_keep

pub returns-clause-fenced : goal.returns-clause-fenced
returns-clause-fenced c = told_fences_keep
