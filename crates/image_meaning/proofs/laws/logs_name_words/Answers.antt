use Rattle.image_meaning.proofs.Naming.{one_log, some_log, logs_outside}
use Rattle.image_meaning.proofs.laws.logs_name_words.Goals as goal

pub returns-clause-one : goal.returns-clause-one
returns-clause-one _ c line word = (one_log c line word, some_log c line word)

pub returns-clause-same : goal.returns-clause-same
returns-clause-same _ size c d pass same = logs_outside size c d pass same
