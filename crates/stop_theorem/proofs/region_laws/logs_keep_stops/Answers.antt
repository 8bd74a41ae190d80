use Rattle.stop_theorem.proofs.Kept.{log_words_keep, raised_keeps}
use Rattle.stop_theorem.proofs.region_laws.logs_keep_stops.Goals as goal

pub returns-clause-words : goal.returns-clause-words
returns-clause-words c = log_words_keep

pub returns-clause-raised : goal.returns-clause-raised
returns-clause-raised c = raised_keeps
