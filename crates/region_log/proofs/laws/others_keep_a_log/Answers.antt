use Rattle.region_log.proofs.Frames.{undisturbed-call, undisturbed-put, keeps-on}
use Rattle.region_log.proofs.Others.{steps-keep, steps-region}
use Rattle.region_log.proofs.Placed.{words_of_log, end_words_of_log}
use Rattle.region_log.proofs.laws.others_keep_a_log.Goals as goal

pub returns-clause-calls : goal.returns-clause-calls
returns-clause-calls c log old new keeps kept = keeps-on log old new
    (undisturbed-call log.thread old new keeps) kept

pub returns-clause-stores : goal.returns-clause-stores
returns-clause-stores c log word old new put elsewhere kept = keeps-on log old new
    (undisturbed-put log.thread word old new put elsewhere) kept

pub returns-clause-steps : goal.returns-clause-steps
returns-clause-steps c = record {
  own = words_of_log;
  own_end = end_words_of_log;
  keep = steps-keep;
  region =
      steps-region;
}
