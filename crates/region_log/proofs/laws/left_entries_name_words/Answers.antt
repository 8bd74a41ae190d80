use Rattle.region_log.proofs.Said.{left_entries_say, counts_fit, fenced_entries_are_there, uncounted_words_say_nothing}
use Rattle.region_log.proofs.laws.left_entries_name_words.Goals as goal

pub returns : goal.returns
returns c = record {
  say = left_entries_say;
  fit = counts_fit;
  fenced = fenced_entries_are_there;
  uncounted = uncounted_words_say_nothing;
}
