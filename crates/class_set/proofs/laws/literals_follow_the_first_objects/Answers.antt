use Rattle.class_set.proofs.FirstWords.{words_counted}
use Rattle.class_set.proofs.laws.literals_follow_the_first_objects.Goals as goal

pub returns : goal.returns
returns c = words_counted
