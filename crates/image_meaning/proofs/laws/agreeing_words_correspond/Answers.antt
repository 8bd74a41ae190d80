use Rattle.image_meaning.specs.Laws.{told_by}
use Rattle.image_meaning.proofs.Agreeing.{corresponds-agree}
use Rattle.image_meaning.proofs.Apart.{words-apart}
use Rattle.image_meaning.proofs.laws.agreeing_words_correspond.Goals as goal

pub returns-clause-agree : goal.returns-clause-agree
returns-clause-agree _ lies size c d directory heap other k same agrees =
    corresponds-agree (told_by lies) directory size c d heap other k same agrees

pub returns-clause-apart : goal.returns-clause-apart
returns-clause-apart _ lies size words directory heap k = words-apart (told_by lies) directory size words heap k
