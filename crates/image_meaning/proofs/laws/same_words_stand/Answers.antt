use Rattle.image_meaning.specs.Laws.{told_by}
use Rattle.image_meaning.proofs.Opened.{stands-same}
use Rattle.image_meaning.proofs.Changes.{corresponds-same}
use Rattle.image_meaning.proofs.laws.same_words_stand.Goals as goal

pub returns-clause-stand : goal.returns-clause-stand
returns-clause-stand _ lies size c d directory heap opens k front logs same =
    stands-same (told_by lies) size c d directory heap opens k front logs same

pub returns-clause-correspond : goal.returns-clause-correspond
returns-clause-correspond _ lies size c d directory heap k same = corresponds-same (told_by lies) directory size c d heap k same
