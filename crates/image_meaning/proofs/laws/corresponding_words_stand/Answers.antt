use Rattle.image_meaning.specs.Laws.{told_by}
use Rattle.image_meaning.proofs.Opened.{stands}
use Rattle.image_meaning.proofs.laws.corresponding_words_stand.Goals as goal

pub returns : goal.returns
returns c lies size words directory heap opens same = stands (told_by lies) size words directory heap opens same
