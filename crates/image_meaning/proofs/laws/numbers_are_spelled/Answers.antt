use Rattle.image_meaning.proofs.Spelling.{spelled_number}
use Rattle.image_meaning.proofs.laws.numbers_are_spelled.Goals as goal

pub returns : goal.returns
returns c kind value is = spelled_number kind value is
