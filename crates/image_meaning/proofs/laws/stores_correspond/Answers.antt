use Rattle.image_meaning.specs.Laws.{told_by}
use Rattle.image_meaning.proofs.Changes.{corresponds-put, corresponds-put_root}
use Rattle.image_meaning.proofs.laws.stores_correspond.Goals as goal

pub returns-clause-slot : goal.returns-clause-slot
returns-clause-slot _ lies size c d directory heap line n i value k there within same new =
    corresponds-put (told_by lies) directory size c d heap line n i value k there within same new

pub returns-clause-root : goal.returns-clause-root
returns-clause-root _ lies size c d directory heap r value k there static own same new =
    corresponds-put_root (told_by lies) directory size c d heap r value k there static own same new
