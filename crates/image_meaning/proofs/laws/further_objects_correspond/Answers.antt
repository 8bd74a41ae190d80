use Rattle.image_meaning.specs.Laws.{told_by}
use Rattle.image_meaning.proofs.Changes.{corresponds-other, corresponds-grow}
use Rattle.image_meaning.proofs.Elsewhere.{corresponds-fresh, corresponds-other_slot, corresponds-other_static}
use Rattle.image_meaning.proofs.laws.further_objects_correspond.Goals as goal

pub returns-clause-other : goal.returns-clause-other
returns-clause-other _ lies size words directory heap other k same = corresponds-other (told_by lies) directory size words heap other k same

pub returns-clause-further : goal.returns-clause-further
returns-clause-further _ lies new size words directory heap k join =
    corresponds-grow (told_by lies) (told_by new) directory size words heap k join

pub returns-clause-elsewhere : goal.returns-clause-elsewhere
returns-clause-elsewhere _ = record {
  fresh = λ lies size words directory heap shape count k. corresponds-fresh (told_by lies) directory size words heap shape count k;
  slot = λ lies size words directory heap m i value k apart.
      corresponds-other_slot (told_by lies) directory size words heap m i value k apart;
  static = λ lies size words directory heap s value k apart.
      corresponds-other_static (told_by lies) directory size words heap s value k apart;
}
