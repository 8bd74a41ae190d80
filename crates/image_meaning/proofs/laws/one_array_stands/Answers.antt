use Rattle.image_meaning.proofs.Arrays.{shape-may_stand, root-may_stand, one_array-stands}
use Rattle.image_meaning.proofs.laws.one_array_stands.Goals as goal

pub returns-clause-entries : goal.returns-clause-entries
returns-clause-entries c = record { shape = shape-may_stand; root = root-may_stand }

pub returns-clause-stands : goal.returns-clause-stands
returns-clause-stands c size words name line ints is are spells root zeros array =
    one_array-stands size words name line ints is are spells root zeros array
