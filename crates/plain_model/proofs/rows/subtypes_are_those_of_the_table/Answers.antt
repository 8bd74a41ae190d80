use Rattle.std.proofs.Common.{refl}
use Rattle.plain_model.proofs.Sets.{drawing_is_consistent}
use Rattle.plain_model.proofs.rows.subtypes_are_those_of_the_table.Goals as goal

pub returns : goal.returns
returns c = record {
  set = drawing_is_consistent;
  classes = refl;
  arrays = refl;
  elements = refl;
  kinds = record { class = refl; text = refl; numbers = refl; references = refl; arrays = refl; missing = refl };
}
