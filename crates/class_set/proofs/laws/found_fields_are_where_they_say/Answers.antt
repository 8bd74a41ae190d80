use Rattle.class_set.proofs.FieldsFound.{field_found}
use Rattle.class_set.proofs.laws.found_fields_are_where_they_say.Goals as goal

pub returns : goal.returns
returns c = field_found
