use Rattle.plain_model.proofs.Refused.{arrays_are_refused, classes_are_refused, known_are_there, statics_are_refused}
use Rattle.plain_model.proofs.set_laws.consistent_sets_are_those_of_the_table.Goals as goal

pub returns : goal.returns
returns c = record {
  classes = classes_are_refused;
  arrays = arrays_are_refused;
  statics = statics_are_refused;
  known = known_are_there;
}
