use Rattle.plain_model.proofs.Consistent.{class_of_place, place_there}
use Rattle.plain_model.proofs.Given.{given_arrays_are_there}
use Rattle.plain_model.proofs.set_laws.known_types_are_there.Goals as goal

pub returns : goal.returns
returns c = record {
  built_ins = λ set k below. record { there = place_there set k below; class = class_of_place set k below };
  arrays = given_arrays_are_there;
}
