use Rattle.class_set.specs.declared.arrays.Listed.TheVariants.{Made}
use Rattle.class_set.proofs.GivenArrays.{chars_listed, strings_listed}
use Rattle.class_set.proofs.MadeArrays.{made_known, makes_by_name}
use Rattle.class_set.proofs.laws.made_arrays_are_known.Goals as goal

pub returns : goal.returns
returns c = record {
  chars = λ set. chars_listed Made set.files;
  arguments = λ set. strings_listed Made set.files;
  known = made_known;
  makes = makes_by_name;
}
