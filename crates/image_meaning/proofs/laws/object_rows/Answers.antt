use Rattle.std.proofs.Common.{refl}
use Rattle.image_meaning.specs.Checks.{first_fault}
use Rattle.image_meaning.specs.Meaning.{walk}
use Rattle.image_meaning.proofs.laws.object_rows.Goals as goal

pub returns-clause-roots : goal.returns-clause-roots
returns-clause-roots c = record { reference = refl; odd = refl; unused = refl; unused_null = refl }

pub returns-clause-objects : goal.returns-clause-objects
unfolding first_fault
returns-clause-objects c = record {
  pair = refl;
  other_shape = refl;
  a_slot_too_many = refl;
  to_the_last_line = refl;
  past_the_last_line = refl;
  begins_within_another = refl;
  reaches_into_another = refl;
  length_before_overlap = refl;
  overlap_before_value = refl;
  a_string_s_char = refl;
  past_a_string_s_char = refl;
  past_an_int = refl;
  on_the_second_line = refl;
  odd_reference = refl;
  before_the_objects = refl;
  after_the_lines = refl;
  the_first_slot_counts = refl;
}

pub returns-clause-words : goal.returns-clause-words
returns-clause-words c = record {
  true_is_1 = refl;
  no_boolean = refl;
  last_char = refl;
  no_char = refl;
  least_long = refl;
  a_byte_s_int = refl;
}

pub returns-clause-walks : goal.returns-clause-walks
unfolding first_fault walk
returns-clause-walks c = record { values = refl; found = refl; checked = refl }
