use Rattle.std.proofs.Common.{refl}
use Rattle.const_pool.specs.Utf8.{bad_place, char_len}
use Rattle.const_pool.specs.Parsing.{descriptor_at, only_field, field_at, element_at, base_at, brackets, after_front, class_at}
use Rattle.const_pool.specs.Parsing.{name_len, method_at, parameters_at, result_at}
use Rattle.image_meaning.specs.Directories.{with_entries}
use Rattle.image_meaning.specs.Entries.{is_shape, read_entry}
use Rattle.image_meaning.proofs.laws.entry_rows.Goals as goal

pub returns-clause-entries : goal.returns-clause-entries
unfolding read_entry is_shape bad_place char_len descriptor_at only_field field_at element_at base_at brackets after_front class_at name_len method_at parameters_at result_at
returns-clause-entries c = record {
  pair = refl;
  pair_read = refl;
  array_read = refl;
  root_read = refl;
  rest_stays = refl;
  kind_3 = refl;
  a_word_too_many = refl;
  a_word_too_few = refl;
  not_filled_with_zeros = refl;
  letter_of_float = refl;
  array_of_floats = refl;
  string_s_name = refl;
  string_read = refl;
  string_with_a_field = refl;
  name_of_any_bytes = refl;
  array_with_a_field = refl;
}

pub returns-clause-directories : goal.returns-clause-directories
unfolding with_entries read_entry is_shape
returns-clause-directories c = record {
  two_roots = refl;
  a_root_twice = refl;
  a_shape_twice = refl;
  one_of_each = refl;
  a_string_with_a_field = refl;
  root_256 = refl;
  root_257 = refl;
}
