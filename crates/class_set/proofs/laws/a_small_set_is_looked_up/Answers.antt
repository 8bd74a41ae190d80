use Rattle.std.proofs.Common.{refl}
use Rattle.const_pool.specs.Parsing.{descriptor_at, method_at, result_at, only_field, parameters_at, field_at, brackets}
use Rattle.const_pool.specs.Parsing.{element_at, base_at, class_at, after_front, name_len}
use Rattle.const_pool.specs.Utf8.{bad_place, char_len}
use Rattle.built_in_table.specs.Members.{built_in_members, built_in_names, built_in_supers}
use Rattle.class_set.proofs.laws.a_small_set_is_looked_up.Goals as goal

pub returns : goal.returns
unfolding descriptor_at method_at result_at only_field parameters_at field_at brackets element_at base_at class_at
    after_front name_len bad_place char_len built_in_members built_in_names built_in_supers
returns c = record {
  numbers = refl;
  layout = refl;
  own_field = refl;
  field_above = refl;
  interface_first = refl;
  static_field = refl;
  no_field = refl;
  method_above = refl;
  built_in_method = refl;
  method_of_array = refl;
  no_method = refl;
  subtypes = refl;
  no_subtypes = refl;
}
