use Rattle.std.proofs.Common.{refl}
use Rattle.const_pool.specs.Parsing.{descriptor_at, method_at, result_at, only_field, parameters_at, field_at, brackets}
use Rattle.const_pool.specs.Parsing.{element_at, base_at, class_at, after_front, name_len}
use Rattle.const_pool.specs.Utf8.{bad_place, char_len}
use Rattle.built_in_table.specs.Members.{built_in_members, built_in_names, built_in_supers}
use Rattle.class_set.proofs.laws.two_small_files_are_linked.Goals as goal

pub returns : goal.returns
unfolding descriptor_at method_at result_at only_field parameters_at field_at brackets element_at base_at class_at
    after_front name_len bad_place char_len built_in_members built_in_names built_in_supers
returns c = record {
  made = refl;
  needed = refl;
  numbers = refl;
  are_made = refl;
  elements = refl;
  kinds = refl;
  literals = refl;
  constants = refl;
  roots = refl;
  more = refl;
  no_more = refl;
}
