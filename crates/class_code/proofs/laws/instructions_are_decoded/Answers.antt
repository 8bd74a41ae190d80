use Rattle.std.proofs.Common.{refl}
use Rattle.const_pool.specs.Parsing.{descriptor_at, method_at, result_at, only_field, parameters_at, field_at, brackets}
use Rattle.const_pool.specs.Parsing.{element_at, base_at, class_at, after_front, name_len}
use Rattle.const_pool.specs.Utf8.{bad_place, char_len}
use Rattle.built_in_table.specs.Members.{built_in_members, built_in_names, built_in_supers}
use Rattle.graph_walks.specs.Order.{visits}
use Rattle.class_code.proofs.laws.instructions_are_decoded.Goals as goal

pub returns : goal.returns
unfolding descriptor_at method_at result_at only_field parameters_at field_at brackets element_at base_at class_at
    after_front name_len bad_place char_len built_in_members built_in_names built_in_supers visits
returns c = record {
  constants_are = refl;
  locals_are = refl;
  elements_are = refl;
  stacks_are = refl;
  numbers_are = refl;
  leaving_are = refl;
  jumps_are = refl;
  pool_uses_are = refl;
  types_are = refl;
}
