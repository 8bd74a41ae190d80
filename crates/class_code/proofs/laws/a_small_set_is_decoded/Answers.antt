use Rattle.std.proofs.Common.{refl}
use Rattle.const_pool.specs.Parsing.{descriptor_at, method_at, result_at, only_field, parameters_at, field_at, brackets}
use Rattle.const_pool.specs.Parsing.{element_at, base_at, class_at, after_front, name_len}
use Rattle.const_pool.specs.Utf8.{bad_place, char_len}
use Rattle.built_in_table.specs.Members.{built_in_members, built_in_names, built_in_supers}
use Rattle.graph_walks.specs.Order.{visits}
use Rattle.class_code.specs.Programs.{program_of}
use Rattle.class_code.proofs.laws.a_small_set_is_decoded.Goals as goal

pub returns : goal.returns
unfolding descriptor_at method_at result_at only_field parameters_at field_at brackets element_at base_at class_at
    after_front name_len bad_place char_len built_in_members built_in_names built_in_supers visits program_of
returns c = record {
  uses = refl;
  loops = refl;
  tables = refl;
  lookups = refl;
  others = refl;
  places = refl;
  handlers = refl;
  main = refl;
  above = refl;
  without_code = refl;
  counted = refl;
  built_in = refl;
  empty = refl;
  fields = refl;
  longs = refl;
  dispatch = refl;
  dispatch_above = refl;
  supertypes = refl;
  initialiser = refl;
}
