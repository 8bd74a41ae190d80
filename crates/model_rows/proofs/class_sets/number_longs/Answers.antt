use Rattle.std.proofs.Common.{refl}
use Rattle.const_pool.specs.Parsing.{descriptor_at, method_at, result_at, only_field, parameters_at, field_at, brackets}
use Rattle.const_pool.specs.Parsing.{element_at, base_at, class_at, after_front, name_len}
use Rattle.const_pool.specs.Utf8.{bad_place, char_len}
use Rattle.model_rows.proofs.class_sets.number_longs.Goals as goal

pub number_array-requires : goal.number_array-requires
unfolding descriptor_at method_at result_at only_field parameters_at field_at brackets element_at base_at class_at
    after_front name_len bad_place char_len
number_array-requires c = record { array = refl }
