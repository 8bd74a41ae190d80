-- The rows of the JVMS are read as the grammar says, by computation.
use Rattle.std.proofs.Common.{refl}
use Rattle.parsing.specs.Places.{field_at as bytes_at, number_at}
use Rattle.const_pool.specs.Utf8.{bad_place, char_len}
use Rattle.const_pool.specs.Reading.{pool_in, counted_slots, slots_from, entry_from, tag_from, body_from, member_from}
use Rattle.const_pool.specs.Reading.{name_from, wrong_from}
use Rattle.const_pool.specs.Parsing.{descriptor_at, method_at, result_at, only_field, parameters_at, field_at, brackets}
use Rattle.const_pool.specs.Parsing.{element_at, base_at, class_at, after_front, name_len}
use Rattle.const_pool.specs.Rows.{AreAnswers, pools, no_pools, AreParsed, descriptors, no_descriptors}

pub pools_are_answers : AreAnswers pools
unfolding pool_in counted_slots slots_from entry_from tag_from body_from member_from name_from number_at bytes_at
    bad_place char_len wrong_from
pools_are_answers = refl

pub faults_are_answers : AreAnswers no_pools
unfolding pool_in counted_slots slots_from entry_from tag_from body_from member_from name_from number_at bytes_at
    bad_place char_len wrong_from
faults_are_answers = refl

pub descriptors_are_parsed : AreParsed descriptors
unfolding descriptor_at method_at result_at only_field parameters_at field_at brackets element_at base_at class_at
    after_front name_len
descriptors_are_parsed = refl

pub others_are_none : AreParsed no_descriptors
unfolding descriptor_at method_at result_at only_field parameters_at field_at brackets element_at base_at class_at
    after_front name_len
others_are_none = refl
