-- The rows of the JVMS are read as the grammar says, by computation.
use Rattle.std.proofs.Common.{refl}
use Rattle.parsing.specs.Results.{many_from}
use Rattle.parsing.specs.Places.{field_at as bytes_at, number_at}
use Rattle.const_pool.specs.Utf8.{bad_place, char_len}
use Rattle.const_pool.specs.Reading.{pool_in, counted_slots, slots_from, entry_from, tag_from, body_from, name_from, wrong_from}
use Rattle.const_pool.specs.Parsing.{descriptor_at, method_at as method_type_at, result_at, only_field, parameters_at}
use Rattle.const_pool.specs.Parsing.{field_at as type_at, brackets, element_at, base_at, class_at, after_front, name_len}
use Rattle.class_items.specs.Items.{index_at, attributes_at}
use Rattle.class_items.specs.Kinds.{kind_at}
use Rattle.class_file.specs.Members.{field_attributes_from, field_at, fields_from, fields_at, method_attributes_from, method_at}
use Rattle.class_file.specs.Members.{methods_from, methods_at}
use Rattle.class_file.specs.Classes.{head_at, this_at, interfaces_at, behind_at, class_in}
use Rattle.class_file.specs.Rows.{AreAnswers, classes, no_classes}

pub classes_are_answers : AreAnswers classes
unfolding class_in behind_at interfaces_at this_at head_at fields_at fields_from field_at field_attributes_from
    methods_at methods_from method_at method_attributes_from attributes_at index_at kind_at many_from number_at bytes_at
    pool_in counted_slots slots_from entry_from tag_from body_from name_from bad_place char_len wrong_from
    descriptor_at method_type_at result_at only_field parameters_at type_at brackets element_at base_at class_at
    after_front name_len
classes_are_answers = refl

pub faults_are_answers : AreAnswers no_classes
unfolding class_in behind_at interfaces_at this_at head_at fields_at fields_from field_at field_attributes_from
    methods_at methods_from method_at method_attributes_from attributes_at index_at kind_at many_from number_at bytes_at
    pool_in counted_slots slots_from entry_from tag_from body_from name_from bad_place char_len wrong_from
    descriptor_at method_type_at result_at only_field parameters_at type_at brackets element_at base_at class_at
    after_front name_len
faults_are_answers = refl
