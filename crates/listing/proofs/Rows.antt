-- The rows of listings are assembled as the format says, by computation.
use Rattle.std.proofs.Common.{◌≡◌, [], ◌∷◌, Ok, refl}
use Rattle.const_pool.specs.Parsing.{name_len, class_at, after_front, base_at, element_at, brackets, field_at, parameters_at}
use Rattle.const_pool.specs.Parsing.{only_field, result_at, method_at, descriptor_at}
use Rattle.listing_lines.specs.Words.{words_from}
use Rattle.listing_lines.specs.Texts.{text_from}
use Rattle.listing_lines.specs.Numbers.{decimal_from}
use Rattle.listing_lines.specs.Mnemonics.{mnemonics, row_of}
use Rattle.listing_lines.specs.Reading.{descriptor_of}
use Rattle.listing_lines.specs.Instructions.{byte_number, short_number, local_index, increment, new_array, keys, table}
use Rattle.listing_lines.specs.Instructions.{key_label, pairs, lookup, constant, load_long, field_use, method_use}
use Rattle.listing_lines.specs.Instructions.{interface_use}
use Rattle.listing_lines.specs.Lines.{class_line, field, sizes, method, method_line, meaning, line_of, lines_from}
use Rattle.listing_lines.specs.Lines.{listing_lines}
use Rattle.listing.specs.Structure.{place_behind, structure_from}
use Rattle.listing.specs.Roots.{roots_from}
use Rattle.listing.specs.Labels.{marks_from, pc_of, target}
use Rattle.listing.specs.Pool.{index_from, with_entry, with_utf8, with_text, with_pair, with_name_and_type, with_member}
use Rattle.listing.specs.Code.{near_offset, far_offset, offsets, cases, table_bytes, lookup_bytes, entry_bytes, interface_bytes}
use Rattle.listing.specs.Members.{handler_places, code_from, handler_bytes, handlers_from, member_head, with_annotations_name}
use Rattle.listing.specs.Members.{with_root_name, root_attribute, field_bytes, attribute_bytes, code_attribute, method_bytes}
use Rattle.listing.specs.Members.{section_from}
use Rattle.listing.specs.Bodies.{body_from, bodies_from}
use Rattle.listing.specs.Classes.{super_from, class_bytes, files_from, classes_in, judged, assembled}
use Rattle.listing.specs.Rows.{text, files_of, class_a_lines, class_a_file, goes_on, AreBad, bad_lines, method_code, AreCodes}
use Rattle.listing.specs.Rows.{jumps, loads, loads_code, loads_entries, method_handlers, caught, caught_table, caught_entries}

pub smallest : files_of class_a_lines ≡ Ok (class_a_file ∷ [])
unfolding name_len class_at after_front base_at element_at brackets field_at parameters_at only_field
    result_at method_at descriptor_at words_from text_from decimal_from mnemonics row_of descriptor_of
    byte_number short_number local_index increment new_array keys table key_label pairs lookup constant
    load_long field_use method_use interface_use class_line field sizes method method_line meaning
    line_of lines_from place_behind structure_from roots_from marks_from pc_of target index_from
    with_entry with_utf8 with_text with_pair with_name_and_type with_member near_offset far_offset
    offsets cases table_bytes lookup_bytes entry_bytes interface_bytes handler_places code_from
    handler_bytes handlers_from member_head with_annotations_name with_root_name root_attribute
    field_bytes attribute_bytes code_attribute method_bytes section_from body_from bodies_from super_from
    class_bytes files_from classes_in judged assembled
smallest = refl

pub are_bad : AreBad bad_lines
unfolding name_len class_at after_front base_at element_at brackets field_at parameters_at only_field
    result_at method_at descriptor_at words_from text_from decimal_from mnemonics row_of descriptor_of
    byte_number short_number local_index increment new_array keys table key_label pairs lookup constant
    load_long field_use method_use interface_use class_line field sizes method method_line meaning
    line_of lines_from place_behind structure_from roots_from marks_from pc_of target index_from
    with_entry with_utf8 with_text with_pair with_name_and_type with_member near_offset far_offset
    offsets cases table_bytes lookup_bytes entry_bytes interface_bytes handler_places code_from
    handler_bytes handlers_from member_head with_annotations_name with_root_name root_attribute
    field_bytes attribute_bytes code_attribute method_bytes section_from body_from bodies_from super_from
    class_bytes files_from classes_in judged assembled
are_bad = refl

pub jumps_are : AreCodes jumps
unfolding name_len class_at after_front base_at element_at brackets field_at parameters_at only_field
    result_at method_at descriptor_at words_from text_from decimal_from mnemonics row_of descriptor_of
    byte_number short_number local_index increment new_array keys table key_label pairs lookup constant
    load_long field_use method_use interface_use class_line field sizes method method_line meaning
    line_of lines_from place_behind structure_from roots_from marks_from pc_of target index_from
    with_entry with_utf8 with_text with_pair with_name_and_type with_member near_offset far_offset
    offsets cases table_bytes lookup_bytes entry_bytes interface_bytes handler_places code_from
    handler_bytes handlers_from member_head with_annotations_name with_root_name root_attribute
    field_bytes attribute_bytes code_attribute method_bytes section_from body_from bodies_from super_from
    class_bytes files_from classes_in judged assembled
jumps_are = refl

pub loads_are : method_code loads ≡ Ok (loads_code, loads_entries)
unfolding name_len class_at after_front base_at element_at brackets field_at parameters_at only_field
    result_at method_at descriptor_at words_from text_from decimal_from mnemonics row_of descriptor_of
    byte_number short_number local_index increment new_array keys table key_label pairs lookup constant
    load_long field_use method_use interface_use class_line field sizes method method_line meaning
    line_of lines_from place_behind structure_from roots_from marks_from pc_of target index_from
    with_entry with_utf8 with_text with_pair with_name_and_type with_member near_offset far_offset
    offsets cases table_bytes lookup_bytes entry_bytes interface_bytes handler_places code_from
    handler_bytes handlers_from member_head with_annotations_name with_root_name root_attribute
    field_bytes attribute_bytes code_attribute method_bytes section_from body_from bodies_from super_from
    class_bytes files_from classes_in judged assembled
loads_are = refl

pub class_goes_on : judged (listing_lines (text goes_on)) ≡ Ok tt
unfolding name_len class_at after_front base_at element_at brackets field_at parameters_at only_field
    result_at method_at descriptor_at words_from text_from decimal_from mnemonics row_of descriptor_of
    byte_number short_number local_index increment new_array keys table key_label pairs lookup constant
    load_long field_use method_use interface_use class_line field sizes method method_line meaning
    line_of lines_from place_behind structure_from roots_from marks_from pc_of target index_from
    with_entry with_utf8 with_text with_pair with_name_and_type with_member near_offset far_offset
    offsets cases table_bytes lookup_bytes entry_bytes interface_bytes handler_places code_from
    handler_bytes handlers_from member_head with_annotations_name with_root_name root_attribute
    field_bytes attribute_bytes code_attribute method_bytes section_from body_from bodies_from super_from
    class_bytes files_from classes_in judged assembled
class_goes_on = refl

pub handlers_are : method_handlers caught ≡ Ok (2, caught_table, caught_entries)
unfolding name_len class_at after_front base_at element_at brackets field_at parameters_at only_field
    result_at method_at descriptor_at words_from text_from decimal_from mnemonics row_of descriptor_of
    byte_number short_number local_index increment new_array keys table key_label pairs lookup constant
    load_long field_use method_use interface_use class_line field sizes method method_line meaning
    line_of lines_from place_behind structure_from roots_from marks_from pc_of target index_from
    with_entry with_utf8 with_text with_pair with_name_and_type with_member near_offset far_offset
    offsets cases table_bytes lookup_bytes entry_bytes interface_bytes handler_places code_from
    handler_bytes handlers_from member_head with_annotations_name with_root_name root_attribute
    field_bytes attribute_bytes code_attribute method_bytes section_from body_from bodies_from super_from
    class_bytes files_from classes_in judged assembled
handlers_are = refl
