-- The rows of lines have their meaning, by computation.
use Rattle.std.proofs.Common.{◌≡◌, [], ◌∷◌, ◌++◌, refl}
use Rattle.std.specs.Prelude.{codes}
use Rattle.const_pool.specs.Parsing.{name_len, class_at, after_front, base_at, element_at, brackets, field_at, parameters_at}
use Rattle.const_pool.specs.Parsing.{only_field, result_at, method_at, descriptor_at}
use Rattle.listing_lines.specs.declared.refusal.ListingFault.TheVariants.{Syntax}
use Rattle.listing_lines.specs.declared.lines.Line.TheVariants.{Super, Wrong}
use Rattle.listing_lines.specs.Words.{words_from}
use Rattle.listing_lines.specs.Texts.{text_from}
use Rattle.listing_lines.specs.Numbers.{decimal_from}
use Rattle.listing_lines.specs.Mnemonics.{mnemonics, row_of}
use Rattle.listing_lines.specs.Reading.{descriptor_of}
use Rattle.listing_lines.specs.Instructions.{byte_number, short_number, local_index, increment, new_array, keys, table}
use Rattle.listing_lines.specs.Instructions.{key_label, pairs, lookup, constant, load_long, field_use, method_use}
use Rattle.listing_lines.specs.Instructions.{interface_use}
use Rattle.listing_lines.specs.Lines.{class_line, field, sizes, method, method_line, meaning, line_of, lines_from}
use Rattle.listing_lines.specs.Lines.{listing_lines}
use Rattle.listing_lines.specs.Rows.{AreLines, AreWrong, new_line, plain_lines, instruction_lines, wrong_lines}

pub plain_lines_are : AreLines plain_lines
unfolding byte_number short_number local_index increment new_array keys table key_label pairs lookup constant
    load_long field_use method_use interface_use class_line field sizes method method_line meaning
    line_of lines_from mnemonics row_of decimal_from descriptor_of text_from words_from name_len class_at
    after_front base_at element_at brackets field_at parameters_at only_field result_at method_at
    descriptor_at
plain_lines_are = refl

pub instruction_lines_are : AreLines instruction_lines
unfolding byte_number short_number local_index increment new_array keys table key_label pairs lookup constant
    load_long field_use method_use interface_use class_line field sizes method method_line meaning
    line_of lines_from mnemonics row_of decimal_from descriptor_of text_from words_from name_len class_at
    after_front base_at element_at brackets field_at parameters_at only_field result_at method_at
    descriptor_at
instruction_lines_are = refl

pub wrong_lines_are : AreWrong wrong_lines
unfolding byte_number short_number local_index increment new_array keys table key_label pairs lookup constant
    load_long field_use method_use interface_use class_line field sizes method method_line meaning
    line_of lines_from mnemonics row_of decimal_from descriptor_of text_from words_from name_len class_at
    after_front base_at element_at brackets field_at parameters_at only_field result_at method_at
    descriptor_at
wrong_lines_are = refl

pub no_line : listing_lines [] ≡ []
unfolding lines_from
no_line = refl

pub whole_line : listing_lines (codes ".super B" ++ new_line ∷ []) ≡ Super (codes "B") ∷ []
unfolding byte_number short_number local_index increment new_array keys table key_label pairs lookup constant
    load_long field_use method_use interface_use class_line field sizes method method_line meaning
    line_of lines_from mnemonics row_of decimal_from descriptor_of text_from words_from name_len class_at
    after_front base_at element_at brackets field_at parameters_at only_field result_at method_at
    descriptor_at
whole_line = refl

pub cut_line : listing_lines (codes ".super B") ≡ Wrong Syntax ∷ []
unfolding byte_number short_number local_index increment new_array keys table key_label pairs lookup constant
    load_long field_use method_use interface_use class_line field sizes method method_line meaning
    line_of lines_from mnemonics row_of decimal_from descriptor_of text_from words_from name_len class_at
    after_front base_at element_at brackets field_at parameters_at only_field result_at method_at
    descriptor_at
cut_line = refl
