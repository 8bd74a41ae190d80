-- The instructions of a listing, each a word and its operands (JVMS 6.5).
use Rattle.std.specs.Prelude.{ℕ, ◌+◌, ◌==◌, ◌&&◌, not, ℤ, pos, negsuc, ◌-ℤ◌, int_le, unsigned_abs, Bool, true, false, List, []}
use Rattle.std.specs.Prelude.{◌∷◌, length, codes, Option, Some, None, Result, Ok, Err, if◌then◌else◌, sum_by}
use Rattle.std.specs.Int.{w8, w16, cast_unsigned}
use Rattle.std.specs.Str.{bytes_eq}
use Rattle.byteorder.specs.Endian.{big_bytes}
use Rattle.const_pool.specs.declared.descriptor.BaseType.TheVariants as base
use Rattle.const_pool.specs.declared.descriptor.ElementType.{ElementType}
use Rattle.const_pool.specs.declared.descriptor.ElementType.TheVariants as element
use Rattle.const_pool.specs.declared.descriptor.FieldType.{FieldType}
use Rattle.parsing.specs.Results.{◌>>=◌}
use Rattle.listing_lines.specs.declared.refusal.ListingFault.TheVariants.{Syntax, UnknownWord, BadNumber, BadText, TooLarge}
use Rattle.listing_lines.specs.declared.refusal.LineRefusal.{LineRefusal}
use Rattle.listing_lines.specs.declared.refusal.LineRefusal.TheVariants as refusal
use Rattle.listing_lines.specs.declared.lines.MemberKind.{MemberKind}
use Rattle.listing_lines.specs.declared.lines.MemberKind.TheVariants as member
use Rattle.listing_lines.specs.declared.lines.MemberName.{MemberName}
use Rattle.listing_lines.specs.declared.lines.Wanted.{Wanted}
use Rattle.listing_lines.specs.declared.lines.Wanted.TheVariants as wanted
use Rattle.listing_lines.specs.declared.lines.KeyLabel.{KeyLabel}
use Rattle.listing_lines.specs.declared.lines.Instruction.{Instruction}
use Rattle.listing_lines.specs.declared.lines.Instruction.TheVariants as instruction
use Rattle.listing_lines.specs.declared.mnemonics.Operands.{Operands}
use Rattle.listing_lines.specs.declared.mnemonics.Operands.TheVariants as operands
use Rattle.listing_lines.specs.Numbers.{number, at_most}
use Rattle.listing_lines.specs.Texts.{begins_text, text}
use Rattle.listing_lines.specs.Reading.{or_fault, unless, no_operand, one_operand, two_operands, three_operands, natural}
use Rattle.listing_lines.specs.Reading.{descriptor_of, field_type, parameters}

abbrev pub Read : Type 0
Read = Result Instruction LineRefusal

-- ---- numbers in the code

abbrev pub bare : ℕ → List (List ℕ) → Read
bare opcode words = no_operand words >>= λ none. Ok (instruction.Whole (opcode ∷ []))

unfoldable pub byte_number : ℕ → List (List ℕ) → Read
byte_number opcode words = do
  word ← one_operand words
  z ← or_fault BadNumber (number (negsuc 127) (pos 127) word)
  Ok (instruction.Whole (opcode ∷ cast_unsigned w8 z ∷ []))

unfoldable pub short_number : ℕ → List (List ℕ) → Read
short_number opcode words = do
  word ← one_operand words
  z ← or_fault BadNumber (number (negsuc 32767) (pos 32767) word)
  Ok (instruction.Whole (opcode ∷ big_bytes 2 (cast_unsigned w16 z)))

unfoldable pub local_index : ℕ → List (List ℕ) → Read
local_index opcode words = do
  word ← one_operand words
  n ← or_fault BadNumber (natural 255 word)
  Ok (instruction.Whole (opcode ∷ n ∷ []))

unfoldable pub increment : ℕ → List (List ℕ) → Read
increment opcode words = do
  found ← two_operands words
  n ← or_fault BadNumber (natural 255 found.0)
  z ← or_fault BadNumber (number (negsuc 127) (pos 127) found.1)
  Ok (instruction.Whole (opcode ∷ n ∷ cast_unsigned w8 z ∷ []))

-- the element types of newarray (JVMS table 6.5.newarray-A)
abbrev pub primitive_code : List ℕ → Option ℕ
primitive_code word =
    if bytes_eq word (codes "boolean") then Some 4
    else (if bytes_eq word (codes "char") then Some 5
    else (if bytes_eq word (codes "byte") then Some 8
    else (if bytes_eq word (codes "short") then Some 9
    else (if bytes_eq word (codes "int") then Some 10
    else (if bytes_eq word (codes "long") then Some 11
    else None)))))

unfoldable pub new_array : ℕ → List (List ℕ) → Read
new_array opcode words = do
  word ← one_operand words
  code ← or_fault UnknownWord (primitive_code word)
  Ok (instruction.Whole (opcode ∷ code ∷ []))

-- ---- labels

abbrev pub jump : ℕ → List (List ℕ) → Read
jump opcode words = one_operand words >>= λ label. Ok (instruction.Jump opcode label)

abbrev pub lowest : ℤ
lowest = negsuc 2147483647

abbrev pub highest : ℤ
highest = pos 2147483647

-- one label for each key from low to high, at least one
abbrev pub has_each_key : (low high : ℤ) → List (List ℕ) → Bool
has_each_key low high labels = int_le low high && (length labels == unsigned_abs (high -ℤ low) + 1)

unfoldable pub keys : (low high : List ℕ) → List (List ℕ) → Result (ℤ × ℤ) LineRefusal
keys first second labels = do
  low ← or_fault BadNumber (number lowest highest first)
  high ← or_fault BadNumber (number lowest highest second)
  each ← unless (not (has_each_key low high labels)) Syntax
  Ok (low, high)

unfoldable pub table : List (List ℕ) → Read
table (low ∷ high ∷ default ∷ labels) = do
  found ← keys low high labels
  Ok (instruction.Table found.0 found.1 default labels)
table other = Err (refusal.Fault Syntax)

unfoldable pub key_label : (key label : List ℕ) → Result KeyLabel LineRefusal
key_label key label = do
  z ← or_fault BadNumber (number lowest highest key)
  Ok (record { key = z; label = label })

-- pairs of a key and a label
unfoldable pub pairs : List (List ℕ) → Result (List KeyLabel) LineRefusal
pairs [] = Ok []
pairs (a ∷ []) = Err (refusal.Fault Syntax)
pairs (key ∷ label ∷ rest) = do
  first ← key_label key label
  others ← pairs rest
  Ok (first ∷ others)

unfoldable pub lookup : List (List ℕ) → Read
lookup (default ∷ rest) = pairs rest >>= λ found. Ok (instruction.Lookup default found)
lookup [] = Err (refusal.Fault Syntax)

-- ---- entries of the constant pool

unfoldable pub constant : List ℕ → Result Wanted LineRefusal
constant word =
    if begins_text word then (or_fault BadText (text word) >>= λ found. Ok (wanted.Text found))
    else (or_fault BadNumber (number lowest highest word) >>= λ z. Ok (wanted.Integer z))

abbrev pub load_constant : ℕ → List (List ℕ) → Read
load_constant opcode words =
    one_operand words >>= λ word. constant word >>= λ entry. Ok (instruction.Entry opcode entry)

unfoldable pub load_long : ℕ → List (List ℕ) → Read
load_long opcode words = do
  word ← one_operand words
  z ← or_fault BadNumber (number (negsuc 9223372036854775807) (pos 9223372036854775807) word)
  Ok (instruction.Entry opcode (wanted.Long z))

abbrev pub class_use : ℕ → List (List ℕ) → Read
class_use opcode words = one_operand words >>= λ name. Ok (instruction.Entry opcode (wanted.Class name))

abbrev pub named : MemberKind → List ℕ × List ℕ × List ℕ → MemberName
named kind words = record { kind = kind; class = words.0; name = words.1; descriptor = words.2 }

unfoldable pub field_use : ℕ → List (List ℕ) → Read
field_use opcode words = do
  found ← three_operands words
  typed ← field_type (descriptor_of found.2)
  Ok (instruction.Entry opcode (wanted.Member (named member.Field found)))

unfoldable pub method_use : ℕ → List (List ℕ) → Read
method_use opcode words = do
  found ← three_operands words
  typed ← parameters (descriptor_of found.2)
  Ok (instruction.Entry opcode (wanted.Member (named member.Method found)))

abbrev pub is_long : ElementType → Bool
is_long (element.Base base.Long) = true
is_long other = false

-- a long takes two cells, all else one (JVMS 2.6.1)
abbrev pub cell_count : FieldType → ℕ
cell_count t = if (t.dimensions == 0) && is_long t.element then 2 else 1

-- the count byte: one more than the cells of the arguments (JVMS 6.5, invokeinterface)
abbrev pub interface_count : List FieldType → Option ℕ
interface_count types = at_most 255 (1 + sum_by cell_count types)

unfoldable pub interface_use : List (List ℕ) → Read
interface_use words = do
  found ← three_operands words
  types ← parameters (descriptor_of found.2)
  count ← or_fault TooLarge (interface_count types)
  Ok (instruction.Interface (named member.InterfaceMethod found) count)

-- ---- the instruction with these operands

abbrev pub instruction_with : ℕ → Operands → List (List ℕ) → Read
instruction_with opcode operands.Nothing words = bare opcode words
instruction_with opcode operands.Byte words = byte_number opcode words
instruction_with opcode operands.Short words = short_number opcode words
instruction_with opcode operands.Local words = local_index opcode words
instruction_with opcode operands.Increment words = increment opcode words
instruction_with opcode operands.Jump words = jump opcode words
instruction_with opcode operands.Constant words = load_constant opcode words
instruction_with opcode operands.Long words = load_long opcode words
instruction_with opcode operands.Table words = table words
instruction_with opcode operands.Lookup words = lookup words
instruction_with opcode operands.Field words = field_use opcode words
instruction_with opcode operands.Method words = method_use opcode words
instruction_with opcode operands.Interface words = interface_use words
instruction_with opcode operands.Class words = class_use opcode words
instruction_with opcode operands.Primitive words = new_array opcode words
