-- The lines of a listing, each with what it means by itself.
use Rattle.std.specs.Prelude.{ℕ, ◌+◌, ◌-◌, ◌==◌, ◌&&◌, ◌||◌, not, Bool, true, false, List, [], ◌∷◌, ◌++◌, length, take}
use Rattle.std.specs.Prelude.{slice_index, codes, Option, Some, None, Result, Ok, Err, if◌then◌else◌}
use Rattle.std.specs.List.{list_any, list_all}
use Rattle.std.specs.Str.{bytes_eq}
use Rattle.const_pool.specs.declared.descriptor.ElementType.{ElementType}
use Rattle.const_pool.specs.declared.descriptor.ElementType.TheVariants as element
use Rattle.const_pool.specs.declared.descriptor.FieldType.{FieldType}
use Rattle.parsing.specs.Results.{◌>>=◌}
use Rattle.listing_lines.specs.declared.refusal.ListingFault.TheVariants.{Syntax, UnknownWord, BadNumber}
use Rattle.listing_lines.specs.declared.refusal.LineRefusal.{LineRefusal}
use Rattle.listing_lines.specs.declared.refusal.LineRefusal.TheVariants as refusal
use Rattle.listing_lines.specs.declared.lines.Line.{Line}
use Rattle.listing_lines.specs.declared.lines.Line.TheVariants as line
use Rattle.listing_lines.specs.declared.directives.Directive.{Directive}
use Rattle.listing_lines.specs.declared.directives.Directive.TheVariants as directive
use Rattle.listing_lines.specs.declared.mnemonics.Operands.{Operands}
use Rattle.listing_lines.specs.Words.{words}
use Rattle.listing_lines.specs.Reading.{or_fault, unless, no_operand, one_operand, taken, natural, is_ascii, descriptor_of}
use Rattle.listing_lines.specs.Reading.{field_type, parameters}
use Rattle.listing_lines.specs.Mnemonics.{instruction_named}
use Rattle.listing_lines.specs.Instructions.{instruction_with}

abbrev pub Read : Type 0
Read = Result Line LineRefusal

-- ---- directives

-- . ; and [ stand in no class's own name (JVMS 4.2.1)
abbrev pub is_barred_in_class : ℕ → Bool
is_barred_in_class b = (b == 46) || ((b == 59) || (b == 91))

unfoldable pub class_line : (access : ℕ) → List (List ℕ) → Read
class_line access operands = do
  name ← one_operand operands
  spelled ← unless (list_any is_barred_in_class name) Syntax
  Ok (line.Class access name)

abbrev pub super_line : List (List ℕ) → Read
super_line operands = one_operand operands >>= λ name. Ok (line.Super name)

abbrev pub implements_line : List (List ℕ) → Read
implements_line operands = one_operand operands >>= λ name. Ok (line.Implements name)

abbrev pub flag : Bool → ℕ → ℕ
flag set n = if set then n else 0

-- nor these and / in a field's (JVMS 4.2.2)
abbrev pub is_barred_in_field : ℕ → Bool
is_barred_in_field b = (b == 47) || is_barred_in_class b

abbrev pub is_class : ElementType → Bool
is_class (element.Class name) = true
is_class other = false

abbrev pub is_reference : FieldType → Bool
is_reference t = not (t.dimensions == 0) || is_class t.element

-- whether the field is static, and whether it is a durable root
abbrev pub field_options : List (List ℕ) → Result (Bool × Bool) LineRefusal
field_options operands =
    let static = taken (codes "static") operands in
    let root = taken (codes "root") static.1 in
    if length root.1 == 0 then Ok (static.0, root.0) else Err (refusal.Fault Syntax)

-- A durable root is static and of a reference type. The access flags are public and static (JVMS table
-- 4.5-A).
unfoldable pub field : (name descriptor : List ℕ) → List (List ℕ) → Read
field name descriptor options = do
  spelled ← unless (list_any is_barred_in_field name) Syntax
  typed ← field_type (descriptor_of descriptor)
  found ← field_options options
  kept ← unless (found.1 && not (found.0 && is_reference typed)) Syntax
  Ok (line.Field (1 + flag found.0 8) name descriptor found.1)

abbrev pub field_line : List (List ℕ) → Read
field_line (name ∷ descriptor ∷ options) = field name descriptor options
field_line other = Err (refusal.Fault Syntax)

-- whether the method is static, synchronized and abstract
abbrev pub method_options : List (List ℕ) → Result (Bool × Bool × Bool) LineRefusal
method_options operands =
    let static = taken (codes "static") operands in
    let synchronized = taken (codes "synchronized") static.1 in
    let abstract = taken (codes "abstract") synchronized.1 in
    if length abstract.1 == 0 then Ok (static.0, synchronized.0, abstract.0) else Err (refusal.Fault Syntax)

unfoldable pub sizes : (stack locals : List ℕ) → Result (ℕ × ℕ) LineRefusal
sizes stack locals = do
  deepest ← or_fault BadNumber (natural 65535 stack)
  variables ← or_fault BadNumber (natural 65535 locals)
  Ok (deepest, variables)

-- An abstract method has no stack and no local variables. The access flags are public, static, synchronized
-- and abstract (JVMS table 4.6-A).
unfoldable pub method : (name descriptor : List ℕ) → ℕ × ℕ → List (List ℕ) → Read
method name descriptor size options = do
  found ← method_options options
  empty ← unless (found.2 && not ((size.0 == 0) && (size.1 == 0))) Syntax
  Ok (line.Method (1 + flag found.0 8 + flag found.1 32 + flag found.2 1024) name descriptor size.0 size.1
      found.2)

unfoldable pub method_line : List (List ℕ) → Read
method_line (name ∷ descriptor ∷ stack ∷ locals ∷ options) = do
  typed ← parameters (descriptor_of descriptor)
  size ← sizes stack locals
  method name descriptor size options
method_line other = Err (refusal.Fault Syntax)

abbrev pub catch_class : List ℕ → Option (List ℕ)
catch_class name = if bytes_eq name (codes "any") then None else Some name

abbrev pub catch_line : List (List ℕ) → Read
catch_line (class ∷ start ∷ end ∷ handler ∷ []) = Ok (line.Catch (catch_class class) start end handler)
catch_line other = Err (refusal.Fault Syntax)

abbrev pub end_line : List (List ℕ) → Read
end_line operands = no_operand operands >>= λ none. Ok line.End

abbrev pub directive_named : List ℕ → Option Directive
directive_named word =
    if bytes_eq word (codes ".class") then Some directive.Class
    else (if bytes_eq word (codes ".final") then Some directive.Final
    else (if bytes_eq word (codes ".interface") then Some directive.Interface
    else (if bytes_eq word (codes ".super") then Some directive.Super
    else (if bytes_eq word (codes ".implements") then Some directive.Implements
    else (if bytes_eq word (codes ".field") then Some directive.Field
    else (if bytes_eq word (codes ".method") then Some directive.Method
    else (if bytes_eq word (codes ".catch") then Some directive.Catch
    else (if bytes_eq word (codes ".end") then Some directive.End
    else None))))))))

-- the access flags of a class are public and super, and final or interface and abstract (JVMS table 4.1-B)
abbrev pub directive_line : Directive → List (List ℕ) → Read
directive_line directive.Class operands = class_line 0x0021 operands
directive_line directive.Final operands = class_line 0x0031 operands
directive_line directive.Interface operands = class_line 0x0601 operands
directive_line directive.Super operands = super_line operands
directive_line directive.Implements operands = implements_line operands
directive_line directive.Field operands = field_line operands
directive_line directive.Method operands = method_line operands
directive_line directive.Catch operands = catch_line operands
directive_line directive.End operands = end_line operands

-- ---- lines

abbrev pub instruction_line : Option (ℕ × Operands) → List (List ℕ) → Read
instruction_line None operands = Err (refusal.Fault UnknownWord)
instruction_line (Some row) operands = instruction_with row.0 row.1 operands >>= λ i. Ok (line.Instruction i)

abbrev pub directive_or_instruction : Option Directive → List ℕ → List (List ℕ) → Read
directive_or_instruction (Some found) word operands = directive_line found operands
directive_or_instruction None word operands = instruction_line (instruction_named word) operands

-- what stands before a word's colon, which is its last byte
abbrev pub before_colon : List ℕ → Option (List ℕ)
before_colon word =
    if not (length word == 0) && (slice_index word (length word - 1) == 58)
    then Some (take (length word - 1) word) else None

abbrev pub label_line : List ℕ → List (List ℕ) → Read
label_line [] operands = Err (refusal.Fault Syntax)
label_line (b ∷ name) operands = no_operand operands >>= λ none. Ok (line.Label (b ∷ name))

abbrev pub label_or_other : Option (List ℕ) → List ℕ → List (List ℕ) → Read
label_or_other (Some name) word operands = label_line name operands
label_or_other None word operands = directive_or_instruction (directive_named word) word operands

unfoldable pub meaning : List (List ℕ) → Read
meaning [] = Ok line.Nothing
meaning (word ∷ operands) = label_or_other (before_colon word) word operands

-- want of memory is no fault of the line
abbrev pub line_or_wrong : Read → Line
line_or_wrong (Ok found) = found
line_or_wrong (Err (refusal.Fault kind)) = line.Wrong kind
line_or_wrong (Err refusal.OutOfMemory) = line.Nothing

-- a number sign is the first byte
abbrev pub is_comment : List ℕ → Bool
is_comment [] = false
is_comment (b ∷ rest) = b == 35

unfoldable pub line_of : List ℕ → Line
line_of bytes =
    if not (list_all is_ascii bytes) then line.Wrong Syntax
    else (if is_comment bytes then line.Nothing else line_or_wrong (meaning (words bytes)))

-- what stands behind the last new line
abbrev pub cut_off : List ℕ → List Line
cut_off [] = []
cut_off (b ∷ rest) = line.Wrong Syntax ∷ []

-- the lines of the rest of a text, of which one has begun; each ends in a new line
unfoldable pub lines_from : (begun : List ℕ) → List ℕ → List Line
lines_from begun [] = cut_off begun
lines_from begun (b ∷ rest) =
    if b == 10 then line_of begun ∷ lines_from [] rest else lines_from (begun ++ b ∷ []) rest

abbrev pub listing_lines : List ℕ → List Line
listing_lines text = lines_from [] text
