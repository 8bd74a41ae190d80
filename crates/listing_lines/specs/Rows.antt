-- Rows of lines: what each means by itself, and which fault it has.
use Rattle.std.specs.Prelude.{◌≡◌, ℕ, pos, negsuc, true, false, List, [], ◌∷◌, ◌++◌, codes, map, Some, None}
use Rattle.listing_lines.specs.declared.refusal.ListingFault.{ListingFault}
use Rattle.listing_lines.specs.declared.refusal.ListingFault.TheVariants.{Syntax, UnknownWord, BadNumber, BadDescriptor}
use Rattle.listing_lines.specs.declared.refusal.ListingFault.TheVariants.{BadText}
use Rattle.listing_lines.specs.declared.lines.MemberKind.TheVariants as member
use Rattle.listing_lines.specs.declared.lines.Wanted.TheVariants as wanted
use Rattle.listing_lines.specs.declared.lines.Instruction.TheVariants as instruction
use Rattle.listing_lines.specs.declared.lines.Line.{Line}
use Rattle.listing_lines.specs.declared.lines.Line.TheVariants as line
use Rattle.listing_lines.specs.Lines.{line_of}

-- each row's text is a line of this meaning
abbrev pub AreLines : List (List ℕ × Line) → Type 0
AreLines rows = map (λ row. line_of row.0) rows ≡ map (λ row. row.1) rows

-- each row's text is a line with this fault
abbrev pub AreWrong : List (List ℕ × ListingFault) → Type 0
AreWrong rows = map (λ row. line_of row.0) rows ≡ map (λ row. line.Wrong row.1) rows

abbrev pub quote : ℕ
quote = 34

abbrev pub backslash : ℕ
backslash = 92

abbrev pub new_line : ℕ
new_line = 10

abbrev whole : List ℕ → Line
whole bytes = line.Instruction (instruction.Whole bytes)

abbrev pub plain_lines : List (List ℕ × Line)
plain_lines =
    ([], line.Nothing) ∷
    (codes "  ", line.Nothing) ∷
    (codes "# frob", line.Nothing) ∷
    (codes ".class A", line.Class 33 (codes "A")) ∷
    (codes ".final A", line.Class 49 (codes "A")) ∷
    (codes ".interface A", line.Class 1537 (codes "A")) ∷
    (codes ".super java/lang/Object", line.Super (codes "java/lang/Object")) ∷
    (codes ".implements I", line.Implements (codes "I")) ∷
    (codes ".field x I", line.Field 1 (codes "x") (codes "I") false) ∷
    (codes ".field r LA; static root", line.Field 9 (codes "r") (codes "LA;") true) ∷
    (codes ".method m ()V 2 1 static synchronized", line.Method 41 (codes "m") (codes "()V") 2 1 false) ∷
    (codes ".method m ()V 0 0 abstract", line.Method 1025 (codes "m") (codes "()V") 0 0 true) ∷
    (codes "L:", line.Label (codes "L")) ∷
    (codes ".catch any L E H", line.Catch None (codes "L") (codes "E") (codes "H")) ∷
    (codes ".catch A L E H", line.Catch (Some (codes "A")) (codes "L") (codes "E") (codes "H")) ∷
    (codes ".end", line.End) ∷
    []

abbrev pub instruction_lines : List (List ℕ × Line)
instruction_lines =
    (codes "monitorexit", whole (195 ∷ [])) ∷
    (codes "bipush -128", whole (16 ∷ 128 ∷ [])) ∷
    (codes "bipush 127", whole (16 ∷ 127 ∷ [])) ∷
    (codes "sipush -2", whole (17 ∷ 255 ∷ 254 ∷ [])) ∷
    (codes "astore 4", whole (58 ∷ 4 ∷ [])) ∷
    (codes " iinc  255 -1 ", whole (132 ∷ 255 ∷ 255 ∷ [])) ∷
    (codes "newarray long", whole (188 ∷ 11 ∷ [])) ∷
    (codes "goto L", line.Instruction (instruction.Jump 167 (codes "L"))) ∷ (
      codes "tableswitch 1 2 D A B",
      line.Instruction (instruction.Table (pos 1) (pos 2) (codes "D") (codes "A" ∷ codes "B" ∷ [])),
    ) ∷ (
      codes "lookupswitch D -1 A",
      line.Instruction (instruction.Lookup (codes "D") (record { key = negsuc 0; label = codes "A" } ∷ [])),
    )
    ∷
    -- ldc is written in its wide form
    (codes "ldc 7", line.Instruction (instruction.Entry 19 (wanted.Integer (pos 7)))) ∷ (
      codes "ldc " ++ quote ∷ codes "a b" ++ backslash ∷ quote ∷ backslash ∷ codes "n" ++ quote ∷ [],
      line.Instruction (instruction.Entry 19 (wanted.Text (codes "a b" ++ quote ∷ new_line ∷ []))),
    ) ∷
    -- one cell for the reference, one for the array, two for the long and one for the int
    (
      codes "invokeinterface I m ([JJI)V",
      line.Instruction (instruction.Interface
          (record {
            kind = member.InterfaceMethod;
            class = codes "I";
            name = codes "m";
            descriptor =
                codes "([JJI)V";
          })
          5),
    ) ∷
    []

abbrev pub wrong_lines : List (List ℕ × ListingFault)
wrong_lines =
    -- a byte that isn't ASCII
    (35 ∷ 255 ∷ [], Syntax) ∷
    (codes "frob", UnknownWord) ∷
    (codes "nop nop", Syntax) ∷
    (codes ":", Syntax) ∷
    (codes "bipush", Syntax) ∷
    (codes "bipush -", BadNumber) ∷
    (codes "bipush 128", BadNumber) ∷
    (codes "bipush 1x", BadNumber) ∷
    (codes "newarray float", UnknownWord) ∷
    (codes "ldc " ++ quote ∷ codes "a", BadText) ∷
    (codes "ldc " ++ quote ∷ codes "a" ++ backslash ∷ quote ∷ [], BadText) ∷
    -- a label too few, low above high, and a key without a label
    (codes "tableswitch 1 2 D A", Syntax) ∷
    (codes "tableswitch 2 1 D", Syntax) ∷
    (codes "lookupswitch D 1", Syntax) ∷
    (codes ".class A.B", Syntax) ∷
    (codes ".field x Q", BadDescriptor) ∷
    (codes ".field x ()V", BadDescriptor) ∷
    -- a root that isn't static, and one that is no reference
    (codes ".field r LA; root", Syntax) ∷
    (codes ".field x I static root", Syntax) ∷
    (codes ".method m I 1 1", BadDescriptor) ∷
    (codes ".method m ()V 65536 1", BadNumber) ∷
    (codes ".method m ()V 1 0 abstract", Syntax) ∷
    []
