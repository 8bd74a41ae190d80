-- Where the labels of a method stand in its code.
use Rattle.std.specs.Prelude.{ℕ, ◌+◌, ◌-◌, ◌*◌, ◌%◌, nat_lt, not, min, Bool, true, false, List, [], ◌∷◌, ◌++◌, length, Option}
use Rattle.std.specs.Prelude.{Some, None, Result, Ok, if◌then◌else◌}
use Rattle.std.specs.Str.{bytes_eq}
use Rattle.parsing.specs.Results.{◌>>=◌}
use Rattle.listing_lines.specs.declared.refusal.ListingFault.TheVariants.{Syntax, UnknownLabel}
use Rattle.listing_lines.specs.declared.refusal.LineRefusal.{LineRefusal}
use Rattle.listing_lines.specs.declared.lines.Instruction.{Instruction}
use Rattle.listing_lines.specs.declared.lines.Instruction.TheVariants as instruction
use Rattle.listing_lines.specs.declared.lines.Line.{Line}
use Rattle.listing_lines.specs.declared.lines.Line.TheVariants as line
use Rattle.listing_lines.specs.Reading.{or_fault, unless}
use Rattle.listing.specs.declared.marks.Mark.{Mark}

-- Places are told apart up to here, far past the longest code (JVMS 4.7.3, code_length).
abbrev pub past : ℕ
past = 1073741824

-- behind the opcode of a switch, up to the next multiple of four from the code's start
abbrev pub padding : ℕ → ℕ
padding pc = 3 - pc % 4

-- how many bytes an instruction has
abbrev pub size_at : (pc : ℕ) → Instruction → ℕ
size_at pc (instruction.Whole bytes) = length bytes
size_at pc (instruction.Jump opcode label) = 3
size_at pc (instruction.Table low high default labels) = 13 + padding pc + 4 * length labels
size_at pc (instruction.Lookup default pairs) = 9 + padding pc + 8 * length pairs
size_at pc (instruction.Entry opcode entry) = 3
size_at pc (instruction.Interface m count) = 5

-- where the next instruction begins
abbrev pub after : (pc : ℕ) → Instruction → ℕ
after pc i = min past (pc + size_at pc i)

-- A wrong line stands for an instruction of one byte, so that a label before it names one.
abbrev pub place_after : (pc : ℕ) → Line → ℕ
place_after pc (line.Instruction i) = after pc i
place_after pc (line.Wrong kind) = min past (pc + 1)
place_after pc other = pc

abbrev pub label_in : Line → Option (List ℕ)
label_in (line.Label name) = Some name
label_in other = None

abbrev pub is_end : Line → Bool
is_end line.End = true
is_end other = false

abbrev pub mark_at : (pc : ℕ) → Option (List ℕ) → List Mark
mark_at pc None = []
mark_at pc (Some name) = record { name = name; pc = pc } ∷ []

-- the labels of a method from a place of its code on, up to its end, and where the code ends
unfoldable pub marks_from : (pc : ℕ) → List Line → List Mark × ℕ
marks_from pc [] = ([], pc)
marks_from pc (l ∷ rest) =
    if is_end l then ([], pc)
    else (
      mark_at pc (label_in l) ++ (marks_from (place_after pc l) rest).0,
      (marks_from (place_after pc l) rest).1,
    )

-- where the first label of a name stands
unfoldable pub pc_of : List ℕ → List Mark → Option ℕ
pc_of name [] = None
pc_of name (m ∷ marks) = if bytes_eq m.name name then Some m.pc else pc_of name marks

-- Where a label stands that has to name an instruction: one at the end names none.
unfoldable pub target : (marks : List Mark) → (size : ℕ) → List ℕ → Result ℕ LineRefusal
target marks size name = do
  pc ← or_fault UnknownLabel (pc_of name marks)
  within ← unless (not (nat_lt pc size)) Syntax
  Ok pc
