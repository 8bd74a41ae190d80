-- Rows of listings: which bytes they are assembled to, and which line of them is bad.
use Rattle.std.specs.Prelude.{◌≡◌, ℕ, List, [], ◌∷◌, ◌++◌, codes, map, Result, Ok, Err}
use Rattle.std.specs.List.{flat_map}
use Rattle.parsing.specs.Results.{◌>>=◌}
use Rattle.listing_lines.specs.declared.refusal.ListingFault.{ListingFault}
use Rattle.listing_lines.specs.declared.refusal.ListingFault.TheVariants.{Syntax, UnknownWord, UnknownLabel, DoubledLabel}
use Rattle.listing_lines.specs.declared.refusal.ListingFault.TheVariants.{BadDescriptor}
use Rattle.listing_lines.specs.declared.lines.Line.{Line}
use Rattle.listing_lines.specs.Lines.{listing_lines}
use Rattle.listing.specs.declared.error.ListingError.{ListingError}
use Rattle.listing.specs.declared.error.ListingError.TheVariants.{Fault}
use Rattle.listing.specs.Pool.{Entries}
use Rattle.listing.specs.Labels.{marks_from}
use Rattle.listing.specs.Members.{code_from, handlers_from}
use Rattle.listing.specs.Classes.{files_from, both, judged, assembled}

-- lines, each with its new line
abbrev pub text : List (List ℕ) → List ℕ
text lines = flat_map (λ line. line ++ 10 ∷ []) lines

-- ---- whole listings

-- the files of a listing's classes
abbrev pub files_of : List (List ℕ) → Result (List (List ℕ)) ListingError
files_of lines =
    both (judged (listing_lines (text lines))) (files_from 1 (listing_lines (text lines)))
    >>= λ files. Ok (map (λ file. file.bytes) files)

abbrev pub class_a_lines : List (List ℕ)
class_a_lines = codes ".class A" ∷ codes ".super java/lang/Object" ∷ []

-- the class file of a class A with the superclass java/lang/Object, and nothing else (JVMS 4.1)
abbrev pub class_a_file : List ℕ
class_a_file =
    202 ∷ 254 ∷ 186 ∷ 190 ∷ 0 ∷ 0 ∷ 0 ∷ 52 ∷ 0 ∷ 5 ∷ 1 ∷ 0 ∷ 1 ∷ 65 ∷ 7 ∷ 0 ∷ 1 ∷ 1 ∷ 0 ∷ 16 ∷ 106 ∷
    97 ∷ 118 ∷ 97 ∷ 47 ∷ 108 ∷ 97 ∷ 110 ∷ 103 ∷ 47 ∷ 79 ∷ 98 ∷ 106 ∷ 101 ∷ 99 ∷ 116 ∷ 7 ∷ 0 ∷ 3 ∷ 0 ∷
    33 ∷ 0 ∷ 2 ∷ 0 ∷ 4 ∷ 0 ∷ 0 ∷ 0 ∷ 0 ∷ 0 ∷ 0 ∷ 0 ∷ 0 ∷ []

-- a class that goes on behind an abstract method
abbrev pub goes_on : List (List ℕ)
goes_on = class_a_lines ++ codes ".method m ()V 0 0 abstract" ∷ codes ".end" ∷ codes ".field x I" ∷ []

-- behind the lines of class A each row's lines are bad at its line, for its reason
abbrev pub AreBad : List (List (List ℕ) × ℕ × ListingFault) → Type 0
AreBad rows =
    map (λ row. assembled (text (class_a_lines ++ row.0))) rows ≡ map (λ row. Err (Fault row.1 row.2)) rows

abbrev pub bad_lines : List (List (List ℕ) × ℕ × ListingFault)
bad_lines =
    -- a label that is nowhere, twice, or at the end
    (codes ".method m ()V 1 1" ∷ codes "goto L" ∷ codes ".end" ∷ [], 4, UnknownLabel) ∷ (
      codes ".method m ()V 1 1" ∷ codes "L:" ∷ codes "L:" ∷ codes "return" ∷ codes ".end" ∷ [],
      5,
      DoubledLabel,
    ) ∷
    (codes ".method m ()V 1 1" ∷ codes "goto L" ∷ codes "L:" ∷ codes ".end" ∷ [], 4, Syntax) ∷
    -- an empty range
    (
      codes ".method m ()V 1 1" ∷ codes "L:" ∷ codes "return" ∷ codes ".catch any L L L" ∷ codes ".end" ∷ [],
      6,
      Syntax,
    ) ∷
    -- a method without an instruction, and one without an end
    (codes ".method m ()V 1 1" ∷ codes ".end" ∷ [], 4, Syntax) ∷
    (codes ".method m ()V 1 1" ∷ codes "return" ∷ [], 5, Syntax) ∷
    -- an instruction outside a method, and one in an abstract method
    (codes "return" ∷ [], 3, Syntax) ∷
    (codes ".method m ()V 0 0 abstract" ∷ codes "return" ∷ codes ".end" ∷ [], 4, Syntax) ∷
    -- two roots of one name
    (codes ".field r LA; static root" ∷ codes ".field r LB; static root" ∷ [], 4, Syntax) ∷
    -- the upper of two
    (codes ".method m ()V 1 1" ∷ codes "goto L" ∷ codes "frob" ∷ codes ".end" ∷ [], 4, UnknownLabel) ∷ (
      codes ".method m ()V 1 1" ∷ codes "goto L" ∷ codes "L:" ∷ codes "frob" ∷ codes ".end" ∷ [],
      6,
      UnknownWord,
    ) ∷
    (codes ".field x Q" ∷ codes "frob" ∷ [], 3, BadDescriptor) ∷
    []

-- ---- codes

abbrev with_labels : List Line → Result (List ℕ × Entries) ListingError
with_labels lines = code_from (marks_from 0 lines).0 (marks_from 0 lines).1 1 0 0 lines []

-- the code of a method, of which these are the lines behind its first, and the entries that it needs
abbrev pub method_code : List (List ℕ) → Result (List ℕ × Entries) ListingError
method_code lines = with_labels (listing_lines (text lines))

-- each row's lines are its code, and need no entry
abbrev pub AreCodes : List (List (List ℕ) × List ℕ) → Type 0
AreCodes rows = map (λ row. method_code row.0) rows ≡ map (λ row. Ok (row.1, [])) rows

abbrev pub jumps : List (List (List ℕ) × List ℕ)
jumps =
    -- back and forth
    (
      codes "L:" ∷ codes "iinc 0 1" ∷ codes "goto L" ∷ codes "return" ∷ codes ".end" ∷ [],
      132 ∷ 0 ∷ 1 ∷ 167 ∷ 255 ∷ 253 ∷ 177 ∷ [],
    ) ∷ (
      codes "goto E" ∷ codes "nop" ∷ codes "E:" ∷ codes "return" ∷ codes ".end" ∷ [],
      167 ∷ 0 ∷ 4 ∷ 0 ∷ 177 ∷ [],
    ) ∷
    -- the padding is counted from the start of the code
    (
      codes "L:" ∷ codes "nop" ∷ codes "tableswitch 5 6 L L L" ∷ codes ".end" ∷ [],
      0 ∷ 170 ∷ 0 ∷ 0 ∷ 255 ∷ 255 ∷ 255 ∷ 255 ∷ 0 ∷ 0 ∷ 0 ∷ 5 ∷ 0 ∷ 0 ∷ 0 ∷ 6 ∷ 255 ∷ 255 ∷ 255 ∷ 255 ∷ 255 ∷
          255 ∷ 255 ∷ 255 ∷ [],
    ) ∷ (
      codes "L:" ∷ codes "lookupswitch L 5 L" ∷ codes ".end" ∷ [],
      171 ∷ 0 ∷ 0 ∷ 0 ∷ 0 ∷ 0 ∷ 0 ∷ 0 ∷ 0 ∷ 0 ∷ 0 ∷ 1 ∷ 0 ∷ 0 ∷ 0 ∷ 5 ∷ 0 ∷ 0 ∷ 0 ∷ 0 ∷ [],
    ) ∷
    []

-- a Long takes two indices, and equal entries stand once
abbrev pub loads : List (List ℕ)
loads = codes "ldc2_w 1" ∷ codes "ldc2_w 1" ∷ codes "ldc 7" ∷ codes "ldc 7" ∷ codes "return" ∷ codes ".end" ∷
    []

abbrev pub loads_code : List ℕ
loads_code = 20 ∷ 0 ∷ 1 ∷ 20 ∷ 0 ∷ 1 ∷ 19 ∷ 0 ∷ 3 ∷ 19 ∷ 0 ∷ 3 ∷ 177 ∷ []

abbrev pub loads_entries : Entries
loads_entries = (5 ∷ 0 ∷ 0 ∷ 0 ∷ 0 ∷ 0 ∷ 0 ∷ 0 ∷ 1 ∷ []) ∷ (3 ∷ 0 ∷ 0 ∷ 0 ∷ 7 ∷ []) ∷ []

-- the exception table of a method, of which these are the lines behind its first
abbrev with_handlers : List Line → Result (ℕ × List ℕ × Entries) ListingError
with_handlers lines = handlers_from (marks_from 0 lines).0 (marks_from 0 lines).1 1 0 lines []

abbrev pub method_handlers : List (List ℕ) → Result (ℕ × List ℕ × Entries) ListingError
method_handlers lines = with_handlers (listing_lines (text lines))

abbrev pub caught : List (List ℕ)
caught =
    codes "L:" ∷ codes "nop" ∷ codes "E:" ∷ codes "nop" ∷ codes "H:" ∷ codes "return" ∷
    codes ".catch A L E H" ∷ codes ".catch any L E H" ∷ codes ".end" ∷ []

-- from 0 up to 1, to 2: a class, and any throwable
abbrev pub caught_table : List ℕ
caught_table = 0 ∷ 0 ∷ 0 ∷ 1 ∷ 0 ∷ 2 ∷ 0 ∷ 2 ∷ 0 ∷ 0 ∷ 0 ∷ 1 ∷ 0 ∷ 2 ∷ 0 ∷ 0 ∷ []

abbrev pub caught_entries : Entries
caught_entries = (1 ∷ 0 ∷ 1 ∷ codes "A") ∷ (7 ∷ 0 ∷ 1 ∷ []) ∷ []
