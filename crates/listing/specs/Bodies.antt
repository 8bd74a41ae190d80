-- The lines of methods, each with a constant pool of its own: what is bad about one whatever else its class
-- has.
use Rattle.std.specs.Prelude.{ℕ, List, [], ◌∷◌, Result, Ok, if◌then◌else◌}
use Rattle.parsing.specs.Results.{◌>>=◌, placed}
use Rattle.listing_lines.specs.declared.refusal.LineRefusal.{LineRefusal}
use Rattle.listing_lines.specs.declared.lines.Line.{Line}
use Rattle.listing_lines.specs.declared.lines.Line.TheVariants as line
use Rattle.listing.specs.declared.error.ListingError.{ListingError}
use Rattle.listing.specs.declared.marks.Mark.{Mark}
use Rattle.listing.specs.Labels.{place_after, is_end, marks_from}
use Rattle.listing.specs.Structure.{at, next_number}
use Rattle.listing.specs.Members.{passed_after, line_code}

-- the line has its bytes, its labels being right
abbrev pub line_alone : (marks : List Mark) → (size pc passed : ℕ) → Line → Result (Unit {0}) LineRefusal
line_alone marks size pc passed l = line_code marks size pc passed l [] >>= λ found. Ok tt

-- the first bad line of a method from a place of its code on, up to its end
unfoldable pub body_from : (marks : List Mark) → (size number pc passed : ℕ) → List Line
    → Result (Unit {0}) ListingError
body_from marks size number pc passed [] = Ok tt
body_from marks size number pc passed (l ∷ rest) = if is_end l then Ok tt else (do
  alone ← placed (at number) (line_alone marks size pc passed l)
  body_from marks size (next_number number) (place_after pc l) (passed_after passed l) rest)

-- the first bad line of all methods
unfoldable pub bodies_from : (number : ℕ) → List Line → Result (Unit {0}) ListingError
bodies_from number [] = Ok tt
bodies_from number (line.Method access name descriptor stack locals is_abstract ∷ rest) = do
  body ← body_from (marks_from 0 rest).0 (marks_from 0 rest).1 (next_number number) 0 0 rest
  bodies_from (next_number number) rest
bodies_from number (other ∷ rest) = bodies_from (next_number number) rest
