-- Which lines may follow one another, and which line is bad.
use Rattle.std.specs.Prelude.{ℕ, ◌+◌, ◌||◌, nat_lt, min, Bool, true, false, List, [], ◌∷◌, length, Some, Result, Ok, Err}
use Rattle.std.specs.Prelude.{if◌then◌else◌}
use Rattle.parsing.specs.Results.{◌>>=◌, placed}
use Rattle.parsing.specs.Results as results
use Rattle.listing_lines.specs.declared.refusal.ListingFault.TheVariants.{Syntax, TooLarge}
use Rattle.listing_lines.specs.declared.refusal.LineRefusal.{LineRefusal}
use Rattle.listing_lines.specs.declared.refusal.LineRefusal.TheVariants as refusal
use Rattle.listing_lines.specs.declared.lines.Line.{Line}
use Rattle.listing_lines.specs.declared.lines.Line.TheVariants as line
use Rattle.listing_lines.specs.Reading.{unless}
use Rattle.listing.specs.declared.error.ListingError.{ListingError}
use Rattle.listing.specs.declared.error.ListingError.TheVariants as error
use Rattle.listing.specs.declared.structure.Place.{Place}
use Rattle.listing.specs.declared.structure.Place.TheVariants as place

-- what a call gave is what the definition gives, unless memory ran out
abbrev pub Gives : {A B : Type 0} → (A → B) → Result A ListingError → Result B ListingError → Type 0
Gives view result read = results.Gives (Some error.OutOfMemory) view result read

abbrev pub at : (number : ℕ) → LineRefusal → ListingError
at number (refusal.Fault kind) = error.Fault number kind
at number refusal.OutOfMemory = error.OutOfMemory

-- lines past the greatest number have it
abbrev pub next_number : ℕ → ℕ
next_number number = min 4294967295 (number + 1)

abbrev pub Next : Type 0
Next = Result Place LineRefusal

abbrev pub syntax : Next
syntax = Err (refusal.Fault Syntax)

-- the first class is still to come
abbrev pub outside : Line → Next
outside (line.Class access name) = Ok place.Begun
outside other = syntax

-- the superclass is due
abbrev pub begun : Line → Next
begun (line.Super name) = Ok place.Inside
begun other = syntax

abbrev pub inside : Line → Next
inside (line.Class access name) = Ok place.Begun
inside (line.Implements name) = Ok place.Inside
inside (line.Field access name descriptor root) = Ok place.Inside
inside (line.Method access name descriptor stack locals is_abstract) =
    Ok (if is_abstract then place.Abstract else place.Body false)
inside other = syntax

-- within a method, of which an instruction has been or not
abbrev pub body : (coded : Bool) → Line → Next
body coded (line.Label name) = Ok (place.Body coded)
body coded (line.Instruction i) = Ok (place.Body true)
body coded (line.Catch class start end handler) = Ok (place.Body coded)
body true line.End = Ok place.Inside
body coded other = syntax

abbrev pub bodiless : Line → Next
bodiless line.End = Ok place.Inside
bodiless other = syntax

abbrev pub meant : Place → Line → Next
meant place.Outside l = outside l
meant place.Begun l = begun l
meant place.Inside l = inside l
meant (place.Body coded) l = body coded l
meant place.Abstract l = bodiless l

-- where a line leads
abbrev pub next_place : Place → Line → Next
next_place before line.Nothing = Ok before
next_place before (line.Wrong kind) = Err (refusal.Fault kind)
next_place before l = meant before l

-- no text of a class file is as long (JVMS 4.4.7)
abbrev pub is_long : List ℕ → Bool
is_long text = nat_lt 65535 (length text)

-- a name or a descriptor of a line that is no instruction
abbrev pub has_long_text : Line → Bool
has_long_text (line.Class access name) = is_long name
has_long_text (line.Super name) = is_long name
has_long_text (line.Implements name) = is_long name
has_long_text (line.Field access name descriptor root) = is_long name || is_long descriptor
has_long_text (line.Method access name descriptor stack locals is_abstract) =
    is_long name || is_long descriptor
has_long_text (line.Catch (Some class) start end handler) = is_long class
has_long_text other = false

-- where a line leads whose texts are no longer than may be
unfoldable pub place_behind : Place → Line → Next
place_behind before l = do
  behind ← next_place before l
  short ← unless (has_long_text l) TooLarge
  Ok behind

-- a listing may end there
abbrev pub may_end : Place → Bool
may_end place.Outside = true
may_end place.Inside = true
may_end other = false

-- the first line that may not stand where it does, or that is wrong by itself
unfoldable pub structure_from : (number : ℕ) → Place → List Line → Result (Unit {0}) ListingError
structure_from number before [] = if may_end before then Ok tt else Err (error.Fault number Syntax)
structure_from number before (l ∷ rest) = do
  behind ← placed (at number) (place_behind before l)
  structure_from (next_number number) behind rest

abbrev pub structure : List Line → Result (Unit {0}) ListingError
structure lines = structure_from 1 place.Outside lines
