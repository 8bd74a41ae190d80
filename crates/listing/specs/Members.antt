-- The bytes of a class's interfaces, fields and methods (JVMS 4.1, 4.5, 4.6, 4.7.3). The entries of the
-- constant pool are added in the order in which the file names them.
use Rattle.std.specs.Prelude.{ℕ, ◌+◌, ◌==◌, ◌||◌, not, nat_lt, min, is_some, Bool, true, false, List, [], ◌∷◌, ◌++◌, length}
use Rattle.std.specs.Prelude.{take, codes, Option, Some, None, Result, Ok, Err, if◌then◌else◌}
use Rattle.byteorder.specs.Endian.{big_bytes}
use Rattle.parsing.specs.Results.{◌>>=◌, placed}
use Rattle.listing_lines.specs.declared.refusal.ListingFault.TheVariants.{Syntax, TooLarge, UnknownLabel, DoubledLabel}
use Rattle.listing_lines.specs.declared.refusal.LineRefusal.{LineRefusal}
use Rattle.listing_lines.specs.declared.refusal.LineRefusal.TheVariants as refusal
use Rattle.listing_lines.specs.declared.lines.Line.{Line}
use Rattle.listing_lines.specs.declared.lines.Line.TheVariants as line
use Rattle.listing_lines.specs.Reading.{or_fault, unless}
use Rattle.listing.specs.declared.error.ListingError.{ListingError}
use Rattle.listing.specs.declared.marks.Mark.{Mark}
use Rattle.listing.specs.declared.members.Section.{Section}
use Rattle.listing.specs.declared.members.Section.TheVariants as section
use Rattle.listing.specs.Pool.{Entries, with_text, with_utf8}
use Rattle.listing.specs.Labels.{after, place_after, is_end, marks_from, pc_of, target}
use Rattle.listing.specs.Code.{instruction_bytes}
use Rattle.listing.specs.Structure.{at, next_number}

-- ---- code

-- the entry covers code, and its handler is an instruction (JVMS 4.7.3)
unfoldable pub handler_places : (marks : List Mark) → (size : ℕ) → (start end handler : List ℕ)
    → Result (ℕ × ℕ × ℕ) LineRefusal
handler_places marks size start end handler = do
  first ← or_fault UnknownLabel (pc_of start marks)
  past ← or_fault UnknownLabel (pc_of end marks)
  handles ← target marks size handler
  covers ← unless (not (nat_lt first past)) Syntax
  Ok (first, past, handles)

-- no list is longer than this
abbrev pub passed_after : ℕ → Line → ℕ
passed_after passed (line.Label name) = min 18446744073709551615 (passed + 1)
passed_after passed other = passed

-- the bytes of a line at a place of the code, behind so many labels
abbrev pub line_code : (marks : List Mark) → (size pc passed : ℕ) → Line → Entries
    → Result (List ℕ × Entries) LineRefusal
line_code marks size pc passed (line.Label name) entries =
    unless (is_some (pc_of name (take passed marks))) DoubledLabel >>= λ once. Ok ([], entries)
line_code marks size pc passed (line.Instruction i) entries =
    unless (nat_lt 65535 (after pc i)) TooLarge >>= λ fits. instruction_bytes marks size pc i entries
line_code marks size pc passed (line.Catch class start end handler) entries =
    handler_places marks size start end handler >>= λ places. Ok ([], entries)
line_code marks size pc passed other entries = Ok ([], entries)

unfoldable pub code_from : (marks : List Mark) → (size number pc passed : ℕ) → List Line → Entries
    → Result (List ℕ × Entries) ListingError
code_from marks size number pc passed [] entries = Ok ([], entries)
code_from marks size number pc passed (l ∷ rest) entries = if is_end l then Ok ([], entries) else (do
  first ← placed (at number) (line_code marks size pc passed l entries)
  others ← code_from marks size (next_number number) (place_after pc l) (passed_after passed l) rest first.1
  Ok (first.0 ++ others.0, others.1))

-- ---- exception table

abbrev pub catch_index : Option (List ℕ) → Entries → Result (ℕ × Entries) LineRefusal
catch_index None entries = Ok (0, entries)
catch_index (Some name) entries = with_text 7 name entries

unfoldable pub handler_bytes : (marks : List Mark) → (size : ℕ) → (class : Option (List ℕ))
    → (start end handler : List ℕ) → Entries → Result (Option (List ℕ) × Entries) LineRefusal
handler_bytes marks size class start end handler entries = do
  places ← handler_places marks size start end handler
  within ← unless (nat_lt 65535 places.1 || nat_lt 65535 places.2) TooLarge
  catch ← catch_index class entries
  Ok (
    Some (big_bytes 2 places.0 ++ big_bytes 2 places.1 ++ big_bytes 2 places.2 ++ big_bytes 2 catch.0),
    catch.1,
  )

abbrev pub handler_item : (marks : List Mark) → (size : ℕ) → Line → Entries
    → Result (Option (List ℕ) × Entries) LineRefusal
handler_item marks size (line.Catch class start end handler) entries =
    handler_bytes marks size class start end handler entries
handler_item marks size other entries = Ok (None, entries)

-- one more item, of which a class file counts at most 65,535
abbrev pub counted : ℕ → Option (List ℕ) → Result ℕ LineRefusal
counted count None = Ok count
counted count (Some item) = if count == 65535 then Err (refusal.Fault TooLarge) else Ok (count + 1)

abbrev pub item_bytes : Option (List ℕ) → List ℕ
item_bytes None = []
item_bytes (Some bytes) = bytes

-- behind so many entries of the exception table: how many there are in the end, and the bytes of the rest
unfoldable pub handlers_from : (marks : List Mark) → (size number count : ℕ) → List Line → Entries
    → Result (ℕ × List ℕ × Entries) ListingError
handlers_from marks size number count [] entries = Ok (count, [], entries)
handlers_from marks size number count (l ∷ rest) entries = if is_end l then Ok (count, [], entries) else (do
  item ← placed (at number) (handler_item marks size l entries)
  next ← placed (at number) (counted count item.0)
  others ← handlers_from marks size (next_number number) next rest item.1
  Ok (others.0, item_bytes item.0 ++ others.1, others.2))

-- ---- members

unfoldable pub member_head : (access : ℕ) → (name descriptor : List ℕ) → Entries
    → Result (List ℕ × Entries) LineRefusal
member_head access name descriptor entries = do
  first ← with_utf8 name entries
  second ← with_utf8 descriptor first.1
  Ok (big_bytes 2 access ++ big_bytes 2 first.0 ++ big_bytes 2 second.0, second.1)

unfoldable pub with_annotations_name : Entries → Result (ℕ × Entries) LineRefusal
with_annotations_name entries = with_utf8 (codes "RuntimeInvisibleAnnotations") entries

unfoldable pub with_root_name : Entries → Result (ℕ × Entries) LineRefusal
with_root_name entries = with_utf8 (codes "Lautopersist/DurableRoot;") entries

-- one attribute of one annotation without pairs
abbrev pub root_bytes : (name mark : ℕ) → List ℕ
root_bytes name mark =
    big_bytes 2 1 ++ big_bytes 2 name ++ big_bytes 4 6 ++ big_bytes 2 1 ++ big_bytes 2 mark ++ big_bytes 2 0

-- the attribute with the annotation of a durable root (JVMS 4.7.17), if it is one
unfoldable pub root_attribute : Entries → Result (List ℕ × Entries) LineRefusal
root_attribute entries = do
  name ← with_annotations_name entries
  mark ← with_root_name name.1
  Ok (root_bytes name.0 mark.0, mark.1)

abbrev pub field_attributes : (root : Bool) → Entries → Result (List ℕ × Entries) LineRefusal
field_attributes false entries = Ok (big_bytes 2 0, entries)
field_attributes true entries = root_attribute entries

unfoldable pub field_bytes : (access : ℕ) → (name descriptor : List ℕ) → (root : Bool) → Entries
    → Result (List ℕ × Entries) LineRefusal
field_bytes access name descriptor root entries = do
  head ← member_head access name descriptor entries
  attributes ← field_attributes root head.1
  Ok (head.0 ++ attributes.0, attributes.1)

abbrev pub code_content : (stack locals : ℕ) → (code : List ℕ) → (count : ℕ) → (handlers : List ℕ) → List ℕ
code_content stack locals code count handlers =
    big_bytes 2 stack ++ big_bytes 2 locals ++ big_bytes 4 (length code) ++ code
    ++ big_bytes 2 count ++ handlers ++ big_bytes 2 0

-- the only attribute of a method
unfoldable pub attribute_bytes : (name : ℕ) → (content : List ℕ) → Result (List ℕ) LineRefusal
attribute_bytes name content = do
  fits ← unless (nat_lt 4294967295 (length content)) TooLarge
  Ok (big_bytes 2 1 ++ big_bytes 2 name ++ big_bytes 4 (length content) ++ content)

-- the Code of a method whose first line has a number
unfoldable pub code_attribute : (number stack locals : ℕ) → List Line → Entries
    → Result (List ℕ × Entries) ListingError
code_attribute number stack locals rest entries = do
  name ← placed (at number) (with_utf8 (codes "Code") entries)
  code ← code_from (marks_from 0 rest).0 (marks_from 0 rest).1 (next_number number) 0 0 rest name.1
  short ← placed (at number) (unless (nat_lt 65535 (length code.0)) TooLarge)
  handlers ← handlers_from (marks_from 0 rest).0 (marks_from 0 rest).1 (next_number number) 0 rest code.1
  attribute ← placed (at number)
      (attribute_bytes name.0 (code_content stack locals code.0 handlers.0 handlers.1))
  Ok (attribute, handlers.2)

abbrev pub method_attributes : (is_abstract : Bool) → (number stack locals : ℕ) → List Line → Entries
    → Result (List ℕ × Entries) ListingError
method_attributes true number stack locals rest entries = Ok (big_bytes 2 0, entries)
method_attributes false number stack locals rest entries = code_attribute number stack locals rest entries

unfoldable pub method_bytes : (number access : ℕ) → (name descriptor : List ℕ) → (stack locals : ℕ)
    → (is_abstract : Bool) → List Line → Entries → Result (List ℕ × Entries) ListingError
method_bytes number access name descriptor stack locals is_abstract rest entries = do
  head ← placed (at number) (member_head access name descriptor entries)
  attributes ← method_attributes is_abstract number stack locals rest head.1
  Ok (head.0 ++ attributes.0, attributes.1)

-- ---- the three sections of a class

abbrev pub Item : Type 0
Item = Result (Option (List ℕ) × Entries) ListingError

abbrev pub some_item : Result (List ℕ × Entries) ListingError → Item
some_item read = read >>= λ found. Ok (Some found.0, found.1)

abbrev pub interface_bytes : List ℕ → Entries → Result (List ℕ × Entries) LineRefusal
interface_bytes name entries = with_text 7 name entries >>= λ index. Ok (big_bytes 2 index.0, index.1)

abbrev pub interface_item : (number : ℕ) → Line → Entries → Item
interface_item number (line.Implements name) entries =
    some_item (placed (at number) (interface_bytes name entries))
interface_item number other entries = Ok (None, entries)

abbrev pub field_item : (number : ℕ) → Line → Entries → Item
field_item number (line.Field access name descriptor root) entries =
    some_item (placed (at number) (field_bytes access name descriptor root entries))
field_item number other entries = Ok (None, entries)

abbrev pub method_item : (number : ℕ) → Line → List Line → Entries → Item
method_item number (line.Method access name descriptor stack locals is_abstract) rest entries =
    some_item (method_bytes number access name descriptor stack locals is_abstract rest entries)
method_item number other rest entries = Ok (None, entries)

-- what a line with a number and the lines behind it give to a section
abbrev pub item_of : Section → (number : ℕ) → Line → List Line → Entries → Item
item_of section.Interfaces number l rest entries = interface_item number l entries
item_of section.Fields number l rest entries = field_item number l entries
item_of section.Methods number l rest entries = method_item number l rest entries

abbrev pub begins_class : Line → Bool
begins_class (line.Class access name) = true
begins_class other = false

-- behind so many items of a section of a class: how many there are in the end, and the bytes of the rest
unfoldable pub section_from : Section → (number count : ℕ) → List Line → Entries
    → Result (ℕ × List ℕ × Entries) ListingError
section_from what number count [] entries = Ok (count, [], entries)
section_from what number count (l ∷ rest) entries = if begins_class l then Ok (count, [], entries) else (do
  item ← item_of what number l rest entries
  next ← placed (at number) (counted count item.0)
  others ← section_from what (next_number number) next rest item.1
  Ok (others.0, item_bytes item.0 ++ others.1, others.2))
