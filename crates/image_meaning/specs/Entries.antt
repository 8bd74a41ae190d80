-- The entries of an image's directory, as words: a shape, or a durable root's name. Of this project's own format. A name is spelled eight bytes
-- a word, the first byte the lowest, and filled with zeros. The name of an array's shape is its descriptor (JVMS 4.3.2, in the modified UTF-8 of
-- 4.4.7, without float and double). Any other name may be any bytes: java/lang/String alone has a meaning, and whether a class can have the name
-- (JVMS 4.2.1) isn't asked.
use Rattle.std.specs.Prelude.{◌≡◌, ◌≢◌, ◌<◌, ℕ, zero, suc, ◌+◌, ◌-◌, ◌*◌, ◌/◌, ◌%◌, ◌^◌, ◌==◌, ◌&&◌, nat_eq, min, Bool, true}
use Rattle.std.specs.Prelude.{false, List, [], ◌∷◌, ◌++◌, length, take, drop, is_some, is_none, if◌then◌else◌, Option, Some}
use Rattle.std.specs.Prelude.{None}
use Rattle.std.specs.List.{starts_with, AllByRecursion}
use Rattle.std.specs.Str.{bytes_eq}
use Rattle.ap_base.specs.declared.kind.Kind.{Kind}
use Rattle.ap_base.specs.declared.kind.Kind.TheVariants.{Z, B, C, S, I, J, L, Text}
use Rattle.graph_model.specs.declared.types.Field.{Field}
use Rattle.graph_model.specs.declared.types.Shape.{Shape}
use Rattle.const_pool.specs.Utf8.{bad_place}
use Rattle.const_pool.specs.Parsing.{descriptor_at}

pub data DirectoryEntry : Type 0 where
  ShapeEntry : Shape → DirectoryEntry
  RootEntry : List ℕ → DirectoryEntry

-- ---- spelling

-- the letter of a field's kind; the chars of a String are no field
abbrev pub letter_of : Kind → ℕ
letter_of Z = 90
letter_of B = 66
letter_of C = 67
letter_of S = 83
letter_of I = 73
letter_of J = 74
letter_of L = 76
letter_of Text = 0

-- the number of up to eight bytes
abbrev pub word_of_bytes : List ℕ → ℕ
word_of_bytes [] = 0
word_of_bytes (b ∷ bytes) = b + 256 * word_of_bytes bytes

-- as many words as so many bytes need
abbrev pub words_for : ℕ → ℕ
words_for n = (n + 7) / 8

-- n words of bytes
abbrev pub some_words : ℕ → List ℕ → List ℕ
some_words zero bytes = []
some_words (suc n) bytes = word_of_bytes (take 8 bytes) ∷ some_words n (drop 8 bytes)

abbrev pub name_words : List ℕ → List ℕ
name_words name = some_words (words_for (length name)) name

abbrev pub field_words : Field → List ℕ
field_words field = (letter_of field.kind + 2 ^ 32 * length field.name) ∷ name_words field.name

abbrev pub fields_words : List Field → List ℕ
fields_words [] = []
fields_words (field ∷ fields) = field_words field ++ fields_words fields

-- the words after an entry's first one
abbrev pub entry_body : DirectoryEntry → List ℕ
entry_body (ShapeEntry shape) =
    (length shape.name + 2 ^ 32 * length shape.fields) ∷ name_words shape.name ++ fields_words shape.fields
entry_body (RootEntry name) = length name ∷ name_words name

abbrev pub entry_kind : DirectoryEntry → ℕ
entry_kind (ShapeEntry shape) = 1
entry_kind (RootEntry name) = 2

-- an entry's first word has its kind, and above 32 bits the number of its words
abbrev pub spelled : DirectoryEntry → List ℕ
spelled entry = (entry_kind entry + 2 ^ 32 * (1 + length (entry_body entry))) ∷ entry_body entry

-- ---- which entries there are

-- java/lang/String
abbrev pub string_name : List ℕ
string_name =
    106 ∷ 97 ∷ 118 ∷ 97 ∷ 47 ∷ 108 ∷ 97 ∷ 110 ∷ 103 ∷ 47 ∷ 83 ∷ 116 ∷ 114 ∷ 105 ∷ 110 ∷ 103 ∷ []

-- an array's name begins with [
abbrev pub is_array_name : List ℕ → Bool
is_array_name [] = false
is_array_name (b ∷ name) = b == 91

abbrev pub is_string_name : List ℕ → Bool
is_string_name name = bytes_eq name string_name

-- the kind of a letter, and of anything else that of references
abbrev pub kind_of_letter : ℕ → Kind
kind_of_letter b =
    if b == 90 then Z
    else (if b == 66 then B
    else (if b == 67 then C
    else (if b == 83 then S
    else (if b == 73 then I
    else (if b == 74 then J
    else L)))))

-- the kind of what stands after an array descriptor's first [
abbrev pub component_kind : List ℕ → Kind
component_kind [] = L
component_kind (b ∷ rest) = kind_of_letter b

-- the kind of the elements that objects of this name have, if they have any: an array by its descriptor, a String chars
abbrev pub element_of : List ℕ → Option Kind
element_of name =
    if is_array_name name then Some (component_kind (drop 1 name))
    else (if is_string_name name then Some C else None)

abbrev pub is_nil : List Field → Bool
is_nil [] = true
is_nil (field ∷ fields) = false

-- a descriptor in modified UTF-8, without those of float and double
abbrev pub is_descriptor : List ℕ → Bool
is_descriptor name = is_none (bad_place 0 0 name) && is_some (descriptor_at name)

-- An array's name is a descriptor. Arrays and String have no fields.
unfoldable pub is_shape : List ℕ → List Field → Bool
is_shape name fields =
    if is_array_name name then is_nil fields && is_descriptor name
    else (if is_string_name name then is_nil fields else true)

abbrev pub is_entry : DirectoryEntry → Bool
is_entry (ShapeEntry shape) = is_shape shape.name shape.fields
is_entry (RootEntry name) = true

abbrev pub AreBytes : List ℕ → Type 0
AreBytes bytes = AllByRecursion (λ b. b < 256) bytes

-- a field of a kind that has a letter, which an image keeps
pub record IsField (field : Field) : Type 0 where
  pub name : AreBytes field.name
  pub kind : field.kind ≢ Text
  pub kept : field.kept ≡ true

pub record IsShape (shape : Shape) : Type 0 where
  pub name : AreBytes shape.name
  pub short : length shape.name < 2 ^ 32
  pub fields : AllByRecursion IsField shape.fields
  pub element : shape.element ≡ element_of shape.name
  pub form : is_shape shape.name shape.fields ≡ true

-- what the directory can have
abbrev pub IsEntry : DirectoryEntry → Type 0
IsEntry (ShapeEntry shape) = IsShape shape
IsEntry (RootEntry name) = AreBytes name

-- ---- reading: first what the words would spell, and then whether they do

-- the lowest bytes of a word
abbrev pub bytes_of_word : ℕ → ℕ → List ℕ
bytes_of_word zero w = []
bytes_of_word (suc n) w = w % 256 ∷ bytes_of_word n (w / 256)

-- so many bytes of n words
abbrev pub bytes_from : ℕ → ℕ → List ℕ → List ℕ
bytes_from zero len words = []
bytes_from (suc n) len [] = []
bytes_from (suc n) len (w ∷ words) = bytes_of_word (min len 8) w ++ bytes_from n (len - 8) words

-- a name of so many bytes, and the words behind it
abbrev pub name_from : ℕ → List ℕ → List ℕ
name_from len words = bytes_from (words_for len) len words

abbrev pub behind_name : ℕ → List ℕ → List ℕ
behind_name len words = drop (words_for len) words

abbrev pub fields_from : ℕ → List ℕ → List Field
fields_from zero words = []
fields_from (suc n) [] = []
fields_from (suc n) (w ∷ words) =
    record { name = name_from (w / 2 ^ 32) words; kind = kind_of_letter (w % 2 ^ 32); kept = true }
    ∷ fields_from n (behind_name (w / 2 ^ 32) words)

abbrev pub shape_named : List ℕ → List Field → Shape
shape_named name fields = record { name = name; fields = fields; element = element_of name }

-- what the words after an entry's first one would spell, where that one's kind is this
abbrev pub body_from : ℕ → List ℕ → DirectoryEntry
body_from kind [] = RootEntry []
body_from kind (w ∷ words) =
    if kind == 1 then
    ShapeEntry (shape_named (name_from (w % 2 ^ 32) words) (fields_from (w / 2 ^ 32) (behind_name (w % 2 ^ 32) words)))
    else RootEntry (name_from w words)

abbrev pub entry_from : List ℕ → DirectoryEntry
entry_from [] = RootEntry []
entry_from (w ∷ words) = body_from (w % 2 ^ 32) words

-- The entry that the words begin with, and the words behind it: there is one only where it is spelled so.
unfoldable pub read_entry : List ℕ → Option (DirectoryEntry × List ℕ)
read_entry words =
    let entry = entry_from words in
    if starts_with nat_eq words (spelled entry) && is_entry entry then Some (entry, drop (length (spelled entry)) words)
    else None
