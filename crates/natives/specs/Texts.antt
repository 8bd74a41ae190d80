-- Texts that built-in methods append and print, and their characters in UTF-8.
use Rattle.std.specs.Prelude.{ℕ, ◌+◌, nat_le, ◌&&◌, Bool, true, false, List, [], ◌∷◌, ◌++◌, length, codes, ℤ, pos, Option, Some}
use Rattle.std.specs.Prelude.{None, if◌then◌else◌}
use Rattle.std.specs.Int.{w64, int_wrap}
use Rattle.std.specs.Ordering.{int_eq}
use Rattle.std.specs.Fmt.{signed_decimal}
use Rattle.std.specs.Char.{encode_utf8}
use Rattle.std.specs.Char.Utf16.{is_high_surrogate, is_low_surrogate, surrogate_pair_char, lone_unit_char}
use Rattle.natives.specs.declared.texts.Spelling.{Spelling}
use Rattle.natives.specs.declared.texts.Spelling.TheVariants.{Ascii, Char}
use Rattle.natives.specs.declared.texts.Text.{Text}
use Rattle.natives.specs.declared.texts.Text.TheVariants.{Spelled, String}
use Rattle.natives.specs.Values.{Values, char_of}

-- the chars of a text that isn't a String
abbrev pub chars_of : Spelling → List ℕ
chars_of (Ascii bytes) = bytes
chars_of (Char c) = c ∷ []

-- a number of 64 bits is spelled in decimal, with a minus before it where it is below 0
abbrev pub number_text : {R : Type 0} → ℤ → Text R
number_text i = Spelled (Ascii (signed_decimal (int_wrap w64 i)))

abbrev pub boolean_text : {R : Type 0} → ℤ → Text R
boolean_text i = Spelled (Ascii (if int_eq i (pos 0) then codes "false" else codes "true"))

abbrev pub char_text : {R : Type 0} → ℤ → Text R
char_text i = Spelled (Char (char_of i))

abbrev pub null_text : {R : Type 0} → Text R
null_text = Spelled (Ascii (codes "null"))

-- what println() prints
abbrev pub line_feed : {R : Type 0} → Text R
line_feed = Spelled (Ascii (10 ∷ []))

-- a reference to a String, or null, which is spelled
abbrev pub string_text : {R V : Type 0} → Values R V → R → Text R
string_text x r = if x.is_null r then null_text else String r

-- what stands for a surrogate without its partner
abbrev pub question : List ℕ
question = codes "?"

-- the bytes of a char that is in no pair
abbrev pub lone_bytes : Option ℕ → List ℕ
lone_bytes None = question
lone_bytes (Some c) = encode_utf8 c

-- The characters, each in UTF-8, that a char ends: none where it may be the first of a pair. `held` is the
-- char before it, where that is such a one.
abbrev pub lone_characters : ℕ → List (List ℕ)
lone_characters c = if is_high_surrogate c then [] else lone_bytes (lone_unit_char c) ∷ []

abbrev pub characters : (held : Option ℕ) → ℕ → List (List ℕ)
characters None c = lone_characters c
characters (Some high) c =
    if is_high_surrogate high && is_low_surrogate c then encode_utf8 (surrogate_pair_char high c) ∷ []
    else question ∷ lone_characters c

abbrev pub held_after : ℕ → Option ℕ
held_after c = if is_high_surrogate c then Some c else None

-- the characters at a text's end: that of a char that waits for its partner, and a line feed after a line
abbrev pub held_character : Option ℕ → List (List ℕ)
held_character None = []
held_character (Some high) = question ∷ []

abbrev pub line_end : Bool → List (List ℕ)
line_end true = (10 ∷ []) ∷ []
line_end false = []

abbrev pub last_characters : Option ℕ → Bool → List (List ℕ)
last_characters held is_line = held_character held ++ line_end is_line

-- all characters of a text that isn't a String
abbrev pub spelled_bytes : Spelling → List ℕ
spelled_bytes (Ascii bytes) = bytes
spelled_bytes (Char c) = lone_bytes (lone_unit_char c)

-- a piece holds at most 24 bytes
abbrev pub fits : List ℕ → List ℕ → Bool
fits piece character = nat_le (length piece + length character) 24
