-- What a request list prints of a String, whatever part of a piece each print takes.
use Rattle.std.specs.Prelude.{◌≡◌, ℕ, ◌<◌, ◌≤◌, ◌^◌, Bool, List, [], ◌∷◌, ◌++◌, length, take, map, slice_index, ℤ, pos, negsuc}
use Rattle.std.specs.Prelude.{Option, All}
use Rattle.std.specs.List.{concat}
use Rattle.std.specs.Char.Utf16.{utf16_chars}
use Rattle.run_types.specs.declared.known.Known.{Known}
use Rattle.run_types.specs.declared.resolved.At.{At}
use Rattle.natives.specs.declared.requests.Request.TheVariants as ask
use Rattle.natives.specs.declared.requests.Reply.TheVariants as reply
use Rattle.natives.specs.declared.texts.Text.TheVariants.{String}
use Rattle.natives.specs.Values.{Values}
use Rattle.natives.specs.Texts.{lone_bytes, line_end}
use Rattle.natives.specs.Scripts.{Script, Ask, Call, Return, prints_held}

-- the char of a String at an index
abbrev pub char_of_text : List ℕ → ℤ → ℕ
char_of_text chars (pos i) = slice_index chars i
char_of_text chars (negsuc i) = 0

-- The list prints these bytes where the heap has one String of these chars, in pieces that have a byte.
abbrev pub Prints : {R V : Type 0} → Values R V → List ℕ → Script R V → List ℕ → Type 0
Prints x chars (Ask (ask.Print from piece) goes_on) out = (0 < length piece) × ((n : ℕ) → 0 < n
    → n ≤ length piece
    → (rest : List ℕ) × (take n piece ++ rest ≡ out) × Prints x chars (goes_on (reply.Printed n)) rest)
Prints x chars (Ask (ask.Length from text) goes_on) out =
    Prints x chars (goes_on (reply.Item (x.of_int (pos (length chars))))) out
Prints x chars (Ask (ask.GetElement from text i kind) goes_on) out =
    Prints x chars (goes_on (reply.Item (x.of_int (pos (char_of_text chars i))))) out
Prints x chars (Ask q goes_on) out = Prints x chars (goes_on reply.Done) out
Prints x chars (Call called class receiver goes_on) out = ⊥
Prints x chars (Return value) out = out ≡ []

-- the characters of a text in UTF-8, `?` for a surrogate without its partner
abbrev pub text_bytes : List ℕ → List ℕ
text_bytes chars = concat (map lone_bytes (utf16_chars chars))

-- Printing a String prints its text, and a line feed behind a line.
abbrev pub TextsArePrinted : {R V : Type 0} → Values R V → Type 0
TextsArePrinted {R = R} x = (known : Known) (from : At) (stream text : R) (is_line : Bool) (chars : List ℕ)
    → ((i : ℤ) → x.int_of (x.of_int i) ≡ i) → All (λ c. c < 2 ^ 16) chars
    → Prints x chars (prints_held x known from stream is_line (String text)) (text_bytes chars ++ concat
    (line_end is_line))
