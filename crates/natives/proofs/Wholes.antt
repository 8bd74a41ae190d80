-- Texts, characters and pieces that have bytes, and not too many.
use Rattle.std.proofs.Common.{◌≡◌, refl, ℕ, zero, suc, ◌+◌, ◌-◌, ◌^◌, ◌<◌, ◌≤◌, max, ◌&&◌, Bool, true, false, List, [], ◌∷◌}
use Rattle.std.proofs.Common.{◌++◌, length, drop, ℤ, pos, negsuc, Option, Some, None, if◌then◌else◌, ap, sym, ◌∙◌, subst, arith}
use Rattle.std.proofs.Common.{length-append, length-drop}
use Rattle.std.specs.List.{concat}
use Rattle.std.specs.Ordering.{int_eq}
use Rattle.std.specs.Int.{w64, int_wrap}
use Rattle.std.specs.Int.RustNames.{FitsSigned}
use Rattle.std.specs.Fmt.{decimal, signed_decimal}
use Rattle.std.proofs.lemmas.Fmt.{decimal_nonempty, length-decimal-le}
use Rattle.std.proofs.lemmas.Int.{SFits-int_wrap}
use Rattle.std.specs.Char.{encode_utf8, len_utf8}
use Rattle.std.specs.Char.Utf16.{is_high_surrogate, is_low_surrogate, surrogate_pair_char, lone_unit_char}
use Rattle.std.proofs.lemmas.Str.{length-encode}
use Rattle.std.proofs.lemmas.Bool.Decides.{nat_tests}
use Rattle.ap_base.specs.Pieces.{IsPiece}
use Rattle.natives.specs.declared.texts.Spelling.{Spelling}
use Rattle.natives.specs.declared.texts.Spelling.TheVariants.{Ascii, Char}
use Rattle.natives.specs.declared.texts.Text.{Text}
use Rattle.natives.specs.declared.texts.Text.TheVariants.{Spelled, String}
use Rattle.natives.specs.Values.{Values, char_of}
use Rattle.natives.specs.Texts.{number_text, boolean_text, char_text, null_text, line_feed, string_text, question, lone_bytes}
use Rattle.natives.specs.Texts.{lone_characters, characters, held_after, held_character, line_end, last_characters}
use Rattle.natives.specs.Texts.{spelled_bytes, fits}

-- a piece that is gathered has bytes, if there is one
abbrev pub IsWhole : Option (List ℕ) → Type 0
IsWhole None = Unit {0}
IsWhole (Some piece) = 0 < length piece

abbrev pub IsWholeText : {R : Type 0} → Text R → Type 0
IsWholeText (Spelled spelling) = 0 < length (spelled_bytes spelling)
IsWholeText (String text) = Unit {0}

pub shorter : (n most : ℕ) (piece : List ℕ) → length piece ≤ suc most → length (drop (max 1 n) piece) ≤ most
shorter n most piece few = rw length-drop (omega arith)

pub fits_so : (piece c rest : List ℕ) → length piece + length (c ++ rest) ≤ 24 → fits piece c ≡ true
fits_so piece c rest few = let few_more : length piece + length c ≤ 24 = omega
    (arith, length-append c rest) in grind (arith, nat_tests)

pub together : (piece c rest : List ℕ) → length piece + length (c ++ rest) ≤ 24 → length (piece
    ++ c) + length rest ≤ 24
together piece c rest few = omega (arith, length-append c rest, length-append piece c)

pub apart : (c rest : List ℕ) → length (c ++ rest) ≤ 24 → length c + length rest ≤ 24
apart c rest few = omega (arith, length-append c rest)

pub fewer : (c rest : List ℕ) → length (c ++ rest) ≤ 24 → length rest ≤ 24
fewer c rest few = omega (arith, length-append c rest)

pub longer : (c rest : List ℕ) → 0 < length c → 0 < length (c ++ rest)
longer c rest some = omega (arith, length-append c rest)

pub longer_too : (piece c : List ℕ) → 0 < length c → 0 < length (piece ++ c)
longer_too piece c some = omega (arith, length-append piece c)

pub alone_fits : (c rest : List ℕ) → length (c ++ rest) ≤ 24 → fits [] c ≡ false → ⊥
alone_fits c rest few e = let few_more : length c ≤ 24 = omega (arith, length-append c rest) in grind
    (arith, nat_tests)

-- A character has 1 to 4 bytes.
pub encoded_some : (c : ℕ) → 0 < length (encode_utf8 c)
encoded_some c = let e : length (encode_utf8 c) ≡ len_utf8 c = length-encode c in grind (arith, nat_tests)

pub encoded_few : (c : ℕ) → length (encode_utf8 c) ≤ 4
encoded_few c = let e : length (encode_utf8 c) ≡ len_utf8 c = length-encode c in grind (arith, nat_tests)

pub lone_some : (o : Option ℕ) → 0 < length (lone_bytes o)
lone_some None = omega arith
lone_some (Some c) = encoded_some c

pub lone_few : (o : Option ℕ) → length (lone_bytes o) ≤ 4
lone_few None = omega arith
lone_few (Some c) = encoded_few c

-- what holds of both branches
pub of_either : {A : Type 0} (P : A → Type 0) (b : Bool) (s t : A) → P s → P t → P (if b then s else t)
of_either P true s t first second = first
of_either P false s t first second = second

pub by_bool : {P : Type 0} (b : Bool) → (b ≡ true → P) → (b ≡ false → P) → P
by_bool true first second = first refl
by_bool false first second = second refl

abbrev pub AreWhole : List (List ℕ) → Type 0
AreWhole [] = Unit {0}
AreWhole (c ∷ cs) = (0 < length c) × AreWhole cs

abbrev pub AreFew : ℕ → List (List ℕ) → Type 0
AreFew n cs = length (concat cs) ≤ n

pub alone_few : (n : ℕ) (c : List ℕ) → length c ≤ n → AreFew n (c ∷ [])
alone_few n c few = omega (arith, length-append c [])

pub next_few : (n : ℕ) (c : List ℕ) (cs : List (List ℕ)) → length c ≤ 1 → AreFew n cs → AreFew (suc n) (c
    ∷ cs)
next_few n c cs one few = omega (arith, length-append c (concat cs))

pub lone_whole : (c : ℕ) → AreWhole (lone_characters c)
lone_whole c = of_either AreWhole (is_high_surrogate c) _ _ tt (lone_some (lone_unit_char c), tt)

pub characters_whole : (held : Option ℕ) (c : ℕ) → AreWhole (characters held c)
characters_whole None c = lone_whole c
characters_whole (Some high) c = of_either AreWhole (is_high_surrogate high && is_low_surrogate c) _ _
    (encoded_some (surrogate_pair_char high c), tt) (omega arith, lone_whole c)

pub lone_characters_few : (c : ℕ) → AreFew 4 (lone_characters c)
lone_characters_few c = of_either (AreFew 4) (is_high_surrogate c) _ _ (omega arith)
    (alone_few 4 (lone_bytes (lone_unit_char c)) (lone_few (lone_unit_char c)))

pub characters_few_five : (held : Option ℕ) (c : ℕ) → AreFew 5 (characters held c)
characters_few_five None c = let four : AreFew 4 (lone_characters c) = lone_characters_few c in omega arith
characters_few_five (Some high) c = of_either (AreFew 5) (is_high_surrogate high && is_low_surrogate c) _ _
    (alone_few 5 (encode_utf8 (surrogate_pair_char high c)) (omega (
      arith,
      encoded_few
          (surrogate_pair_char high c),
    )))
    (next_few 4 question (lone_characters c) (omega arith) (lone_characters_few c))

pub characters_few : (held : Option ℕ) (c : ℕ) → AreFew 24 (characters held c)
characters_few held c = omega (arith, characters_few_five held c)

pub last_whole : (held : Option ℕ) (is_line : Bool) → AreWhole (last_characters held is_line)
last_whole None true = (omega arith, tt)
last_whole None false = tt
last_whole (Some high) true = (omega arith, (omega arith, tt))
last_whole (Some high) false = (omega arith, tt)

pub last_few : (held : Option ℕ) (is_line : Bool) → AreFew 24 (last_characters held is_line)
last_few None true = omega arith
last_few None false = omega arith
last_few (Some high) true = omega arith
last_few (Some high) false = omega arith

-- The texts that aren't Strings are pieces.
abbrev pub IsPieceText : {R : Type 0} → Text R → Type 0
IsPieceText (Spelled spelling) = IsPiece (spelled_bytes spelling)
IsPieceText (String text) = Unit {0}

pub whole_text : {R : Type 0} (text : Text R) → IsPieceText text → IsWholeText text
whole_text (Spelled spelling) piece = piece.0
whole_text (String text) piece = tt

pub signed_piece : (z : ℤ) → FitsSigned w64 z → IsPiece (signed_decimal z)
signed_piece (pos n) fit = let below : n < 2 ^ 63 = fit.sfits in (
  decimal_nonempty n (omega arith),
  let short : length (decimal n) ≤ 19 = length-decimal-le 19 n
      (omega arith) (omega arith) (omega arith) in omega arith,
)
signed_piece (negsuc n) fit = let below : n < 2 ^ 63 = fit.sfits in (
  omega arith,
  let short : length (decimal (suc n)) ≤ 19 = length-decimal-le 19 (suc n) (omega arith)
      (omega arith) (omega arith) in omega arith,
)

pub number_piece : (R : Type 0) (i : ℤ) → IsPieceText (number_text {R = R} i)
number_piece R i = signed_piece (int_wrap w64 i) (SFits-int_wrap w64 i)

pub boolean_piece : (R : Type 0) (i : ℤ) → IsPieceText (boolean_text {R = R} i)
boolean_piece R i = of_either IsPiece (int_eq i (pos 0)) _ _ (omega arith, omega arith)
    (omega arith, omega arith)

pub char_piece : (R : Type 0) (i : ℤ) → IsPieceText (char_text {R = R} i)
char_piece R i = (
  lone_some (lone_unit_char (char_of i)),
  let few : length (lone_bytes (lone_unit_char
      (char_of i))) ≤ 4 = lone_few (lone_unit_char (char_of i)) in omega arith,
)

pub string_piece : {R V : Type 0} (x : Values R V) (r : R) → IsPieceText (string_text x r)
string_piece x r = of_either IsPieceText (x.is_null r) _ _ (omega arith, omega arith) tt
