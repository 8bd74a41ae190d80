-- Texts in quotes, in which \", \\ and \n stand for a quotation mark, a backslash and a new line.
use Rattle.std.specs.Prelude.{ℕ, ◌==◌, Bool, true, false, List, [], ◌∷◌, ◌++◌, Option, Some, None, if◌then◌else◌}
use Rattle.std.specs.Option.{option_and_then}

abbrev pub escaped : ℕ → Option ℕ
escaped b = if b == 34 then Some 34 else (if b == 92 then Some 92 else (if b == 110 then Some 10 else None))

-- the closing mark is the word's last byte
abbrev pub closed : List ℕ → List ℕ → Option (List ℕ)
closed text [] = Some text
closed text (b ∷ rest) = None

-- the text whose rest this is; `behind` says that a backslash stands before it
unfoldable pub text_from : (behind : Bool) → (text : List ℕ) → List ℕ → Option (List ℕ)
text_from behind text [] = None
text_from true text (b ∷ rest) = option_and_then (λ c. text_from false (text ++ c ∷ []) rest) (escaped b)
text_from false text (b ∷ rest) =
    if b == 34 then closed text rest
    else (if b == 92 then text_from true text rest else text_from false (text ++ b ∷ []) rest)

abbrev pub begins_text : List ℕ → Bool
begins_text [] = false
begins_text (b ∷ rest) = b == 34

-- the text that a word spells with its quotation marks
abbrev pub text : List ℕ → Option (List ℕ)
text [] = None
text (b ∷ rest) = if b == 34 then text_from false [] rest else None
