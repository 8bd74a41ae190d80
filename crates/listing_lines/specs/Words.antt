-- The words of a line: what stands between spaces. A word that begins with a quotation mark is a text, and
-- keeps its spaces up to the closing mark. Behind a backslash a quotation mark doesn't close a text.
use Rattle.std.specs.Prelude.{ℕ, ◌==◌, Bool, true, false, List, [], ◌∷◌, ◌++◌, if◌then◌else◌}
use Rattle.listing_lines.specs.declared.words.Mode.{Mode}
use Rattle.listing_lines.specs.declared.words.Mode.TheVariants as mode

-- where a byte leads
abbrev pub next : Mode → ℕ → Mode
next mode.Between b = if b == 32 then mode.Between else (if b == 34 then mode.Text else mode.Word)
next mode.Word b = if b == 32 then mode.Between else mode.Word
next mode.Text b = if b == 34 then mode.Word else (if b == 92 then mode.Escape else mode.Text)
next mode.Escape b = mode.Text

abbrev pub is_between : Mode → Bool
is_between mode.Between = true
is_between other = false

-- a word, unless it has no byte
abbrev pub ended : List ℕ → List (List ℕ)
ended [] = []
ended (b ∷ word) = (b ∷ word) ∷ []

-- the words of the rest of a line, of which one has begun
unfoldable pub words_from : Mode → (word : List ℕ) → List ℕ → List (List ℕ)
words_from before word [] = ended word
words_from before word (b ∷ rest) =
    if is_between (next before b) then ended word ++ words_from mode.Between [] rest
    else words_from (next before b) (word ++ b ∷ []) rest

abbrev pub words : List ℕ → List (List ℕ)
words line = words_from mode.Between [] line
