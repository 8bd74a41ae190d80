-- Names by their places.
use Rattle.std.specs.Prelude.{ℕ, not, List, length, filter, unwrap_or}
use Rattle.text_table.specs.Sorted.{has_text}
use Rattle.text_table.specs.Texts.{place_of}

-- the place of a name among these; one past all where it isn't there
abbrev pub place_in : List (List ℕ) → List ℕ → ℕ
place_in names name = unwrap_or (place_of names name) (length names)

-- those of these names that aren't among a set's own
abbrev pub lacking : (own names : List (List ℕ)) → List (List ℕ)
lacking own names = filter (λ name. not (has_text own name)) names
