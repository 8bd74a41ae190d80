-- Texts in the order of their bytes, each once.
use Rattle.std.specs.Prelude.{ℕ, Bool, List, [], ◌∷◌}
use Rattle.std.specs.List.{list_any}
use Rattle.std.specs.Str.{bytes_eq}
use Rattle.std.specs.Ordering.{nat_cmp}
use Rattle.std.specs.Cmp.Lexicographic.{slice_cmp}
use Rattle.std.specs.BTreeSet.{insert_key}
use Rattle.std.specs.Global.{Vec}

-- the texts with this one at its place in the order, unless it is there
abbrev pub insert_text : List (List ℕ) → List ℕ → List (List ℕ)
insert_text texts text = insert_key (slice_cmp nat_cmp) texts text

abbrev pub insert_texts : (texts others : List (List ℕ)) → List (List ℕ)
insert_texts texts [] = texts
insert_texts texts (t ∷ ts) = insert_texts (insert_text texts t) ts

-- these texts in order, each once
abbrev pub sorted_texts : List (List ℕ) → List (List ℕ)
sorted_texts texts = insert_texts [] texts

-- a text is among these
abbrev pub has_text : List (List ℕ) → List ℕ → Bool
has_text texts text = list_any (λ t. bytes_eq t text) texts

abbrev pub items_of : Vec ℕ → List ℕ
items_of v = v.items
