-- Texts, each once, in the order in which they were first added, and the place of each.
use Rattle.std.specs.Prelude.{◌≡◌, ℕ, ◌+◌, ◌<◌, ◌^◌, List, [], ◌∷◌, ◌++◌, length, Option, Some, None, if◌then◌else◌}
use Rattle.std.specs.Option.{is_some}
use Rattle.std.specs.Ordering.{nat_cmp}
use Rattle.std.specs.Cmp.Lexicographic.{slice_cmp}
use Rattle.std.specs.Str.{bytes_eq}
use Rattle.std.specs.BTreeMap.{BTreeMap, get_by}
use Rattle.std.specs.Global.{Vec}

-- the place of a text among others, of which the first stands at place n
abbrev pub place_from : ℕ → List (List ℕ) → List ℕ → Option ℕ
place_from n [] text = None
place_from n (t ∷ ts) text = if bytes_eq t text then Some n else place_from (n + 1) ts text

abbrev pub place_of : List (List ℕ) → List ℕ → Option ℕ
place_of texts text = place_from 0 texts text

-- the texts with this one at their end, where it isn't there yet
abbrev pub with_text : List (List ℕ) → List ℕ → List (List ℕ)
with_text texts text = if is_some (place_of texts text) then texts else texts ++ text ∷ []

-- the texts with others behind them, each where it isn't there yet
abbrev pub with_texts : List (List ℕ) → (others : List (List ℕ)) → List (List ℕ)
with_texts texts [] = texts
with_texts texts (t ∷ ts) = with_texts (with_text texts t) ts

-- each text has its place in the map, and no other has one
pub record ArePlaces (texts : List (List ℕ)) (places : BTreeMap (Vec ℕ) ℕ) : Type 0 where
  pub few : length texts < 2 ^ 32
  pub at : (text : List ℕ) → get_by (λ k. slice_cmp nat_cmp text k.items) places ≡ place_of texts text
