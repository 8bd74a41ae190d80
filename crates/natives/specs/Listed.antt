-- At most two characters as a list.
use Rattle.std.specs.Prelude.{ℕ, ◌≤◌, List, [], ◌∷◌, ◌++◌, length, option_to_list}
use Rattle.natives.specs.declared.utf8.FewCharacters.{FewCharacters}

abbrev pub listed : FewCharacters → List (List ℕ)
listed c = option_to_list c.first ++ option_to_list c.second

-- each in UTF-8
abbrev pub AreShort : List (List ℕ) → Type 0
AreShort [] = Unit {0}
AreShort (c ∷ cs) = (length c ≤ 4) × AreShort cs
