-- Durable roots by the numbers of their static fields.
use Rattle.std.specs.Prelude.{ℕ, suc, ◌+◌, Bool, true, false, ◌&&◌, List, length, Option, Some, None}
use Rattle.plain_model.specs.Facts.{StaticFacts, SetFacts}
use Rattle.plain_model.specs.First.{name_is, root_static}

-- the place behind so many others
abbrev pub behind : ℕ → Option ℕ → Option ℕ
behind n None = None
behind n (Some k) = Some (n + k)

abbrev pub is_none : Option ℕ → Bool
is_none None = true
is_none (Some k) = false

abbrev pub is_root_named : StaticFacts → List ℕ → Bool
is_root_named s name = s.is_root && name_is s.name name

-- the number of a root's static field, where so many of the roots before it were lacking
abbrev pub number_for : SetFacts → Option ℕ → ℕ → ℕ
number_for set (Some k) lacking = suc k
number_for set None lacking = suc (length set.statics) + lacking

abbrev pub root_number : SetFacts → List ℕ → ℕ → ℕ
root_number set name lacking = number_for set (root_static set.statics name) lacking
