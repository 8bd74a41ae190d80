-- The names of the durable roots that were met, as a set.
use Rattle.std.specs.Prelude.{◌≡◌, ℕ, List}
use Rattle.std.specs.Borrow.{Bor}
use Rattle.std.specs.List.{list_any}
use Rattle.std.specs.Ordering.{nat_cmp}
use Rattle.std.specs.Cmp.Lexicographic.{slice_cmp}
use Rattle.std.specs.BTreeSet.{BTreeSet, contains_by}
use Rattle.const_pool.specs.Pool.{Slots}
use Rattle.class_file.specs.Members.{is_text}

-- the texts at these indices, and no others
abbrev pub AreTexts : Slots → List ℕ → BTreeSet (Bor (List ℕ)) → Type 0
AreTexts pool indices texts =
    (text : List ℕ) → contains_by (λ k. slice_cmp nat_cmp text k.now) texts ≡ list_any (λ index. is_text pool index text) indices
