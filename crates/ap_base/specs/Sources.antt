-- What a source of class files gives.
use Rattle.std.specs.Prelude.{◌≡◌, ℕ, List, [], ◌∷◌, drop, Option, Some, None}
use Rattle.ap_base.specs.declared.source.NamedBytes.{NamedBytes}

-- the first of these files, if there is one
abbrev pub first_file : List NamedBytes → Option NamedBytes
first_file [] = None
first_file (file ∷ files) = Some file

-- A call gives the first of the files that a source has left, and leaves the others; none where none is left.
-- A source that doesn't tell what it has goes on not telling it.
abbrev pub Gives : Option (List NamedBytes) → Option NamedBytes → Option (List NamedBytes) → Type 0
Gives None file after = after ≡ None
Gives (Some files) file after = (file ≡ first_file files) × (after ≡ Some (drop 1 files))

-- A source in memory: the files that are left, the numbers of the calls that fail, from 1, and its counts.
pub record SourceState : Type 0 where
  pub left : List NamedBytes
  pub fails : List ℕ
  pub calls : ℕ
  pub faults : ℕ
