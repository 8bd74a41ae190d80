-- The names of a directory's entries as they are kept beside it, in order.
use Rattle.std.specs.Prelude.{◌≡◌, ℕ, List, map}
use Rattle.graph_model.specs.declared.types.Shape.{Shape}
use Rattle.text_table.specs.Sorted.{has_text}
use Rattle.image_meaning.specs.Directories.{Directory, has_name}
use Rattle.directories.specs.declared.names.Names.{Names}

-- the texts are these names
abbrev pub HaveNames : List (List ℕ) → List (List ℕ) → Type 0
HaveNames texts names = (name : List ℕ) → has_text texts name ≡ has_name names name

-- they are those of the directory's shapes and of its roots
pub record AreNamesOf (directory : Directory) (names : Names) : Type 0 where
  pub shapes : HaveNames names.shapes (map (λ (s : Shape). s.name) directory.shapes)
  pub roots : HaveNames names.roots directory.roots
