-- The names of durable roots.
use Rattle.std.specs.Prelude.{◌≡◌, ℕ, List}
use Rattle.std.specs.Option.{is_some}
use Rattle.plain_model.specs.Facts.{StaticFacts}
use Rattle.plain_model.specs.First.{root_static}
use Rattle.text_table.specs.Texts.{place_of}

-- A name is among these exactly where one of the static fields is a durable root of this name.
abbrev pub AreRootNames : List StaticFacts → List (List ℕ) → Type 0
AreRootNames statics names = (name : List ℕ) → is_some (place_of names name) ≡ is_some (root_static statics name)
