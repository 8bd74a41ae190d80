-- What a class set keeps, also where more array types have got numbers; and what a directory of shapes asks of it.
use Rattle.std.specs.Prelude.{◌≢◌, ℕ, Bool, true, false, List, [], ◌∷◌, ◌++◌, length, Option, Some, None, All, AllPairs}
use Rattle.std.specs.Prelude.{Contains, ◌≡◌, if◌then◌else◌}
use Rattle.std.specs.Str.{bytes_eq}
use Rattle.graph_model.specs.declared.types.Shape.{Shape}
use Rattle.class_file.specs.Classes.{CanBeRead}
use Rattle.plain_model.specs.Classes.{ClassFacts, Innermost, Numbers, Objects, Missing}
use Rattle.plain_model.specs.BuiltIn.{built_in_classes}
use Rattle.plain_model.specs.Facts.{SetFacts}
use Rattle.class_links.specs.Links.{Links}
use Rattle.class_set.specs.declared.arrays.Listed.TheVariants.{Made, Needed}
use Rattle.class_set.specs.Linked.{Linked, names_of}
use Rattle.class_set.specs.ArrayTypes.{is_array_type, listed_arrays}

-- The files can be read and link, the array types are some, those that the files need among them, and no two names are the same.
pub record IsLinked (set : Linked) : Type 0 where
  pub readable : All CanBeRead set.files
  pub links : Links set.files
  pub arrays : All (λ text. is_array_type text ≡ true) set.arrays
  pub needed : All (λ text. Contains set.arrays text) (listed_arrays Needed set.files)
  pub names_differ : AllPairs (λ (name other : List ℕ). name ≢ other) (names_of set)

-- the descriptors of the array types that the code makes, in the order of their bytes
abbrev pub made_of : Linked → List (List ℕ)
made_of set = listed_arrays Made set.files

-- the innermost elements are no objects of a class that the set lacks
abbrev pub is_there : Innermost → Bool
is_there (Missing name) = false
is_there (Numbers kind) = true
is_there (Objects n) = true

-- the shape of the first of these classes with this name
abbrev pub shape_in : List ClassFacts → List ℕ → Option Shape
shape_in [] name = None
shape_in (c ∷ classes) name = if bytes_eq c.shape.name name then Some c.shape else shape_in classes name

-- the shape of the class with this name, array types aside
abbrev pub shape_named : SetFacts → List ℕ → Option Shape
shape_named set name = shape_in (set.program ++ built_in_classes (length set.program)) name
