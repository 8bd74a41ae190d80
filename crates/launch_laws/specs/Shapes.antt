-- The shapes of a directory that agrees with a class set are those of its classes, and so are a first heap's.
use Rattle.std.specs.Prelude.{ℕ, ◌<◌, List, length, All}
use Rattle.graph_model.specs.declared.types.Shape.{Shape}
use Rattle.image_meaning.specs.Directories.{Directory}
use Rattle.image_meaning.specs.Entries.{IsShape}
use Rattle.plain_model.specs.Facts.{SetFacts, classes_of, class_at}
use Rattle.plain_model.specs.First.{class_named}
use Rattle.directories.specs.ClassSets.{Agrees}
use Rattle.two_spaces.specs.Seen.{Spaces}
use Rattle.first_spaces.specs.declared.parts.SpacesTables.{SpacesTables}
use Rattle.first_spaces.specs.Beginnings.{HasTables}
use Rattle.first_spaces.specs.Parts.{AreTables}
use Rattle.launch_laws.specs.First.{HasDirectory, IsOfClass}

-- the class with this name, if there is one, has a shape that a directory can have
abbrev pub CanBeInDirectory : SetFacts → List ℕ → Type 0
CanBeInDirectory set name = class_named (classes_of set) name < length (classes_of set)
    → IsShape (class_at set (class_named (classes_of set) name)).shape

-- A shape that a directory can have, and that agrees with the set, is that of the class with its name: their
-- names tell the elements, and each field is kept.
abbrev pub AgreeingShapesAreOfTheirClass : Type 0
AgreeingShapesAreOfTheirClass = (set : SetFacts) (shape : Shape) → IsShape shape → Agrees set shape
    → CanBeInDirectory set shape.name → IsOfClass set shape

-- A heap that was made with these tables has first the shapes of the directory, where each is that of the class
-- with its name.
abbrev pub MadeHeapsHaveTheirDirectory : Type 0
MadeHeapsHaveTheirDirectory = (set : SetFacts) (directory : Directory) (tables : SpacesTables) (s : Spaces)
    → AreTables set directory tables → HasTables tables s → All (IsOfClass set) directory.shapes
    → HasDirectory set directory s
