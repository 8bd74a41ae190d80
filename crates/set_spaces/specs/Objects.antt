-- The objects that a run begins with beside an image's, and the shapes of classes by their names.
use Rattle.std.specs.Prelude.{◌≡◌, ℕ, ◌<◌, map, length, slice_index, Contains}
use Rattle.graph_model.specs.declared.types.Shape.{Shape}
use Rattle.image_meaning.specs.Directories.{Directory}
use Rattle.plain_model.specs.Facts.{SetFacts, classes_of, class_at, stream_class, arguments_class, string_number}
use Rattle.first_spaces.specs.declared.parts.FirstObjects.{FirstObjects}
use Rattle.first_spaces.specs.declared.parts.SpacesTables.{SpacesTables}

-- the objects, by their classes
pub record AreObjectsOf (set : SetFacts) (objects : FirstObjects) : Type 0 where
  pub stream_is : objects.stream ≡ stream_class set
  pub arguments_is : objects.arguments ≡ arguments_class set
  pub string_is : objects.string ≡ string_number set
  pub literals_are : objects.literals ≡ set.literals

-- A class of whose name the directory has a shape has one of the directory's.
abbrev pub ListsNamed : SetFacts → Directory → SpacesTables → Type 0
ListsNamed set directory tables = (n : ℕ) → n < length (classes_of set)
    → Contains (map (λ (s : Shape). s.name) directory.shapes) (class_at set n).shape.name
    → slice_index tables.numbers.items n < length directory.shapes
