-- What is asked of a class set and a directory for the parts of a first heap, and what the parts are.
use Rattle.std.specs.Prelude.{◌≡◌, ◌≢◌, ℕ, ◌<◌, true, List, map, length, slice_index, AllPairs, Contains}
use Rattle.graph_model.specs.declared.types.Graph.{Graph}
use Rattle.graph_model.specs.declared.types.NamedValue.{NamedValue}
use Rattle.graph_model.specs.declared.types.Shape.{Shape}
use Rattle.image_meaning.specs.Directories.{Directory}
use Rattle.plain_model.specs.Facts.{SetFacts, classes_of, class_at}
use Rattle.plain_model.specs.First.{class_named}
use Rattle.class_set.specs.Linked.{Linked}
use Rattle.class_set.specs.Facts.{facts_of}
use Rattle.set_directory.specs.Written.{is_written}
use Rattle.first_spaces.specs.declared.parts.SpacesParts.{SpacesParts}
use Rattle.first_spaces.specs.declared.parts.SpacesTables.{SpacesTables}
use Rattle.first_spaces.specs.Parts.{AreParts}

-- ---- what is asked

-- a shape with the name of a class is that class's
abbrev pub IsOfClass : SetFacts → Shape → Type 0
IsOfClass set shape = class_named (classes_of set) shape.name < length (classes_of set)
    → shape ≡ (class_at set (class_named (classes_of set) shape.name)).shape

-- Each class and array type that has a shape in a directory has one in this one, by its name.
abbrev pub HasShapesOf : Linked → Directory → Type 0
HasShapesOf set directory = (n : ℕ) → is_written set n ≡ true
    → Contains (map (λ (s : Shape). s.name) directory.shapes) (class_at (facts_of set) n).shape.name

-- no two roots of the directory have one name
abbrev pub RootNamesDiffer : Directory → Type 0
RootNamesDiffer directory = AllPairs (λ (name other : List ℕ). name ≢ other) directory.roots

-- ---- what is made

-- The parts are those of the set and of each graph whose roots have the directory's names, in their order.
abbrev pub ArePartsOver : Linked → Directory → SpacesParts → Type 0
ArePartsOver set directory parts =
    (graph : Graph) → map (λ (r : NamedValue). r.name) graph.roots ≡ directory.roots
    → AreParts (facts_of set) graph directory parts

-- Each class and array type that has a shape in a directory has one of this directory's.
abbrev pub ListsClasses : Linked → Directory → SpacesTables → Type 0
ListsClasses set directory tables = (n : ℕ) → is_written set n ≡ true
    → (n < length tables.numbers.items) × (slice_index tables.numbers.items n < length directory.shapes)
