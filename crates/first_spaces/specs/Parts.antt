-- What the first heap of a class set is made of, over an image with a directory and a graph.
use Rattle.std.specs.Prelude.{◌≡◌, ◌≢◌, ℕ, ◌<◌, ◌≤◌, ◌^◌, true, List, [], ◌++◌, map, length, slice_index, slice_index_or, All}
use Rattle.std.specs.Prelude.{AllPairs}
use Rattle.std.specs.Option.{option_map}
use Rattle.line_memory.specs.Memory.{Memory}
use Rattle.graph_model.specs.declared.types.Graph.{Graph}
use Rattle.graph_model.specs.declared.types.Obj.{Obj}
use Rattle.graph_model.specs.declared.types.Shape.{Shape}
use Rattle.graph_model.specs.Heaps.{no_shape}
use Rattle.image_meaning.specs.Directories.{Directory}
use Rattle.plain_model.specs.Consistent.{IsConsistent}
use Rattle.plain_model.specs.Facts.{SetFacts, StaticFacts, classes_of, shapes_of, stream_class, arguments_class, string_number}
use Rattle.plain_model.specs.First.{IsOpening, class_named, lacking_roots}
use Rattle.one_space.specs.declared.parts.FirstParts.{FirstParts}
use Rattle.one_space.specs.First.{constant_now, objects_of}
use Rattle.twin_heap.specs.Here.{kinds_of}
use Rattle.two_spaces.specs.Whole.{AreClasses}
use Rattle.first_spaces.specs.declared.parts.FirstField.{FirstField}
use Rattle.first_spaces.specs.declared.parts.FirstField.TheVariants as field
use Rattle.first_spaces.specs.declared.parts.FirstObjects.{FirstObjects}
use Rattle.first_spaces.specs.declared.parts.SpacesParts.{SpacesParts}
use Rattle.first_spaces.specs.declared.parts.SpacesTables.{SpacesTables}
use Rattle.first_spaces.specs.Opened.{IsOpened}
use Rattle.first_spaces.specs.Slots.{Home, BesideHeap, InSlot, home_of, slot_of}

-- ---- where static fields lie

-- where a field of the parts lies
abbrev pub home_now : FirstField → Home
home_now (field.Beside first) = BesideHeap first.kind (option_map constant_now first.constant)
home_now (field.Root slot) = InSlot slot

-- where the static fields from number 1 on lie: the set's, and then the roots that it lacks
abbrev pub homes : SetFacts → Graph → List Home
homes set opening = map (home_of opening.roots) set.statics ++ map (slot_of opening.roots) (lacking_roots set
    opening)

-- no two durable roots of the set have one name
abbrev pub RootsDiffer : SetFacts → Type 0
RootsDiffer set =
    AllPairs (λ (s t : StaticFacts). s.is_root ≡ true → t.is_root ≡ true → s.name ≢ t.name) set.statics

-- ---- parts

-- what the objects are made of that aren't nodes, as a heap of one space has it
abbrev pub first_in : List Shape → FirstObjects → FirstParts
first_in shapes objects = record {
  shapes = shapes;
  stream = objects.stream;
  arguments = objects.arguments;
  string = objects.string;
  literals = objects.literals;
  statics = [];
}

-- these objects
abbrev pub volatile_objects : FirstObjects → List Obj
volatile_objects objects = objects_of (first_in [] objects)

-- The shapes of the heap are the directory's in their order, and behind them further ones. Each class has one
-- of them, and each of
-- the directory's is that of the class with its name, if there is one.
pub record AreTables (set : SetFacts) (directory : Directory) (tables : SpacesTables) : Type 0 where
  pub further : List Shape
  pub shapes_are : tables.shapes ≡ shapes_of set
  pub heap_shapes_are : tables.heap_shapes ≡ directory.shapes ++ further
  pub few : length tables.heap_shapes ≤ 2 ^ 32
  pub classed : AreClasses tables.shapes (map kinds_of tables.heap_shapes) tables.classes.items
      tables.numbers.items
  pub named : (k : ℕ) → k < length directory.shapes → slice_index tables.classes.items k
      ≡ class_named (classes_of set) (slice_index_or directory.shapes k no_shape).name

-- the objects that aren't nodes, whose classes' shapes are the directory's
pub record AreObjects (set : SetFacts) (directory : Directory) (numbers : List ℕ) (objects : FirstObjects) :
    Type 0
  where
    pub stream_is : objects.stream ≡ stream_class set
    pub arguments_is : objects.arguments ≡ arguments_class set
    pub string_is : objects.string ≡ string_number set
    pub literals_are : objects.literals ≡ set.literals
    -- texts that a String may have (JVMS 4.4.7)
    pub short : All (λ (text : List ℕ). length text < 2 ^ 31) objects.literals
    pub stream_there : slice_index numbers objects.stream < length directory.shapes
    pub arguments_there : slice_index numbers objects.arguments < length directory.shapes
    pub string_there : slice_index numbers objects.string < length directory.shapes

-- The parts are those of this class set and of the roots of this graph.
pub record AreParts (set : SetFacts) (opening : Graph) (directory : Directory) (parts : SpacesParts) : Type 0
  where
    pub consistent : IsConsistent set
    pub tables : AreTables set directory parts.tables
    pub objects : AreObjects set directory parts.tables.numbers.items parts.objects
    pub statics : map home_now parts.statics ≡ homes set opening
    pub roots_differ : RootsDiffer set

-- A run of this class set begins over the image that the memory shows.
pub record IsBeginning (set : SetFacts) (opening : Graph) (directory : Directory) (parts : SpacesParts)
    (lines : List ℕ) (memory : Memory) : Type 0 where
  pub is_opening : IsOpening set opening
  pub is_opened : IsOpened memory directory lines opening
  pub are_parts : AreParts set opening directory parts
