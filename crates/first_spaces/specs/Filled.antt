-- A heap as it is made of an image's objects, and with its first volatile objects and its static fields.
use Rattle.std.specs.Prelude.{◌≡◌, ℕ, ◌+◌, ◌/◌, ◌<◌, ◌≤◌, ◌^◌, List, [], length, map, slice_index, Some, All}
use Rattle.ap_base.specs.declared.reference.Ref.{Ref}
use Rattle.graph_model.specs.declared.types.Shape.{Shape}
use Rattle.line_memory.specs.Memory.{Memory}
use Rattle.one_space.specs.First.{CanBeFirst}
use Rattle.twin_heap.specs.Here.{IsOpening, kinds_of, opened, opening}
use Rattle.two_spaces.specs.Seen.{Spaces, shown_of}
use Rattle.two_spaces.specs.Whole.{AreClasses, Stands}
use Rattle.first_spaces.specs.declared.parts.FirstField.{FirstField}
use Rattle.first_spaces.specs.declared.parts.FirstObjects.{FirstObjects}
use Rattle.first_spaces.specs.declared.parts.SpacesTables.{SpacesTables}
use Rattle.first_spaces.specs.Beginnings.{HasTables}
use Rattle.first_spaces.specs.Growing.{Grows}
use Rattle.first_spaces.specs.Items.{AreNumbered, BeginAll, IsFieldBelow}
use Rattle.first_spaces.specs.Parts.{first_in, volatile_objects}

-- The memory shows objects at these lines, each of a class by these tables, and none in a line of a root
-- slot.
pub record CanBeEmpty (tables : SpacesTables) (lines : List ℕ) (words : ℕ) (memory : Memory) : Type 0 where
  pub few : length lines + words / 3 < 2 ^ 32
  pub opens : IsOpening memory (map kinds_of tables.heap_shapes) lines
  pub behind : (n : ℕ) → n < length lines → 33 ≤ slice_index lines n
  pub classed : (n : ℕ) → n < length lines
      → slice_index tables.classes.items (opened memory (slice_index lines n)).shape < length tables.shapes
  pub classes : AreClasses tables.shapes (map kinds_of tables.heap_shapes) tables.classes.items
      tables.numbers.items

-- The heap has these objects alone, no static field, and so many words.
pub record IsEmpty (tables : SpacesTables) (lines : List ℕ) (words : ℕ) (memory : Memory) (s : Spaces) : Type
    0 where
  pub stands : Stands s (opening memory lines)
  pub tables_are : HasTables tables s
  pub memory_is : s.twin.memory ≡ memory
  pub left : s.twin.space.left ≡ words
  pub statics : s.statics ≡ []

-- what volatile objects and static fields are made of is there
pub record CanBeFilled (shapes : List Shape) (objects : FirstObjects) (fields : List FirstField) : Type 0
  where
    pub first : CanBeFirst (first_in shapes objects)
    pub below : All (λ (f : FirstField). IsFieldBelow (length objects.literals) f) fields

-- The heap has been given these objects and these static fields.
pub record IsFilled (objects : FirstObjects) (fields : List FirstField) (before now : Spaces) (arguments :
    Ref)
    (literals : List Ref) : Type 0 where
  pub grown : Grows (volatile_objects objects) before (record now { statics = before.statics })
  pub stream : Ref
  pub stream_is : (shown_of now).number stream ≡ Some (length (shown_of before).objects)
  pub arguments_is : (shown_of now).number arguments ≡ Some (1 + length (shown_of before).objects)
  pub literals_are : AreNumbered (shown_of now).number (2 + length (shown_of before).objects) literals
  pub long : length literals ≡ length objects.literals
  pub statics_are : BeginAll stream literals fields now.statics
