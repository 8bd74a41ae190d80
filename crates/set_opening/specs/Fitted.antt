-- A directory and a graph that were found, once they were made ready for a class set.
use Rattle.std.specs.Prelude.{◌≡◌, ℕ, ◌<◌, ◌≤◌, List, ◌++◌, length, map, drop, slice_index_or}
use Rattle.graph_model.specs.declared.types.Graph.{Graph}
use Rattle.graph_model.specs.declared.types.Shape.{Shape}
use Rattle.graph_model.specs.Heaps.{no_shape}
use Rattle.image_meaning.specs.Arrays.{null_root}
use Rattle.plain_model.specs.Facts.{SetFacts}
use Rattle.class_set.specs.Linked.{Linked}
use Rattle.class_set.specs.Facts.{facts_of}
use Rattle.class_set.specs.Sets.{IsLinked, made_of}
use Rattle.directories.specs.ClassSets.{Agrees, IsFirstOther, IsPlannedFor, LacksRoomFor}
use Rattle.directories.specs.Kept.{Kept}
use Rattle.set_opening.specs.declared.unopened.Unopened.{Unopened}
use Rattle.set_opening.specs.declared.unopened.Unopened.TheVariants.{BadImage, ShapeChanged, Full, ImageFailed, OutOfMemory}
use Rattle.set_opening.specs.Arrays.{with_arrays_of}

-- each of the shapes agrees with the set
abbrev pub AllAgree : SetFacts → List Shape → Type 0
AllAgree set shapes = (n : ℕ) → n < length shapes → Agrees set (slice_index_or shapes n no_shape)

-- this is the name of the first of the shapes that doesn't agree
pub record IsOtherShape (set : SetFacts) (shapes : List Shape) (name : List ℕ) : Type 0 where
  pub at : ℕ
  pub first : IsFirstOther set shapes at
  pub name_is : name ≡ (slice_index_or shapes at no_shape).name

-- the graph with further roots of these names, which are null
abbrev pub with_null_roots : Graph → List (List ℕ) → Graph
with_null_roots graph names = record graph { roots = graph.roots ++ map null_root names }

-- the fault of shapes that were compared with a set
abbrev pub IsShapeFault : SetFacts → List Shape → Unopened → Type 0
IsShapeFault set shapes (BadImage line reason) = ⊥
IsShapeFault set shapes (ShapeChanged name) = IsOtherShape set shapes name
IsShapeFault set shapes (Full full) = ⊥
IsShapeFault set shapes ImageFailed = ⊥
IsShapeFault set shapes OutOfMemory = Unit {0}

-- and of entries that were planned
abbrev pub IsPlanFault : Linked → Kept → Unopened → Type 0
IsPlanFault set directory (BadImage line reason) = ⊥
IsPlanFault set directory (ShapeChanged name) = ⊥
IsPlanFault set directory (Full full) = LacksRoomFor (facts_of set) (made_of set) directory full
IsPlanFault set directory ImageFailed = ⊥
IsPlanFault set directory OutOfMemory = Unit {0}

-- Each shape agrees with the set, where the directory's array types have numbers. What the directory lacks of its
-- entries is planned, and the graph has the roots of these too.
pub record IsFitted (old set : Linked) (found directory : Kept) (stood graph : Graph) : Type 0 where
  pub agree : AllAgree (facts_of old) found.shapes
  pub set_is : set ≡ with_arrays_of old found.shapes
  pub linked : IsLinked set
  pub few : length set.files ≤ 4096
  pub planned : IsPlannedFor (facts_of set) (made_of set) found directory
  pub graph_is : graph ≡ with_null_roots stood (drop (length stood.roots) directory.roots)

-- the set got numbers for array types alone, in order
abbrev pub HasMoreArrays : Linked → Linked → Type 0
HasMoreArrays old set = (shapes : List Shape) × (set ≡ with_arrays_of old shapes)

-- Why they couldn't be made ready, and what the set is then. The shapes are looked at first, then the room: where
-- that is lacking, the shapes agree.
abbrev pub IsUnfit : Linked → Linked → Kept → Unopened → Type 0
IsUnfit old set found (BadImage line reason) = ⊥
IsUnfit old set found (ShapeChanged name) = IsOtherShape (facts_of old) found.shapes name × (set ≡ old)
IsUnfit old set found (Full full) = AllAgree (facts_of old) found.shapes
    × LacksRoomFor (facts_of set) (made_of set) found full × (set ≡ with_arrays_of old found.shapes)
IsUnfit old set found ImageFailed = ⊥
IsUnfit old set found OutOfMemory = HasMoreArrays old set
