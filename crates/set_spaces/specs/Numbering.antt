-- How classes and the shapes of a heap are numbered.
use Rattle.std.specs.Prelude.{◌≡◌, ℕ, ◌<◌, ◌≤◌, ◌^◌, List, [], ◌∷◌, ◌++◌, length, slice_index, slice_index_or, Option, Some}
use Rattle.std.specs.Prelude.{None}
use Rattle.graph_model.specs.declared.types.Shape.{Shape}
use Rattle.graph_model.specs.Heaps.{no_shape}
use Rattle.set_spaces.specs.declared.heap.HeapShapes.{HeapShapes}

-- Of each class, the place of one of the first so many that are it; none where none is.
pub record ArePlaces (classes : List ℕ) (so_far count : ℕ) (places : List (Option ℕ)) : Type 0 where
  pub long : length places ≡ count
  pub is : (c k : ℕ) → slice_index_or places c None ≡ Some k → (k < so_far) × (slice_index classes k ≡ c)
  pub all : (k : ℕ) → k < so_far → slice_index classes k < count
      → (j : ℕ) × (slice_index_or places (slice_index classes k) None ≡ Some j)

-- Each shape of the heap that is a class's is that of its class.
pub record AreShapes (shapes : List Shape) (heap : HeapShapes) : Type 0 where
  pub long : length heap.classes.items ≡ length heap.shapes.items
  pub few : length heap.shapes.items ≤ 2 ^ 32
  pub same : (k : ℕ) → k < length heap.shapes.items → slice_index heap.classes.items k < length shapes
      → slice_index_or heap.shapes.items k no_shape
      ≡ slice_index_or shapes (slice_index heap.classes.items k) no_shape

-- the shapes with further ones behind them
pub record Continues (old new : HeapShapes) : Type 0 where
  pub further : List Shape
  pub shapes : new.shapes.items ≡ old.shapes.items ++ further
  pub many : length old.classes.items ≤ length new.classes.items
  pub classes : (k : ℕ) → k < length old.classes.items
      → slice_index new.classes.items k ≡ slice_index old.classes.items k

-- One further shape stands behind the others, and this is its number.
pub record Adds (shape : Shape) (class : ℕ) (old new : HeapShapes) (number : ℕ) : Type 0 where
  pub number_is : number ≡ length old.shapes.items
  pub shapes : new.shapes.items ≡ old.shapes.items ++ shape ∷ []
  pub classes : new.classes.items ≡ old.classes.items ++ class ∷ []
  pub few : length new.shapes.items ≤ 2 ^ 32

-- The class has the shape of the heap at its place, or else a further one.
abbrev pub IsNumbered : Option ℕ → Shape → ℕ → HeapShapes → HeapShapes → ℕ → Type 0
IsNumbered (Some k) shape class old new number = (number ≡ k) × (new ≡ old)
IsNumbered None shape class old new number = Adds shape class old new number

-- The first of the classes have these shapes of the heap, each of which is of that class: those at their
-- places, and further ones.
pub record AreNumbers (shapes : List Shape) (places : List (Option ℕ)) (old new : HeapShapes)
    (numbers : List ℕ) : Type 0 where
  pub are_shapes : AreShapes shapes new
  pub continues : Continues old new
  pub within : (c : ℕ) → c < length numbers → slice_index numbers c < length new.shapes.items
  pub back : (c : ℕ) → c < length numbers → slice_index new.classes.items (slice_index numbers c) ≡ c
  pub placed : (c k : ℕ) → c < length numbers → slice_index_or places c None ≡ Some k
      → slice_index numbers c ≡ k
