-- Nodes of opening graphs.
use Rattle.std.specs.Prelude.{◌≡◌, ℕ, ◌<◌, ◌^◌, List, length, None, All}
use Rattle.ap_base.specs.declared.kind.Kind.TheVariants.{I}
use Rattle.graph_model.specs.declared.types.Field.{Field}
use Rattle.graph_model.specs.declared.types.Node.{Node}
use Rattle.graph_model.specs.declared.types.Root.{Root}
use Rattle.graph_model.specs.declared.types.Shape.{Shape}
use Rattle.graph_model.specs.Heaps.{IsBelow}
use Rattle.plain_model.specs.Facts.{SetFacts, class_at, classes_of}
use Rattle.plain_model.specs.First.{class_named}
use Rattle.plain_model.specs.Kinds.{AreOf}

-- the shape has so many fields, all of them ints, and no elements
pub record HasInts (shape : Shape) (count : ℕ) : Type 0 where
  pub none : shape.element ≡ None
  pub long : length shape.fields ≡ count
  pub ints : All (λ (f : Field). f.kind ≡ I) shape.fields

-- the node is one of a class of the set, refers to no object, and isn't large
pub record IsNodeOf (set : SetFacts) (node : Node) : Type 0 where
  pub there : class_named (classes_of set) node.shape.name < length (classes_of set)
  pub agrees : (class_at set (class_named (classes_of set) node.shape.name)).shape ≡ node.shape
  pub values : let shape = (class_at set (class_named (classes_of set) node.shape.name)).shape in
      AreOf shape.element shape.fields node.values
  pub below : (n : ℕ) → All (IsBelow n) node.values
  pub short : length node.values < 2 ^ 31

abbrev pub HasName : List ℕ → Root → Type 0
HasName name root = root.name ≡ name
