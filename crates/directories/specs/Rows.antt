-- A small class set: the class Node and the interface Shape, arrays of Nodes and of a class that isn't there, and two durable roots.
use Rattle.std.specs.Prelude.{◌≡◌, ℕ, true, false, Bool, List, [], ◌∷◌, ◌++◌, codes, map, Some, None}
use Rattle.ap_base.specs.declared.kind.Kind.{Kind}
use Rattle.ap_base.specs.declared.kind.Kind.TheVariants.{C, I, L}
use Rattle.graph_model.specs.declared.types.Field.{Field}
use Rattle.graph_model.specs.declared.types.Shape.{Shape}
use Rattle.image_meaning.specs.Entries.{DirectoryEntry, ShapeEntry, RootEntry}
use Rattle.plain_model.specs.Classes.{ClassFacts, ArrayType, Missing}
use Rattle.plain_model.specs.BuiltIn.{field, class_under, interface, object_place, array_of_objects, chars_array}
use Rattle.plain_model.specs.BuiltIn.{arguments_array}
use Rattle.plain_model.specs.Facts.{StaticFacts, SetFacts}
use Rattle.directories.specs.ClassSets.{AreEntriesOf, Agrees}

-- ---- the set

-- a class without elements
abbrev pub class : List ℕ → List Field → Shape
class name fields = record { name = name; fields = fields; element = None }

abbrev pub array : List ℕ → Kind → Shape
array descriptor kind = record { name = descriptor; fields = []; element = Some kind }

abbrev pub node : Shape
node = class (codes "Node") (field (codes "next") L ∷ field (codes "value") I ∷ [])

abbrev pub gone : ArrayType
gone = record { descriptor = codes "[LGone;"; dimensions = 1; innermost = Missing (codes "Gone") }

abbrev pub static : List ℕ → Bool → StaticFacts
static name is_root = record { name = name; class = 0; kind = L; constant = None; is_root = is_root }

abbrev pub set : SetFacts
set = record {
  program = record (class_under 2 (codes "Node") object_place) { shape = node } ∷ interface 2 (codes "Shape") ∷ [];
  arrays = chars_array ∷ arguments_array 2 ∷ gone ∷ array_of_objects (codes "[LNode;") 0 ∷ array_of_objects (codes "[LShape;") 1 ∷ [];
  statics = static (codes "Node.first") true ∷ static (codes "Node.other") false ∷ static (codes "Node.a") true ∷ [];
  literals = [];
}

-- the code makes no array of Shapes
abbrev pub made : List (List ℕ)
made = codes "[C" ∷ codes "[LGone;" ∷ codes "[LNode;" ∷ codes "[Ljava/lang/String;" ∷ []

-- ---- its entries

abbrev pub plain : List ℕ → Shape
plain name = class name []

-- a throwable has a message
abbrev pub thrown : List ℕ → Shape
thrown name = class name (field (codes "message") L ∷ [])

abbrev pub string : Shape
string = record { name = codes "java/lang/String"; fields = []; element = Some C }

abbrev pub string_builder : Shape
string_builder = class (codes "java/lang/StringBuilder") (field (codes "value") L ∷ field (codes "count") I ∷ [])

abbrev pub thread : Shape
thread = class (codes "java/lang/Thread") (field (codes "target") L ∷ [])

-- neither the interfaces nor the arrays that the code doesn't make, nor those of the class that isn't there
abbrev pub shapes : List Shape
shapes =
    node
    ∷ array (codes "[C") C
    ∷ array (codes "[LNode;") L
    ∷ array (codes "[Ljava/lang/String;") L
    ∷ plain (codes "autopersist/Region")
    ∷ plain (codes "java/io/PrintStream")
    ∷ thrown (codes "java/lang/ArithmeticException")
    ∷ thrown (codes "java/lang/ArrayIndexOutOfBoundsException")
    ∷ thrown (codes "java/lang/ArrayStoreException")
    ∷ thrown (codes "java/lang/ClassCastException")
    ∷ thrown (codes "java/lang/Error")
    ∷ thrown (codes "java/lang/Exception")
    ∷ thrown (codes "java/lang/IllegalArgumentException")
    ∷ thrown (codes "java/lang/IllegalMonitorStateException")
    ∷ thrown (codes "java/lang/IllegalStateException")
    ∷ thrown (codes "java/lang/IllegalThreadStateException")
    ∷ thrown (codes "java/lang/IndexOutOfBoundsException")
    ∷ thrown (codes "java/lang/InterruptedException")
    ∷ thrown (codes "java/lang/NegativeArraySizeException")
    ∷ thrown (codes "java/lang/NullPointerException")
    ∷ plain (codes "java/lang/Object")
    ∷ thrown (codes "java/lang/RuntimeException")
    ∷ string
    ∷ string_builder
    ∷ thrown (codes "java/lang/StringIndexOutOfBoundsException")
    ∷ plain (codes "java/lang/System")
    ∷ thread
    ∷ thrown (codes "java/lang/Throwable")
    ∷ thrown (codes "java/lang/UnsupportedOperationException")
    ∷ []

abbrev pub roots : List (List ℕ)
roots = codes "Node.a" ∷ codes "Node.first" ∷ []

abbrev pub SmallSetHasEntries : Type 0
SmallSetHasEntries = AreEntriesOf set made (map ShapeEntry shapes ++ map RootEntry roots)

-- ---- shapes that agree with it, and others

pub record ShapesAgree : Type 0 where
  pub same : Agrees set node
  pub built_in : Agrees set thread
  pub numbers : Agrees set (array (codes "[[I") L)
  pub nodes : Agrees set (array (codes "[[LNode;") L)
  pub renamed_field : Agrees set (class (codes "Node") (field (codes "Next") L ∷ field (codes "value") I ∷ [])) → ⊥
  pub other_kind : Agrees set (class (codes "Node") (field (codes "next") I ∷ field (codes "value") I ∷ [])) → ⊥
  pub other_order : Agrees set (class (codes "Node") (field (codes "value") I ∷ field (codes "next") L ∷ [])) → ⊥
  pub fewer_fields : Agrees set (class (codes "Node") (field (codes "next") L ∷ [])) → ⊥
  pub unknown_class : Agrees set (class (codes "Gone") []) → ⊥
  pub unknown_elements : Agrees set (array (codes "[[LGone;") L) → ⊥
