-- The first heap and the first world of a class set and an opening graph. Objects are numbered: the nodes
-- of the graph, the object of `System.out`, the empty argument array, the literals. Statics are numbered:
-- `System.out`, the set's static fields, and the graph's roots that the set lacks.
use Rattle.std.specs.Prelude.{◌≡◌, ◌≢◌, ℕ, zero, suc, pos, ◌+◌, ◌<◌, ◌^◌, Bool, true, false, ◌&&◌, List, [], ◌∷◌, ◌++◌, map}
use Rattle.std.specs.Prelude.{length, replicate, filter, Option, Some, None, if◌then◌else◌, nat_eq, All, AllPairs, Contains}
use Rattle.ap_base.specs.declared.kind.Kind.TheVariants.{L}
use Rattle.graph_model.specs.declared.types.Value.{Value}
use Rattle.graph_model.specs.declared.types.Value.TheVariants.{Int, Long, Null, Obj as Object}
use Rattle.graph_model.specs.declared.types.Obj.{Obj}
use Rattle.graph_model.specs.declared.types.Root.{Root}
use Rattle.graph_model.specs.declared.types.Heap.{Heap}
use Rattle.graph_model.specs.declared.types.Node.{Node}
use Rattle.graph_model.specs.declared.types.NamedValue.{NamedValue}
use Rattle.graph_model.specs.declared.types.Graph.{Graph}
use Rattle.graph_model.specs.Heaps.{default_of, IsBelow}
use Rattle.run_history.specs.declared.plain.Progress.{Progress}
use Rattle.run_history.specs.declared.plain.Progress.TheVariants.{Untouched, Finished}
use Rattle.run_history.specs.Worlds.{World, new_thread}
use Rattle.run_history.specs.Knowing.{Knowledge, known_at_first}
use Rattle.plain_model.specs.Classes.{ClassFacts}
use Rattle.plain_model.specs.BuiltIn.{built_in_count}
use Rattle.plain_model.specs.Facts.{StaticFacts, Constant, IntConstant, LongConstant, LiteralConstant, SetFacts, classes_of}
use Rattle.plain_model.specs.Facts.{class_at, shapes_of, stream_class, arguments_class, string_number}
use Rattle.plain_model.specs.Kinds.{HasKind, AreOf, narrowed}

-- equal names, byte by byte
abbrev pub name_is : List ℕ → List ℕ → Bool
name_is [] [] = true
name_is (x ∷ xs) (y ∷ ys) = nat_eq x y && name_is xs ys
name_is [] (y ∷ ys) = false
name_is (x ∷ xs) [] = false

abbrev pub numbers_to : ℕ → List ℕ
numbers_to zero = []
numbers_to (suc n) = numbers_to n ++ n ∷ []

-- the number of the class with this name; one past all where there is none
abbrev pub class_named : List ClassFacts → List ℕ → ℕ
class_named [] name = 0
class_named (c ∷ cs) name = if name_is c.shape.name name then 0 else suc (class_named cs name)

-- the place among these static fields of the durable root with this name, if there is one
abbrev pub root_static : List StaticFacts → List ℕ → Option ℕ
root_static [] name = None
root_static (s ∷ ss) name = if s.is_root && name_is s.name name then Some 0 else (elim (root_static ss name) [ None ↦ None | Some k ↦ Some (suc k) ])

abbrev pub root_value : List NamedValue → List ℕ → Value
root_value [] name = Null
root_value (r ∷ rs) name = if name_is r.name name then r.value else root_value rs name

module _ (set : SetFacts) (opening : Graph) where
  abbrev pub stream_number : ℕ
  stream_number = length opening.nodes

  abbrev pub arguments_number : ℕ
  arguments_number = suc stream_number

  abbrev pub literal_number : ℕ → ℕ
  literal_number k = suc arguments_number + k

  abbrev pub node_object : Node → Obj
  node_object node = record { shape = class_named (classes_of set) node.shape.name; values = node.values }

  abbrev pub literal_object : List ℕ → Obj
  literal_object chars = record { shape = string_number set; values = map (λ c. Int (pos c)) chars }

  abbrev pub first_objects : List Obj
  first_objects =
      map node_object opening.nodes
      ++ record { shape = stream_class set; values = [] }
      ∷ record { shape = arguments_class set; values = [] }
      ∷ map literal_object set.literals

  abbrev pub constant_value : Constant → Value
  constant_value (IntConstant i) = Int i
  constant_value (LongConstant i) = Long i
  constant_value (LiteralConstant k) = Object (literal_number k)

  -- A durable root has the graph's value, and its constant is passed over. Any other field has its
  -- constant, narrowed to its kind, or the default.
  abbrev pub static_value : StaticFacts → Value
  static_value field = if field.is_root then root_value opening.roots field.name else (elim field.constant [
    | None ↦ default_of field.kind
    | Some constant ↦ narrowed field.kind (constant_value constant)
  ])

  abbrev pub is_lacking : NamedValue → Bool
  is_lacking root = elim (root_static set.statics root.name) [ None ↦ true | Some k ↦ false ]

  -- A root that the set lacks is a static that no code names.
  abbrev pub lacking_roots : List NamedValue
  lacking_roots = filter is_lacking opening.roots

  abbrev pub first_statics : List Value
  first_statics = Object stream_number ∷ map static_value set.statics ++ map (λ (r : NamedValue). r.value) lacking_roots

  -- the durable roots in the graph's order, where so many of those before were lacking
  abbrev pub roots_from : ℕ → List NamedValue → List Root
  roots_from lacking [] = []
  roots_from lacking (r ∷ rs) = elim (root_static set.statics r.name) [
    | None ↦ record { name = r.name; at = suc (length set.statics) + lacking } ∷ roots_from (suc lacking) rs
    | Some k ↦ record { name = r.name; at = suc k } ∷ roots_from lacking rs
  ]

  -- The first heap.
  unfoldable pub first_heap : Heap
  first_heap = record {
    shapes = shapes_of set;
    objects = first_objects;
    statics = first_statics;
    roots = roots_from 0 opening.roots;
  }

  -- The program's classes are untouched; the built-in ones and the array types are done from the start.
  abbrev pub first_progress : List Progress
  first_progress =
      replicate (length set.program) Untouched ++ replicate (built_in_count + length set.arrays) Finished

  unfoldable pub first_world : World
  first_world = record {
    heap = first_heap;
    monitors = [];
    classes = first_progress;
    threads = new_thread None ∷ [];
  }

  -- The nodes of the opening graph are durable at first.
  abbrev pub first_known : Knowledge
  first_known = known_at_first first_world (numbers_to (length opening.nodes))

-- What an opening graph of a class set fulfils.
pub record IsOpening (set : SetFacts) (opening : Graph) : Type 0 where
  -- each node's shape has the name of a class of the set
  pub shapes : All (λ (n : Node). class_named (classes_of set) n.shape.name < length (classes_of set)) opening.nodes
  -- which is that class's shape
  pub agree : All (λ (n : Node). (class_at set (class_named (classes_of set) n.shape.name)).shape ≡ n.shape) opening.nodes
  -- each node has a value of its kind, in its range, for each field of that class, or for each element
  pub values : All (λ (n : Node). let shape = (class_at set (class_named (classes_of set) n.shape.name)).shape in
      AreOf shape.element shape.fields n.values) opening.nodes
  -- each durable root of the set is one of the graph's roots, and no two of these have one name
  pub has_roots : All (λ (s : StaticFacts). s.is_root ≡ true
      → Contains (map (λ (r : NamedValue). r.name) opening.roots) s.name) set.statics
  pub names_differ : AllPairs (λ (r s : NamedValue). r.name ≢ s.name) opening.roots
  -- each root is null or an object
  pub references : All (λ (r : NamedValue). HasKind L r.value) opening.roots
  -- each object in a root or in a node is a node
  pub in_roots : All (λ (r : NamedValue). IsBelow (length opening.nodes) r.value) opening.roots
  pub in_nodes : All (λ (n : Node). All (IsBelow (length opening.nodes)) n.values) opening.nodes
  -- the first heap has fewer than 2^32 objects
  pub few : length (first_objects set opening) < 2 ^ 32
