-- The tables of a class set: what is looked up at once, by number.
use Rattle.std.specs.Prelude.{◌≡◌, ◌≤◌, ◌<◌, ◌^◌, ℕ, ◌+◌, ◌-◌, false, List, [], ◌∷◌, ◌++◌, map, drop, replicate, length, codes}
use Rattle.std.specs.Prelude.{slice_get, Option, Some, None, All}
use Rattle.std.specs.Option.{option_map}
use Rattle.graph_model.specs.declared.types.Shape.{Shape}
use Rattle.class_file.specs.declared.class.ClassFile.{ClassFile}
use Rattle.class_file.specs.declared.field.Field.{Field as FileField}
use Rattle.graph_walks.specs.Order.{visits, visits_from}
use Rattle.graph_walks.specs.Reached.{Vertices}
use Rattle.plain_model.specs.Classes.{ArrayType, Innermost, Numbers, Objects, Missing}
use Rattle.plain_model.specs.BuiltIn.{built_in_count, array_class}
use Rattle.plain_model.specs.Facts.{StaticFacts, Constant, IntConstant, LongConstant, LiteralConstant, SetFacts, array_at}
use Rattle.plain_model.specs.Facts.{shapes_of}
use Rattle.plain_model.specs.Consistent.{super_list}
use Rattle.plain_model.specs.First.{numbers_to}
use Rattle.built_in_table.specs.Members.{MemberFacts}
use Rattle.class_links.specs.Names.{name_of}
use Rattle.class_set.specs.declared.arrays.Listed.TheVariants.{Made}
use Rattle.class_set.specs.declared.members.Found.{Found}
use Rattle.class_set.specs.declared.types.ArrayType.{ArrayType as KeptArray}
use Rattle.class_set.specs.declared.types.Innermost.{Innermost as KeptInnermost}
use Rattle.class_set.specs.declared.types.Innermost.TheVariants as kept
use Rattle.class_set.specs.declared.subtypes.Elements.{Elements}
use Rattle.class_set.specs.declared.subtypes.Elements.TheVariants as elements
use Rattle.class_set.specs.declared.statics.Static.{Static}
use Rattle.class_set.specs.declared.statics.Constant.{Constant as KeptConstant}
use Rattle.class_set.specs.declared.statics.Constant.TheVariants as constant
use Rattle.class_set.specs.Linked.{Linked, names_of}
use Rattle.run_types.specs.declared.resolved.FieldAt.{FieldAt}
use Rattle.class_set.specs.Members.{kind_of, text_at, supers_of, superclasses_in, interface_edges, first_static}
use Rattle.class_set.specs.ArrayTypes.{array_type, begins_with_bracket, listed_arrays}
use Rattle.class_set.specs.Facts.{facts_of, statics_from}
use Rattle.class_set.specs.Lookups.{class_edges}
use Rattle.class_set.specs.Literals.{texts_of, indices_from}

-- The names by number are those of the classes, and behind them stand the array types.
abbrev pub linked_of : List ClassFile → (names : List (List ℕ)) → Linked
linked_of files names = record { files = files; arrays = drop (length files + built_in_count) names }

-- ---- files

-- the counts that a class file has room for, and a name that is no array type's (JVMS 4.1, 4.2.1)
pub record IsSmall (c : ClassFile) : Type 0 where
  pub fields : length c.fields < 2 ^ 16
  pub methods : length c.methods < 2 ^ 16
  pub named : begins_with_bracket (name_of c) ≡ false

-- ---- array types

abbrev pub innermost_now : KeptInnermost → Innermost
innermost_now (kept.Numbers kind) = Numbers kind
innermost_now (kept.Objects n) = Objects n
innermost_now (kept.Missing name) = Missing name

-- what the innermost elements of a type are; of a class itself
abbrev pub elements_now : Elements → Innermost
elements_now (elements.Numbers kind) = Numbers kind
elements_now (elements.Objects n) = Objects n
elements_now (elements.Missing name) = Missing name.now

-- Objects are those of a class, and not of an array type.
abbrev pub AreElements : SetFacts → Innermost → Type 0
AreElements set (Objects n) = array_at set n ≡ None
AreElements set innermost = Unit {0}

abbrev pub array_with : List ℕ → ℕ → KeptInnermost → ArrayType
array_with text dimensions innermost =
    record { descriptor = text; dimensions = dimensions; innermost = innermost_now innermost }

abbrev pub array_now : KeptArray → ArrayType
array_now a = array_with a.descriptor a.dimensions a.innermost

abbrev pub array_shape : ArrayType → Shape
array_shape a = (array_class 0 a).shape

-- of these names the first so many are those of the classes, and the others are array types'
pub record AreNames (files : List ClassFile) (names : List (List ℕ)) (classes : ℕ) : Type 0 where
  pub listed : names ≡ names_of (linked_of files names)
  pub count : classes ≡ length files + built_in_count

-- ---- what stands above a class

-- the superinterfaces of each class in order, and then its superclass
abbrev pub edges_with : (interfaces : List (List ℕ)) → (supers : List (Option ℕ)) → List (List ℕ)
edges_with [] supers = []
edges_with (i ∷ is) [] = []
edges_with (i ∷ is) (s ∷ ss) = (i ++ super_list s) ∷ edges_with is ss

-- no edges lead from any of so many vertices
abbrev pub alone : ℕ → List (List ℕ)
alone n = replicate n []

-- the classes that a class is a subtype of, as a walk finds them
abbrev pub reached_above : (interfaces : List (List ℕ)) → (supers : List (Option ℕ)) → ℕ → Vertices
reached_above interfaces supers n =
    record { reached = visits_from interfaces (superclasses_in supers (length supers) n); count = length interfaces }

-- ---- fields

-- the field of a class that is found at a place, which is its slot or its number
abbrev pub placed_field : ℕ → Option (ℕ × MemberFacts) → Option FieldAt
placed_field class None = None
placed_field class (Some found) = Some (record {
  class = class;
  is_static = found.1.is_static;
  at = found.0;
  kind = kind_of found.1.descriptor;
})

-- ---- static fields

abbrev pub constant_now : KeptConstant → Constant
constant_now (constant.Int i) = IntConstant i
constant_now (constant.Long i) = LongConstant i
constant_now (constant.Literal place) = LiteralConstant place

abbrev pub name_in : ClassFile → Option FileField → List ℕ
name_in c None = []
name_in c (Some f) = name_of c ++ codes "." ++ text_at c.pool f.name

-- the name of a static field: that of its class, and its own, joined by a dot
abbrev pub static_name : List ClassFile → Static → List ℕ
static_name files s = elim (slice_get files s.class) [ None ↦ [] | Some c ↦ name_in c (slice_get c.fields s.place) ]

abbrev pub static_now : List ClassFile → Static → StaticFacts
static_now files s = record {
  name = static_name files s;
  class = s.class;
  kind = s.kind;
  constant = option_map constant_now s.constant;
  is_root = s.is_root;
}

-- ---- the tables

pub record AreTables (files : List ClassFile) (names : List (List ℕ)) (supers : List (Option ℕ)) (literals : List (List ℕ))
    (indices : List (Option ℕ)) : Type 0 where
  pub few : length files ≤ 4096
  pub small : All IsSmall files
  pub named : names ≡ names_of (linked_of files names)
  pub above : supers ≡ supers_of files
  pub texts : literals ≡ texts_of files
  pub starts : indices ≡ indices_from 6 literals

-- those of shapes and array types
pub record AreTypes (files : List ClassFile) (names : List (List ℕ)) (shapes : List Shape) (arrays : List KeptArray) (made : List (List ℕ))
    : Type 0 where
  pub shapes_listed : shapes ≡ shapes_of (facts_of (linked_of files names))
  pub arrays_listed : map array_now arrays ≡ map (array_type files) (linked_of files names).arrays
  pub made_listed : made ≡ listed_arrays Made files

-- those of classes that aren't array types
pub record AreClasses (files : List ClassFile) (orders : List (List ℕ)) (above : List Vertices) (statics : List Static) (firsts : List ℕ)
    : Type 0 where
  pub orders_listed : orders ≡ map (visits (class_edges files)) (numbers_to (length files + built_in_count))
  pub above_listed : above ≡ map (reached_above (interface_edges files) (supers_of files)) (numbers_to (length files + built_in_count))
  pub statics_listed : map (static_now files) statics ≡ statics_from files 0 files
  pub few_statics : length statics < 2 ^ 32 - 1
  pub firsts_listed : firsts ≡ map (first_static files) (numbers_to (length files))

-- what is known of a member that was found: its place, and whether it is static
abbrev pub found_of : Option (ℕ × MemberFacts) → Option Found
found_of None = None
found_of (Some found) = Some (record { place = found.0; is_static = found.1.is_static })
