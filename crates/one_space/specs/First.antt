-- The first heap of a class set without durable roots.
use Rattle.std.specs.Prelude.{◌≡◌, ℕ, ◌+◌, ◌-◌, ◌<◌, ◌≤◌, ◌^◌, pos, true, false, List, [], ◌∷◌, map, length, take, sum_by}
use Rattle.std.specs.Prelude.{slice_index_or, Option, Some, None, All}
use Rattle.std.specs.Option.{option_map}
use Rattle.ap_base.specs.declared.kind.Kind.{Kind}
use Rattle.ap_base.specs.declared.kind.Kind.TheVariants.{C, L}
use Rattle.ap_base.specs.declared.reference.Ref.TheVariants.{Volatile}
use Rattle.ap_base.specs.declared.reference.Ref.{Ref}
use Rattle.run_types.specs.declared.fault.Full.{Full}
use Rattle.run_types.specs.declared.fault.Which.TheVariants.{VolatileWords}
use Rattle.run_types.specs.declared.limits.Limits.{Limits}
use Rattle.graph_model.specs.declared.types.Value.{Value}
use Rattle.graph_model.specs.declared.types.Value.TheVariants.{Int, Long, Obj as Object}
use Rattle.graph_model.specs.declared.types.Obj.{Obj}
use Rattle.graph_model.specs.declared.types.Shape.{Shape}
use Rattle.graph_model.specs.declared.types.Graph.{Graph}
use Rattle.graph_model.specs.Heaps.{no_object, no_shape, default_of}
use Rattle.plain_model.specs.Facts.{SetFacts, StaticFacts, Constant, IntConstant, LongConstant, LiteralConstant, shapes_of}
use Rattle.plain_model.specs.Facts.{stream_class, arguments_class, string_number}
use Rattle.plain_model.specs.Kinds.{narrowed}
use Rattle.plain_model.specs.First.{first_heap}
use Rattle.plain_model.specs.Limits.{words_of, words_taken, words_left}
use Rattle.shared_objects.specs.Shown.{Shown}
use Rattle.shared_objects.specs.Worlds.{heap_of}
use Rattle.one_space.specs.declared.failing.NoFirstHeap.{NoFirstHeap}
use Rattle.one_space.specs.declared.failing.NoFirstHeap.TheVariants as failing
use Rattle.one_space.specs.declared.parts.FirstParts.{FirstParts}
use Rattle.one_space.specs.declared.parts.FirstStatic.{FirstStatic}
use Rattle.one_space.specs.declared.parts.FirstConstant.{FirstConstant}
use Rattle.one_space.specs.declared.parts.FirstConstant.TheVariants as constant

abbrev pub constant_now : FirstConstant → Constant
constant_now (constant.Int i) = IntConstant i
constant_now (constant.Long i) = LongConstant i
constant_now (constant.Literal k) = LiteralConstant k

-- the kind of a static field, and its constant
abbrev pub first_of_part : FirstStatic → Kind × Option Constant
first_of_part s = (s.kind, option_map constant_now s.constant)

abbrev pub first_of_field : StaticFacts → Kind × Option Constant
first_of_field s = (s.kind, s.constant)

-- the parts are those of this class set, which has no durable root
pub record IsFirstOf (set : SetFacts) (parts : FirstParts) : Type 0 where
  pub shapes : parts.shapes ≡ shapes_of set
  pub stream : parts.stream ≡ stream_class set
  pub arguments : parts.arguments ≡ arguments_class set
  pub string : parts.string ≡ string_number set
  pub literals : parts.literals ≡ set.literals
  pub statics : map first_of_part parts.statics ≡ map first_of_field set.statics
  pub no_roots : All (λ (s : StaticFacts). s.is_root ≡ false) set.statics

abbrev pub shape_of_part : FirstParts → ℕ → Shape
shape_of_part parts class = slice_index_or parts.shapes class no_shape

-- the constant is a number, or one of so many literals
abbrev pub IsPartBelow : ℕ → Option FirstConstant → Type 0
IsPartBelow n (Some (constant.Literal k)) = k < n
IsPartBelow n other = Unit {0}

-- What objects are made of is there: a class without slots, types of references and of chars, texts that a
-- String may have (JVMS 4.4.7), and the literals that are constants.
pub record CanBeFirst (parts : FirstParts) : Type 0 where
  pub stream : parts.stream < length parts.shapes
  pub no_elements : (shape_of_part parts parts.stream).element ≡ None
  pub no_fields : (shape_of_part parts parts.stream).fields ≡ []
  pub arguments : parts.arguments < length parts.shapes
  pub references : (shape_of_part parts parts.arguments).element ≡ Some L
  pub string : parts.string < length parts.shapes
  pub chars : (shape_of_part parts parts.string).element ≡ Some C
  pub short : All (λ (text : List ℕ). length text < 2 ^ 31) parts.literals
  pub constants : All (λ (s : FirstStatic). IsPartBelow (length parts.literals) s.constant) parts.statics

abbrev pub no_graph : Graph
no_graph = record { roots = []; nodes = [] }

abbrev pub text_object : ℕ → List ℕ → Obj
text_object class chars = record { shape = class; values = map (λ c. Int (pos c)) chars }

-- the objects of the parts
abbrev pub objects_of : FirstParts → List Obj
objects_of parts =
    record { shape = parts.stream; values = [] } ∷ record { shape = parts.arguments; values = [] }
    ∷ map (text_object parts.string) parts.literals

-- the index of the first word of each of these objects, where they lie one after another
abbrev pub index_in : List Obj → ℕ → ℕ
index_in objects n = sum_by words_of (take n objects)

-- the value of a constant. The stream and the arguments come before the literals.
abbrev pub first_constant : Constant → Value
first_constant (IntConstant i) = Int i
first_constant (LongConstant i) = Long i
first_constant (LiteralConstant k) = Object (2 + k)

-- What a static field that is no durable root holds at first: its constant, as a place of its kind keeps it,
-- or the default (JVMS 2.3, 2.4, 4.7.2).
abbrev pub first_value : Kind → Option Constant → Value
first_value kind None = default_of kind
first_value kind (Some c) = narrowed kind (first_constant c)

abbrev pub value_of : Kind × Option Constant → Value
value_of field = first_value field.0 field.1

abbrev pub part_value : FirstStatic → Value
part_value s = value_of (first_of_part s)

-- A heap shows the plain first heap. The objects lie one after another in the order of their numbers, and of
-- so many words those are left that they don't take.
pub record ShowsFirst (set : SetFacts) (words : ℕ) (shown : Shown) : Type 0 where
  pub heap : heap_of [] shown ≡ first_heap set no_graph
  pub places : (n : ℕ) → n < length shown.objects
      → shown.number (Volatile (index_in shown.objects n)) ≡ Some n
  pub keys : (r : Ref) → shown.is_key r ≡ true
  pub within : words_taken no_graph (first_heap set no_graph) ≤ words
  pub left : (limits : Limits) → limits.heap_words ≡ words
      → shown.left ≡ words_left limits no_graph (first_heap set no_graph)

-- one of these objects takes more words than those before it have left
pub record LacksWords (words : ℕ) (objects : List Obj) (answer : Full) : Type 0 where
  pub n : ℕ
  pub there : n < length objects
  pub within : index_in objects n ≤ words
  pub full : answer ≡ record {
    which = VolatileWords;
    need = words_of (slice_index_or objects n no_object);
    left = words - index_in objects n;
  }
  pub short : words - index_in objects n < words_of (slice_index_or objects n no_object)

abbrev pub IfFull : NoFirstHeap → (Full → Type 0) → Type 0
IfFull (failing.Full answer) P = P answer
IfFull failing.OutOfMemory P = Unit {0}
