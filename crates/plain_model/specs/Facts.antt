-- What a class set tells, as plain data: the program's classes, array types, static fields and string
-- literals. All else is computed. Classes are numbered from 0: the program's in the order in which their
-- files were read, the built-in ones by their names' bytes, the array types as they are given.
use Rattle.std.specs.Prelude.{ℕ, zero, suc, ℤ, ◌+◌, ◌-◌, Bool, true, false, nat_eq, nat_lt, ◌&&◌, ◌||◌, List, [], ◌∷◌, ◌++◌}
use Rattle.std.specs.Prelude.{map, length, codes, slice_get, slice_index_or, Option, Some, None, if◌then◌else◌}
use Rattle.std.specs.List.{flat_map}
use Rattle.std.specs.Str.{bytes_eq}
use Rattle.ap_base.specs.declared.kind.Kind.{Kind}
use Rattle.ap_base.specs.declared.kind.Kind.TheVariants.{Z, B, C, S, I, J}
use Rattle.run_types.specs.declared.known.Known.{Known as KnownClasses}
use Rattle.graph_model.specs.declared.types.Shape.{Shape}
use Rattle.graph_model.specs.Heaps.{has_number}
use Rattle.plain_model.specs.declared.throws.Throws.{Throws}
use Rattle.plain_model.specs.declared.throws.Throws.TheVariants.{NegativeArraySize, NullPointer, ArrayIndexOutOfBounds}
use Rattle.plain_model.specs.declared.throws.Throws.TheVariants.{StringIndexOutOfBounds, ArrayStore, ClassCast}
use Rattle.plain_model.specs.declared.throws.Throws.TheVariants.{IllegalMonitorState, IllegalThreadState, IllegalState}
use Rattle.plain_model.specs.declared.throws.Throws.TheVariants.{Arithmetic}
use Rattle.plain_model.specs.Classes.{ClassFacts, ArrayType, Innermost, Numbers, Objects, Missing, no_class}
use Rattle.plain_model.specs.BuiltIn.{built_in_count, built_in_classes, array_class}
use Rattle.plain_model.specs.BuiltIn as place

-- the ConstantValue of a static field (JVMS 4.7.2): a number, or a literal by its place among the set's
-- literals
pub data Constant : Type 0 where
  IntConstant : ℤ → Constant
  LongConstant : ℤ → Constant
  LiteralConstant : ℕ → Constant

-- A static field: its name, class and field joined by a dot, its class, its kind, its constant, and whether
-- it is a durable root.
pub record StaticFacts : Type 0 where
  pub name : List ℕ
  pub class : ℕ
  pub kind : Kind
  pub constant : Option Constant
  pub is_root : Bool

pub record SetFacts : Type 0 where
  pub program : List ClassFacts
  pub arrays : List ArrayType
  -- static fields by class and declared order, from number 1 on; number 0 is `java/lang/System.out`
  pub statics : List StaticFacts
  -- the chars (UTF-16 code units) of the distinct string literals, classes in file order, each in pool order
  pub literals : List (List ℕ)

-- ---- classes by number

abbrev pub built_in_number : SetFacts → ℕ → ℕ
built_in_number set k = length set.program + k

-- how many classes there are that aren't array types; the first array type has this number
abbrev pub class_count : SetFacts → ℕ
class_count set = length set.program + built_in_count

abbrev pub classes_of : SetFacts → List ClassFacts
classes_of set =
    set.program ++ built_in_classes (length set.program) ++ map (array_class (length set.program)) set.arrays

abbrev pub class_at : SetFacts → ℕ → ClassFacts
class_at set n = slice_index_or (classes_of set) n no_class

abbrev pub shapes_of : SetFacts → List Shape
shapes_of set = map (λ (c : ClassFacts). c.shape) (classes_of set)

abbrev pub element_of : SetFacts → ℕ → Option Kind
element_of set n = (class_at set n).shape.element

-- the array type with this number, if it is one's
abbrev pub array_at : SetFacts → ℕ → Option ArrayType
array_at set n = if nat_lt n (class_count set) then None else slice_get set.arrays (n - class_count set)

-- the place of the array type with this descriptor; one past all where there is none
abbrev pub array_place : List ArrayType → List ℕ → ℕ
array_place [] descriptor = 0
array_place (a ∷ arrays) descriptor = if bytes_eq a.descriptor descriptor then 0 else suc (array_place arrays descriptor)

abbrev pub array_named : SetFacts → List ℕ → ℕ
array_named set descriptor = class_count set + array_place set.arrays descriptor

-- ---- the classes that the runtime knows

-- the class of the object in `System.out`
abbrev pub stream_class : SetFacts → ℕ
stream_class set = built_in_number set place.print_stream_place

-- the class of the argument array of `main`
abbrev pub arguments_class : SetFacts → ℕ
arguments_class set = array_named set (codes "[Ljava/lang/String;")

abbrev pub string_number : SetFacts → ℕ
string_number set = built_in_number set place.string_place

abbrev pub known_classes : SetFacts → KnownClasses
known_classes set = record {
  chars = array_named set (codes "[C");
  string = string_number set;
  object = built_in_number set place.object_place;
  runnable = built_in_number set place.runnable_place;
  builder = built_in_number set place.string_builder_place;
  thread = built_in_number set place.thread_place;
  throwable = built_in_number set place.throwable_place;
}

-- the class of what a request throws
abbrev pub thrown_place : Throws → ℕ
thrown_place NegativeArraySize = place.negative_array_size_exception_place
thrown_place NullPointer = place.null_pointer_exception_place
thrown_place ArrayIndexOutOfBounds = place.array_index_out_of_bounds_exception_place
thrown_place StringIndexOutOfBounds = place.string_index_out_of_bounds_exception_place
thrown_place ArrayStore = place.array_store_exception_place
thrown_place ClassCast = place.class_cast_exception_place
thrown_place IllegalMonitorState = place.illegal_monitor_state_exception_place
thrown_place IllegalThreadState = place.illegal_thread_state_exception_place
thrown_place IllegalState = place.illegal_state_exception_place
thrown_place Arithmetic = place.arithmetic_exception_place

abbrev pub thrown_class : SetFacts → Throws → ℕ
thrown_class set throws = built_in_number set (thrown_place throws)

-- ---- subtypes (JVMS 4.10.1.2)

-- a class, its superclass, and so on, at most so many above it
abbrev pub superclasses_from : List ClassFacts → ℕ → ℕ → List ℕ
superclasses_from classes zero n = n ∷ []
superclasses_from classes (suc more) n = n ∷ (elim (slice_index_or classes n no_class).superclass [
  | None ↦ []
  | Some super ↦ superclasses_from classes more super
])

-- the superinterfaces of a class, theirs, and so on, at most so many above one another
abbrev pub interfaces_from : List ClassFacts → ℕ → ℕ → List ℕ
interfaces_from classes zero n = []
interfaces_from classes (suc more) n =
    flat_map (λ i. i ∷ interfaces_from classes more i) (slice_index_or classes n no_class).interfaces

-- No circle of classes leads further up than there are classes beside array types.
abbrev pub superclasses_of : SetFacts → ℕ → List ℕ
superclasses_of set n = superclasses_from (classes_of set) (class_count set) n

abbrev pub interfaces_of : SetFacts → ℕ → List ℕ
interfaces_of set n = interfaces_from (classes_of set) (class_count set) n

-- the class itself, its superclasses, and all their superinterfaces
abbrev pub supertypes_of : SetFacts → ℕ → List ℕ
supertypes_of set n = superclasses_of set n ++ flat_map (interfaces_of set) (superclasses_of set n)

abbrev pub is_subclass : SetFacts → ℕ → ℕ → Bool
is_subclass set n target = has_number (supertypes_of set n) target

abbrev pub is_same_kind : Kind → Kind → Bool
is_same_kind Z Z = true
is_same_kind B B = true
is_same_kind C C = true
is_same_kind S S = true
is_same_kind I I = true
is_same_kind J J = true
is_same_kind kind other = false

-- A type has a number of dimensions, none for a class, and innermost elements, a class itself.
abbrev pub dimensions_of : SetFacts → ℕ → ℕ
dimensions_of set n = elim (array_at set n) [ None ↦ 0 | Some a ↦ a.dimensions ]

abbrev pub innermost_of : SetFacts → ℕ → Innermost
innermost_of set n = elim (array_at set n) [ None ↦ Objects n | Some a ↦ a.innermost ]

abbrev pub is_sub_innermost : SetFacts → Innermost → Innermost → Bool
is_sub_innermost set (Numbers kind) (Numbers other) = is_same_kind kind other
is_sub_innermost set (Objects n) (Objects target) = is_subclass set n target
is_sub_innermost set (Missing name) (Missing other) = bytes_eq name other
is_sub_innermost set innermost other = false

-- Object, Cloneable or Serializable, of which every array type is a subtype
abbrev pub is_above_arrays : SetFacts → Innermost → Bool
is_above_arrays set (Objects n) =
    nat_eq n (built_in_number set place.object_place) || nat_eq n (built_in_number set place.cloneable_place)
    || nat_eq n (built_in_number set place.serializable_place)
is_above_arrays set innermost = false

-- whether a type of so many dimensions and such innermost elements is a subtype of another
abbrev pub is_subtype : SetFacts → ℕ → Innermost → ℕ → Innermost → Bool
is_subtype set dimensions innermost target elements =
    if nat_eq dimensions target then is_sub_innermost set innermost elements
    else nat_lt target dimensions && is_above_arrays set elements

abbrev pub is_sub : SetFacts → ℕ → ℕ → Bool
is_sub set n target =
    is_subtype set (dimensions_of set n) (innermost_of set n) (dimensions_of set target) (innermost_of set target)

-- an array may hold an object whose class is a subtype of the type of its elements (JVMS 6.5, aastore)
abbrev pub may_hold : SetFacts → ℕ → ℕ → Bool
may_hold set array n =
    nat_lt 0 (dimensions_of set array)
    && is_subtype set (dimensions_of set n) (innermost_of set n) (dimensions_of set array - 1) (innermost_of set array)
