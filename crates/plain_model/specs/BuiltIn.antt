-- The built-in classes, by their names' bytes, as docs/MODEL.md lists them. Their numbers follow those of
-- the program's classes, of which there are `first`.
use Rattle.std.specs.Prelude.{ℕ, ◌+◌, true, false, List, [], ◌∷◌, codes, Some, None}
use Rattle.ap_base.specs.declared.kind.Kind.{Kind}
use Rattle.ap_base.specs.declared.kind.Kind.TheVariants.{C, I, L}
use Rattle.graph_model.specs.declared.types.Field.{Field}
use Rattle.plain_model.specs.Classes.{ClassFacts, ArrayType, Numbers, Objects, element_kind}

-- how many there are
abbrev pub built_in_count : ℕ
built_in_count = 28

-- the place of each among the built-in classes
abbrev pub region_place : ℕ
region_place = 0

abbrev pub print_stream_place : ℕ
print_stream_place = 1

abbrev pub serializable_place : ℕ
serializable_place = 2

abbrev pub arithmetic_exception_place : ℕ
arithmetic_exception_place = 3

abbrev pub array_index_out_of_bounds_exception_place : ℕ
array_index_out_of_bounds_exception_place = 4

abbrev pub array_store_exception_place : ℕ
array_store_exception_place = 5

abbrev pub class_cast_exception_place : ℕ
class_cast_exception_place = 6

abbrev pub cloneable_place : ℕ
cloneable_place = 7

abbrev pub error_place : ℕ
error_place = 8

abbrev pub exception_place : ℕ
exception_place = 9

abbrev pub illegal_argument_exception_place : ℕ
illegal_argument_exception_place = 10

abbrev pub illegal_monitor_state_exception_place : ℕ
illegal_monitor_state_exception_place = 11

abbrev pub illegal_state_exception_place : ℕ
illegal_state_exception_place = 12

abbrev pub illegal_thread_state_exception_place : ℕ
illegal_thread_state_exception_place = 13

abbrev pub index_out_of_bounds_exception_place : ℕ
index_out_of_bounds_exception_place = 14

abbrev pub interrupted_exception_place : ℕ
interrupted_exception_place = 15

abbrev pub negative_array_size_exception_place : ℕ
negative_array_size_exception_place = 16

abbrev pub null_pointer_exception_place : ℕ
null_pointer_exception_place = 17

abbrev pub object_place : ℕ
object_place = 18

abbrev pub runnable_place : ℕ
runnable_place = 19

abbrev pub runtime_exception_place : ℕ
runtime_exception_place = 20

abbrev pub string_place : ℕ
string_place = 21

abbrev pub string_builder_place : ℕ
string_builder_place = 22

abbrev pub string_index_out_of_bounds_exception_place : ℕ
string_index_out_of_bounds_exception_place = 23

abbrev pub system_place : ℕ
system_place = 24

abbrev pub thread_place : ℕ
thread_place = 25

abbrev pub throwable_place : ℕ
throwable_place = 26

abbrev pub unsupported_operation_exception_place : ℕ
unsupported_operation_exception_place = 27

abbrev pub field : List ℕ → Kind → Field
field name kind = record { name = name; kind = kind; kept = true }

abbrev pub message : List Field
message = field (codes "message") L ∷ []

-- a built-in class of this name and superclass, which others may extend, without superinterfaces, fields
-- and elements
abbrev pub class_under : ℕ → List ℕ → ℕ → ClassFacts
class_under first name super = record {
  shape = record { name = name; fields = []; element = None };
  superclass = Some (first + super);
  interfaces = [];
  is_interface = false;
  is_abstract = false;
  is_final = false;
}

abbrev pub final_class : ℕ → List ℕ → ClassFacts
final_class first name = record (class_under first name object_place) { is_final = true }

abbrev pub interface : ℕ → List ℕ → ClassFacts
interface first name = record (class_under first name object_place) { is_interface = true; is_abstract = true }

-- a throwable has its message
abbrev pub throwable_under : ℕ → List ℕ → ℕ → ClassFacts
throwable_under first name super =
    record (class_under first name super) { shape = record { name = name; fields = message; element = None } }

abbrev pub object_class : ℕ → ClassFacts
object_class first = record (class_under first (codes "java/lang/Object") object_place) { superclass = None }

-- a String's elements are its chars
abbrev pub string_class : ℕ → ClassFacts
string_class first = record (final_class first (codes "java/lang/String")) {
  shape = record { name = codes "java/lang/String"; fields = []; element = Some C };
  interfaces = (first + serializable_place) ∷ [];
}

abbrev pub string_builder_fields : List Field
string_builder_fields = field (codes "value") L ∷ field (codes "count") I ∷ []

abbrev pub string_builder_class : ℕ → ClassFacts
string_builder_class first = record (final_class first (codes "java/lang/StringBuilder")) {
  shape = record { name = codes "java/lang/StringBuilder"; fields = string_builder_fields; element = None };
  interfaces = (first + serializable_place) ∷ [];
}

abbrev pub thread_class : ℕ → ClassFacts
thread_class first = record (class_under first (codes "java/lang/Thread") object_place) {
  shape = record { name = codes "java/lang/Thread"; fields = field (codes "target") L ∷ []; element = None };
  interfaces = (first + runnable_place) ∷ [];
}

abbrev pub throwable_class : ℕ → ClassFacts
throwable_class first =
    record (throwable_under first (codes "java/lang/Throwable") object_place) { interfaces = (first + serializable_place) ∷ [] }

-- the built-in classes, in the order of their numbers
abbrev pub built_in_classes : ℕ → List ClassFacts
built_in_classes first =
    final_class first (codes "autopersist/Region")
    ∷ class_under first (codes "java/io/PrintStream") object_place
    ∷ interface first (codes "java/io/Serializable")
    ∷ throwable_under first (codes "java/lang/ArithmeticException") runtime_exception_place
    ∷ throwable_under first (codes "java/lang/ArrayIndexOutOfBoundsException") index_out_of_bounds_exception_place
    ∷ throwable_under first (codes "java/lang/ArrayStoreException") runtime_exception_place
    ∷ throwable_under first (codes "java/lang/ClassCastException") runtime_exception_place
    ∷ interface first (codes "java/lang/Cloneable")
    ∷ throwable_under first (codes "java/lang/Error") throwable_place
    ∷ throwable_under first (codes "java/lang/Exception") throwable_place
    ∷ throwable_under first (codes "java/lang/IllegalArgumentException") runtime_exception_place
    ∷ throwable_under first (codes "java/lang/IllegalMonitorStateException") runtime_exception_place
    ∷ throwable_under first (codes "java/lang/IllegalStateException") runtime_exception_place
    ∷ throwable_under first (codes "java/lang/IllegalThreadStateException") illegal_argument_exception_place
    ∷ throwable_under first (codes "java/lang/IndexOutOfBoundsException") runtime_exception_place
    ∷ throwable_under first (codes "java/lang/InterruptedException") exception_place
    ∷ throwable_under first (codes "java/lang/NegativeArraySizeException") runtime_exception_place
    ∷ throwable_under first (codes "java/lang/NullPointerException") runtime_exception_place
    ∷ object_class first
    ∷ interface first (codes "java/lang/Runnable")
    ∷ throwable_under first (codes "java/lang/RuntimeException") exception_place
    ∷ string_class first
    ∷ string_builder_class first
    ∷ throwable_under first (codes "java/lang/StringIndexOutOfBoundsException") index_out_of_bounds_exception_place
    ∷ final_class first (codes "java/lang/System")
    ∷ thread_class first
    ∷ throwable_class first
    ∷ throwable_under first (codes "java/lang/UnsupportedOperationException") runtime_exception_place
    ∷ []

-- An array type is a class of its own under Object, Cloneable and Serializable, of which `new` makes
-- nothing (JVMS 4.10.1.2).
abbrev pub array_class : ℕ → ArrayType → ClassFacts
array_class first a = record {
  shape = record { name = a.descriptor; fields = []; element = Some (element_kind a.dimensions a.innermost) };
  superclass = Some (first + object_place);
  interfaces = (first + cloneable_place) ∷ (first + serializable_place) ∷ [];
  is_interface = false;
  is_abstract = true;
  is_final = true;
}

abbrev pub array_of_kind : List ℕ → Kind → ArrayType
array_of_kind descriptor kind = record { descriptor = descriptor; dimensions = 1; innermost = Numbers kind }

abbrev pub array_of_objects : List ℕ → ℕ → ArrayType
array_of_objects descriptor class = record { descriptor = descriptor; dimensions = 1; innermost = Objects class }

-- The two array types that every class set has: the chars of a StringBuilder, and the arguments of `main`.
abbrev pub chars_array : ArrayType
chars_array = array_of_kind (codes "[C") C

abbrev pub arguments_array : ℕ → ArrayType
arguments_array first = array_of_objects (codes "[Ljava/lang/String;") (first + string_place)
