-- A class set and a world in which each request comes to each of its results: two live threads and one that
-- has ended, arrays of every kind, a String, a Thread that wasn't started, monitors that are held, and
-- classes in each state of initialisation.
use Rattle.std.specs.Prelude.{ℕ, pos, negsuc, Bool, true, false, List, [], ◌∷◌, ◌++◌, replicate, Some, None, codes}
use Rattle.ap_base.specs.declared.kind.Kind.{Kind}
use Rattle.ap_base.specs.declared.kind.Kind.TheVariants.{Z, B, S, I, J, L}
use Rattle.run_types.specs.declared.resolved.At.{At}
use Rattle.run_types.specs.declared.resolved.FieldAt.{FieldAt}
use Rattle.graph_model.specs.declared.types.Value.{Value}
use Rattle.graph_model.specs.declared.types.Value.TheVariants.{Int, Long, Null, Obj as Object}
use Rattle.graph_model.specs.declared.types.Field.{Field}
use Rattle.graph_model.specs.declared.types.Obj.{Obj}
use Rattle.run_history.specs.declared.act.PlainKey.TheVariants.{Object as ObjectKey, Class as ClassKey}
use Rattle.run_history.specs.declared.plain.Progress.TheVariants.{Untouched, BegunBy, Finished}
use Rattle.run_history.specs.Worlds.{Thread, World, new_thread}
use Rattle.plain_model.specs.Classes.{ClassFacts, ArrayType}
use Rattle.plain_model.specs.Facts.{StaticFacts, SetFacts, shapes_of}
use Rattle.plain_model.specs.BuiltIn.{field, class_under, array_of_kind, array_of_objects, chars_array, arguments_array}
use Rattle.plain_model.specs.BuiltIn.{object_place}

-- The program's classes are 0 to 5. The built-in ones follow by their names' bytes, and then the array
-- types by descriptor.
abbrev pub main_class : ℕ
main_class = 0

abbrev pub box_class : ℕ
box_class = 1

abbrev pub crate_class : ℕ
crate_class = 2

abbrev pub late_class : ℕ
late_class = 3

abbrev pub early_class : ℕ
early_class = 4

abbrev pub worker_class : ℕ
worker_class = 5

abbrev pub print_stream : ℕ
print_stream = 7

abbrev pub array_index_out_of_bounds : ℕ
array_index_out_of_bounds = 10

abbrev pub array_store : ℕ
array_store = 11

abbrev pub class_cast : ℕ
class_cast = 12

abbrev pub illegal_monitor_state : ℕ
illegal_monitor_state = 17

abbrev pub illegal_state : ℕ
illegal_state = 18

abbrev pub illegal_thread_state : ℕ
illegal_thread_state = 19

abbrev pub negative_array_size : ℕ
negative_array_size = 22

abbrev pub null_pointer : ℕ
null_pointer = 23

abbrev pub object_class : ℕ
object_class = 24

abbrev pub runnable : ℕ
runnable = 25

abbrev pub runtime_exception : ℕ
runtime_exception = 26

abbrev pub string_class : ℕ
string_class = 27

abbrev pub string_builder : ℕ
string_builder = 28

abbrev pub string_index_out_of_bounds : ℕ
string_index_out_of_bounds = 29

abbrev pub system : ℕ
system = 30

abbrev pub thread_class : ℕ
thread_class = 31

abbrev pub throwable : ℕ
throwable = 32

abbrev pub bytes_type : ℕ
bytes_type = 34

abbrev pub chars_type : ℕ
chars_type = 35

abbrev pub ints_type : ℕ
ints_type = 36

abbrev pub longs_type : ℕ
longs_type = 37

abbrev pub objects_type : ℕ
objects_type = 38

abbrev pub strings_type : ℕ
strings_type = 39

abbrev pub shorts_type : ℕ
shorts_type = 40

abbrev pub booleans_type : ℕ
booleans_type = 41

abbrev pub program_class : List ℕ → List Field → ℕ → ClassFacts
program_class name fields super = record (class_under 6 name object_place) {
  shape = record { name = name; fields = fields; element = None };
  superclass = Some super;
}

abbrev pub box_fields : List Field
box_fields = field (codes "amount") I ∷ field (codes "content") L ∷ field (codes "tag") B ∷ []

-- class Main; class Box { int amount; Object content; byte tag; }; class Crate extends Box { boolean open;
-- }; class Late; class Early { long when; }; class Worker extends Thread
abbrev pub program_classes : List ClassFacts
program_classes =
    program_class (codes "Main") [] object_class
    ∷ program_class (codes "Box") box_fields object_class
    ∷ program_class (codes "Crate") (box_fields ++ field (codes "open") Z ∷ []) box_class
    ∷ program_class (codes "Late") [] object_class
    ∷ program_class (codes "Early") (field (codes "when") J ∷ []) object_class
    ∷ program_class (codes "Worker") (field (codes "target") L ∷ []) thread_class
    ∷ []

abbrev pub array_types : List ArrayType
array_types =
    array_of_kind (codes "[B") B
    ∷ chars_array
    ∷ array_of_kind (codes "[I") I
    ∷ array_of_kind (codes "[J") J
    ∷ array_of_objects (codes "[Ljava/lang/Object;") object_class
    ∷ arguments_array 6
    ∷ array_of_kind (codes "[S") S
    ∷ array_of_kind (codes "[Z") Z
    ∷ []

abbrev pub static_of : List ℕ → ℕ → Kind → Bool → StaticFacts
static_of name class kind is_root =
    record { name = name; class = class; kind = kind; constant = None; is_root = is_root }

-- `int count` and the durable root `Box kept` of Main, `int count` of Late, `long when` of Early
abbrev pub box_statics : List StaticFacts
box_statics =
    static_of (codes "Main.count") main_class I false
    ∷ static_of (codes "Main.kept") main_class L true
    ∷ static_of (codes "Late.count") late_class I false
    ∷ static_of (codes "Early.when") early_class J false
    ∷ []

abbrev pub boxes : SetFacts
boxes = record {
  program = program_classes;
  arrays = array_types;
  statics = box_statics;
  literals = [];
}

-- the objects, by number
abbrev pub a_stream : ℕ
a_stream = 0

abbrev pub a_box : ℕ
a_box = 1

abbrev pub a_crate : ℕ
a_crate = 2

abbrev pub two_bytes : ℕ
two_bytes = 3

abbrev pub two_booleans : ℕ
two_booleans = 4

abbrev pub two_chars : ℕ
two_chars = 5

abbrev pub two_shorts : ℕ
two_shorts = 6

abbrev pub three_ints : ℕ
three_ints = 7

abbrev pub one_long : ℕ
one_long = 8

abbrev pub a_text : ℕ
a_text = 9

abbrev pub two_objects : ℕ
two_objects = 10

abbrev pub one_string : ℕ
one_string = 11

abbrev pub running_worker : ℕ
running_worker = 12

abbrev pub new_thread_object : ℕ
new_thread_object = 13

abbrev pub ended_worker : ℕ
ended_worker = 14

abbrev pub an_exception : ℕ
an_exception = 15

-- the number of the next object
abbrev pub next_object : ℕ
next_object = 16

abbrev pub object_of : ℕ → List Value → Obj
object_of shape values = record { shape = shape; values = values }

abbrev pub int : ℕ → Value
int n = Int (pos n)

abbrev pub box_objects : List Obj
box_objects =
    object_of print_stream []
    ∷ object_of box_class (int 5 ∷ Object a_text ∷ int 1 ∷ [])
    ∷ object_of crate_class (int 6 ∷ Null ∷ int 2 ∷ int 1 ∷ [])
    ∷ object_of bytes_type (int 7 ∷ Int (negsuc 0) ∷ [])
    ∷ object_of booleans_type (int 0 ∷ int 1 ∷ [])
    ∷ object_of chars_type (int 65 ∷ int 66 ∷ [])
    ∷ object_of shorts_type (int 300 ∷ int 301 ∷ [])
    ∷ object_of ints_type (int 10 ∷ int 11 ∷ int 12 ∷ [])
    ∷ object_of longs_type (Long (pos 9) ∷ [])
    ∷ object_of string_class (int 104 ∷ int 105 ∷ [])
    ∷ object_of objects_type (Object a_box ∷ Null ∷ [])
    ∷ object_of strings_type (Object a_text ∷ [])
    ∷ object_of worker_class (Null ∷ [])
    ∷ object_of thread_class (Null ∷ [])
    ∷ object_of worker_class (Null ∷ [])
    ∷ object_of runtime_exception (Null ∷ [])
    ∷ []

-- Thread 0 is outside regions. Thread 1 is that of `running_worker`, two Begins deep. Thread 2 was that of
-- `ended_worker`.
abbrev pub box_threads : List Thread
box_threads =
    new_thread None
    ∷ record { object = Some running_worker; depth = 2; ended = false; uncaught = None }
    ∷ record { object = Some ended_worker; depth = 0; ended = true; uncaught = None }
    ∷ []

-- Thread 0 holds the monitor of `a_box`, twice, and thread 1 those of `a_crate` and of Main. Late is
-- untouched, and thread 0 has begun Early. The statics are System.out, two of Main, one of Late and one of
-- Early.
abbrev pub box_world : World
box_world = record {
  heap = record {
    shapes = shapes_of boxes;
    objects = box_objects;
    statics = Object a_stream ∷ int 3 ∷ Object a_box ∷ int 4 ∷ Long (pos 8) ∷ [];
    roots = record { name = codes "Main.kept"; at = 2 } ∷ [];
  };
  monitors =
      record { key = ObjectKey a_box; owner = 0; count = 2 }
      ∷ record { key = ObjectKey a_crate; owner = 1; count = 1 }
      ∷ record { key = ClassKey main_class; owner = 1; count = 1 }
      ∷ record { key = ClassKey box_class; owner = 0; count = 1 }
      ∷ [];
  classes = Finished ∷ Finished ∷ Finished ∷ Untouched ∷ BegunBy 0 ∷ Finished ∷ replicate 36 Finished;
  threads = box_threads;
}

-- the same world with 63 threads
abbrev pub nearly_crowded_world : World
nearly_crowded_world = record box_world { threads = replicate 63 (new_thread None) }

-- the same world with 64 threads
abbrev pub crowded_world : World
crowded_world = record box_world { threads = replicate 64 (new_thread None) }

abbrev pub here : At
here = record { class = 0; method = 1; pc = 2 }

abbrev pub static_field : ℕ → ℕ → Kind → FieldAt
static_field class at kind = record { class = class; is_static = true; at = at; kind = kind }

abbrev pub instance_field : ℕ → ℕ → Kind → FieldAt
instance_field class at kind = record { class = class; is_static = false; at = at; kind = kind }

abbrev pub system_out : FieldAt
system_out = static_field system 0 L

abbrev pub main_count : FieldAt
main_count = static_field main_class 1 I

abbrev pub main_kept : FieldAt
main_kept = static_field main_class 2 L

abbrev pub late_count : FieldAt
late_count = static_field late_class 3 I

abbrev pub early_when : FieldAt
early_when = static_field early_class 4 J

abbrev pub amount : FieldAt
amount = instance_field box_class 0 I

abbrev pub content : FieldAt
content = instance_field box_class 1 L

abbrev pub tag : FieldAt
tag = instance_field box_class 2 B

abbrev pub opened : FieldAt
opened = instance_field crate_class 3 Z
