-- What each request comes to in one world, as a table: what it does and replies, what it throws and after
-- which tests, for whom it waits, and what it finds wrong (JVMS 6.5, 5.5 and 2.11.10).
use Rattle.std.specs.Prelude.{◌≡◌, ℕ, pos, negsuc, true, false, List, [], ◌∷◌, map, filter, Some, None}
use Rattle.ap_base.specs.declared.kind.Kind.{Kind}
use Rattle.ap_base.specs.declared.kind.Kind.TheVariants.{Z, B, C, S, I, J, L, Text}
use Rattle.ap_base.specs.declared.place.Place.{Place}
use Rattle.ap_base.specs.declared.place.Place.TheVariants.{Static, Slot}
use Rattle.run_types.specs.declared.key.Key.TheVariants as key
use Rattle.run_types.specs.declared.wait.On.TheVariants as on
use Rattle.run_types.specs.declared.fault.StepFault.TheVariants as fault
use Rattle.run_types.specs.declared.fault.Which.TheVariants as which
use Rattle.run_types.specs.declared.fault.LinkKind.TheVariants.{NoCode}
use Rattle.graph_model.specs.declared.types.Value.{Value}
use Rattle.graph_model.specs.declared.types.Value.TheVariants.{Int, Long, Null, Obj as Object}
use Rattle.natives.specs.declared.requests.Request.TheVariants as ask
use Rattle.natives.specs.declared.requests.Reply.TheVariants as reply
use Rattle.run_history.specs.declared.act.PlainKey.TheVariants.{Object as ObjectKey, Class as ClassKey}
use Rattle.run_history.specs.declared.act.Stage.TheVariants as stage
use Rattle.run_history.specs.declared.act.Op.TheVariants as op
use Rattle.run_history.specs.Worlds.{World}
use Rattle.plain_model.specs.Requests.{PlainRequest}
use Rattle.plain_model.specs.Steps.{Step, Does, Waits, WrongOperand, IsOver, step, is_kind}
use Rattle.plain_model.specs.StepWorld.{boxes, box_world, here, int, next_object}
use Rattle.plain_model.specs.StepWorld.{main_class, box_class, crate_class, late_class, early_class, worker_class}
use Rattle.plain_model.specs.StepWorld.{object_class, runnable, runtime_exception, string_class, string_builder, thread_class}
use Rattle.plain_model.specs.StepWorld.{throwable}
use Rattle.plain_model.specs.StepWorld.{ints_type, objects_type, strings_type}
use Rattle.plain_model.specs.StepWorld.{array_index_out_of_bounds, array_store, class_cast, illegal_monitor_state}
use Rattle.plain_model.specs.StepWorld.{illegal_state}
use Rattle.plain_model.specs.StepWorld.{illegal_thread_state, negative_array_size, null_pointer, string_index_out_of_bounds}
use Rattle.plain_model.specs.StepWorld.{a_stream, a_box, a_crate, two_bytes, two_booleans, two_chars, two_shorts, three_ints}
use Rattle.plain_model.specs.StepWorld.{one_long}
use Rattle.plain_model.specs.StepWorld.{a_text, two_objects, one_string, running_worker, new_thread_object, ended_worker}
use Rattle.plain_model.specs.StepWorld.{an_exception}
use Rattle.plain_model.specs.StepWorld.{system_out, main_count, main_kept, late_count, early_when, amount, content, tag, opened}
use Rattle.plain_model.specs.StepWorld.{static_field}

-- a thread, its request, and what the step of that request comes to
pub record Row : Type 0 where
  pub thread : ℕ
  pub request : PlainRequest
  pub comes_to : Step

abbrev pub row : ℕ → PlainRequest → Step → Row
row t request comes_to = record { thread = t; request = request; comes_to = comes_to }

-- each step is the one that its row says
abbrev pub AreSteps : World → List Row → Type 0
AreSteps world rows =
    map (λ (r : Row). step boxes world r.thread 1 r.request) rows ≡ map (λ (r : Row). r.comes_to) rows

-- the step throws a new throwable of this class
abbrev pub throws : ℕ → Step
throws class = Does (op.Throw next_object class) (reply.Thrown (Object next_object) class)

abbrev pub makes : ℕ → ℕ → Step
makes class length = Does (op.Alloc next_object class length) (reply.Made (Object next_object))

abbrev pub begins : ℕ → Step
begins class = Does (op.Init class stage.Begun) (reply.Init class)

abbrev pub gives : Place → Value → Step
gives place value = Does (op.Read place value) (reply.Item value)

abbrev pub puts : Place → Value → Step
puts place value = Does (op.Stored place value) reply.Done

abbrev pub no : Value
no = int 0

abbrev pub yes : Value
yes = int 1

-- an object of which there is none
abbrev pub missing : Value
missing = Object next_object

-- new, newarray, anewarray (JVMS 6.5): a class is initialised first, by one thread, and a length isn't
-- negative
abbrev pub making : List Row
making =
    row 0 (ask.New here box_class) (makes box_class 3)
    ∷ row 0 (ask.New here crate_class) (makes crate_class 4)
    ∷ row 0 (ask.New here string_class) (makes string_class 0)
    ∷ row 0 (ask.New here thread_class) (makes thread_class 1)
    ∷ row 0 (ask.New here string_builder) (makes string_builder 2)
    ∷ row 0 (ask.New here late_class) (begins late_class)
    ∷ row 0 (ask.New here early_class) (makes early_class 1)
    ∷ row 1 (ask.New here early_class) (Waits (on.Init 0))
    ∷ row 0 (ask.NewArray here ints_type (pos 3)) (makes ints_type 3)
    ∷ row 0 (ask.NewArray here strings_type (pos 0)) (makes strings_type 0)
    ∷ row 0 (ask.NewArray here ints_type (negsuc 0)) (throws negative_array_size)
    ∷ row 0 (ask.NewText here (pos 2)) (makes string_class 2)
    ∷ row 0 (ask.NewText here (negsuc 4)) (throws negative_array_size)
    ∷ []

-- getstatic, putstatic: a class is initialised first, and a store keeps what its kind keeps
abbrev pub statics : List Row
statics =
    row 0 (ask.GetStatic here system_out) (gives (Static 0) (Object a_stream))
    ∷ row 1 (ask.GetStatic here main_count) (gives (Static 1) (int 3))
    ∷ row 0 (ask.GetStatic here late_count) (begins late_class)
    ∷ row 0 (ask.GetStatic here early_when) (gives (Static 4) (Long (pos 8)))
    ∷ row 1 (ask.GetStatic here early_when) (Waits (on.Init 0))
    ∷ row 0 (ask.PutStatic here main_count (Int (negsuc 6))) (puts (Static 1) (Int (negsuc 6)))
    ∷ row 0 (ask.PutStatic here main_kept Null) (puts (Static 2) Null)
    ∷ row 0 (ask.PutStatic here (static_field main_class 1 B) (int 200)) (puts (Static 1) (Int (negsuc 55)))
    ∷ row 0 (ask.PutStatic here (static_field main_class 1 Z) (int 6)) (puts (Static 1) (int 0))
    ∷ row 0 (ask.PutStatic here (static_field main_class 1 C) (Int (negsuc 1))) (puts (Static 1) (int 65534))
    ∷ row 0 (ask.PutStatic here (static_field main_class 1 S) (int 32768))
    (puts (Static 1) (Int (negsuc 32767)))
    ∷ row 1 (ask.PutStatic here late_count (int 1)) (begins late_class)
    ∷ row 0 (ask.PutStatic here early_when (Long (pos 2))) (puts (Static 4) (Long (pos 2)))
    ∷ row 1 (ask.PutStatic here early_when (Long (pos 2))) (Waits (on.Init 0))
    ∷ []

-- getfield, putfield: the object isn't null, and is one of the class that declares the field, or of a
-- subtype
abbrev pub fields : List Row
fields =
    row 0 (ask.GetField here (Object a_box) amount) (gives (Slot a_box 0) (int 5))
    ∷ row 0 (ask.GetField here (Object a_box) content) (gives (Slot a_box 1) (Object a_text))
    ∷ row 0 (ask.GetField here (Object a_crate) tag) (gives (Slot a_crate 2) (int 2))
    ∷ row 0 (ask.GetField here (Object a_crate) opened) (gives (Slot a_crate 3) (int 1))
    ∷ row 0 (ask.GetField here Null amount) (throws null_pointer)
    ∷ row 0 (ask.GetField here (Object a_box) opened) WrongOperand
    ∷ row 0 (ask.GetField here (Object three_ints) amount) WrongOperand
    ∷ row 0 (ask.GetField here missing amount) WrongOperand
    ∷ row 0 (ask.GetField here (int 1) amount) WrongOperand
    ∷ row 0 (ask.PutField here (Object a_box) amount (int 8)) (puts (Slot a_box 0) (int 8))
    ∷ row 1 (ask.PutField here (Object a_crate) content (Object a_box)) (puts (Slot a_crate 1) (Object a_box))
    ∷ row 0 (ask.PutField here (Object a_crate) tag (int 128)) (puts (Slot a_crate 2) (Int (negsuc 127)))
    ∷ row 0 (ask.PutField here (Object a_crate) opened (int 3)) (puts (Slot a_crate 3) (int 1))
    ∷ row 0 (ask.PutField here Null amount (int 8)) (throws null_pointer)
    ∷ row 0 (ask.PutField here (Object a_box) opened (int 1)) WrongOperand
    ∷ row 0 (ask.PutField here (Object a_stream) amount (int 8)) WrongOperand
    ∷ row 0 (ask.PutField here (Long (pos 1)) amount (int 8)) WrongOperand
    ∷ []

-- baload and its like, charAt: null, then the kind of the array, where baload reads bytes and booleans,
-- then the index
abbrev pub element_reads : List Row
element_reads =
    row 0 (ask.GetElement here (Object two_bytes) (pos 1) B) (gives (Slot two_bytes 1) (Int (negsuc 0)))
    ∷ row 0 (ask.GetElement here (Object two_booleans) (pos 1) B) (gives (Slot two_booleans 1) (int 1))
    ∷ row 0 (ask.GetElement here (Object two_booleans) (pos 0) Z) (gives (Slot two_booleans 0) (int 0))
    ∷ row 0 (ask.GetElement here (Object two_chars) (pos 1) C) (gives (Slot two_chars 1) (int 66))
    ∷ row 0 (ask.GetElement here (Object two_shorts) (pos 0) S) (gives (Slot two_shorts 0) (int 300))
    ∷ row 0 (ask.GetElement here (Object three_ints) (pos 2) I) (gives (Slot three_ints 2) (int 12))
    ∷ row 0 (ask.GetElement here (Object one_long) (pos 0) J) (gives (Slot one_long 0) (Long (pos 9)))
    ∷ row 0 (ask.GetElement here (Object two_objects) (pos 0) L) (gives (Slot two_objects 0) (Object a_box))
    ∷ row 0 (ask.GetElement here (Object one_string) (pos 0) L) (gives (Slot one_string 0) (Object a_text))
    ∷ row 0 (ask.GetElement here (Object a_text) (pos 1) Text) (gives (Slot a_text 1) (int 105))
    ∷ row 0 (ask.GetElement here Null (negsuc 0) I) (throws null_pointer)
    ∷ row 0 (ask.GetElement here Null (pos 0) Text) (throws null_pointer)
    ∷ row 0 (ask.GetElement here (Object three_ints) (pos 9) B) WrongOperand
    ∷ row 0 (ask.GetElement here (Object two_bytes) (pos 0) Z) WrongOperand
    ∷ row 0 (ask.GetElement here (Object a_text) (pos 0) C) WrongOperand
    ∷ row 0 (ask.GetElement here (Object two_chars) (pos 0) Text) WrongOperand
    ∷ row 0 (ask.GetElement here (Object a_box) (pos 0) I) WrongOperand
    ∷ row 0 (ask.GetElement here missing (pos 0) I) WrongOperand
    ∷ row 0 (ask.GetElement here (int 7) (pos 0) I) WrongOperand
    ∷ row 0 (ask.GetElement here (Object three_ints) (pos 3) I) (throws array_index_out_of_bounds)
    ∷ row 0 (ask.GetElement here (Object three_ints) (negsuc 0) I) (throws array_index_out_of_bounds)
    ∷ row 0 (ask.GetElement here (Object a_text) (pos 2) Text) (throws string_index_out_of_bounds)
    ∷ row 0 (ask.GetElement here (Object a_text) (negsuc 0) Text) (throws string_index_out_of_bounds)
    ∷ []

-- bastore and its like: null, the kind, the index, and for references what the array may hold; an element
-- keeps what the array's own kind keeps
abbrev pub element_stores : List Row
element_stores =
    row 0 (ask.PutElement here (Object two_bytes) (pos 0) B (int 300)) (puts (Slot two_bytes 0) (int 44))
    ∷ row 0 (ask.PutElement here (Object two_booleans) (pos 0) B (int 2)) (puts (Slot two_booleans 0) (int 0))
    ∷ row 0 (ask.PutElement here (Object two_booleans) (pos 1) B (Int (negsuc 0)))
    (puts (Slot two_booleans 1) (int 1))
    ∷ row 0 (ask.PutElement here (Object two_booleans) (pos 1) Z (int 1)) (puts (Slot two_booleans 1) (int 1))
    ∷ row 0 (ask.PutElement here (Object two_chars) (pos 0) C (int 65537)) (puts (Slot two_chars 0) (int 1))
    ∷ row 0 (ask.PutElement here (Object two_shorts) (pos 1) S (int 65535))
    (puts (Slot two_shorts 1) (Int (negsuc 0)))
    ∷ row 0 (ask.PutElement here (Object three_ints) (pos 2) I (int 65537))
    (puts (Slot three_ints 2) (int 65537))
    ∷ row 0 (ask.PutElement here (Object one_long) (pos 0) J (Long (pos 1)))
    (puts (Slot one_long 0) (Long (pos 1)))
    ∷ row 0 (ask.PutElement here (Object two_objects) (pos 1) L (Object a_text))
    (puts (Slot two_objects 1) (Object a_text))
    ∷ row 0 (ask.PutElement here (Object one_string) (pos 0) L (Object a_text))
    (puts (Slot one_string 0) (Object a_text))
    ∷ row 0 (ask.PutElement here (Object one_string) (pos 0) L Null) (puts (Slot one_string 0) Null)
    ∷ row 0 (ask.PutElement here (Object a_text) (pos 0) Text (int 72)) (puts (Slot a_text 0) (int 72))
    ∷ row 0 (ask.PutElement here (Object a_text) (pos 1) Text (int 65608)) (puts (Slot a_text 1) (int 72))
    ∷ row 0 (ask.PutElement here (Object one_string) (pos 0) L (Object a_box)) (throws array_store)
    ∷ row 0 (ask.PutElement here Null (pos 5) I (int 1)) (throws null_pointer)
    ∷ row 0 (ask.PutElement here (Object three_ints) (pos 5) J (Long (pos 1))) WrongOperand
    ∷ row 0 (ask.PutElement here (Object a_text) (pos 0) C (int 72)) WrongOperand
    ∷ row 0 (ask.PutElement here (Object a_crate) (pos 0) I (int 1)) WrongOperand
    ∷ row 0 (ask.PutElement here (Object one_string) (pos 1) L (Object a_box))
    (throws array_index_out_of_bounds)
    ∷ row 0 (ask.PutElement here (Object one_string) (negsuc 0) L Null) (throws array_index_out_of_bounds)
    ∷ row 0 (ask.PutElement here (Object a_text) (pos 2) Text (int 72)) (throws array_index_out_of_bounds)
    ∷ row 0 (ask.PutElement here (Object a_text) (negsuc 0) Text (int 72)) (throws array_index_out_of_bounds)
    ∷ []

abbrev pub class_test : ℕ → ℕ → Value → Step
class_test n class answer = Does (op.Class (Some n) (Some class)) (reply.Item answer)

-- arraylength, the class of a receiver, checkcast, instanceof, if_acmpeq: null, then the class
abbrev pub tests : List Row
tests =
    row 0 (ask.Length here (Object three_ints)) (Does (op.Length three_ints 3) (reply.Item (int 3)))
    ∷ row 0 (ask.Length here (Object a_text)) (Does (op.Length a_text 2) (reply.Item (int 2)))
    ∷ row 0 (ask.Length here Null) (throws null_pointer)
    ∷ row 0 (ask.Length here (Object a_box)) WrongOperand
    ∷ row 0 (ask.Length here (int 1)) WrongOperand
    ∷ row 0 (ask.ClassOf here (Object a_crate) box_class)
    (Does (op.Class (Some a_crate) (Some crate_class)) (reply.Shape crate_class))
    ∷ row 0 (ask.ClassOf here (Object two_bytes) object_class)
    (Does (op.Class (Some two_bytes) (Some 34)) (reply.Shape 34))
    ∷ row 0 (ask.ClassOf here (Object an_exception) throwable)
    (Does (op.Class (Some an_exception) (Some runtime_exception)) (reply.Shape runtime_exception))
    ∷ row 0 (ask.ClassOf here Null box_class) (throws null_pointer)
    ∷ row 0 (ask.ClassOf here (Object a_box) crate_class) WrongOperand
    ∷ row 0 (ask.ClassOf here (Object a_box) throwable) WrongOperand
    ∷ row 0 (ask.ClassOf here missing object_class) WrongOperand
    ∷ row 0 (ask.Cast here Null box_class) (Does (op.Class None None) reply.Done)
    ∷ row 0 (ask.Cast here (Object a_crate) box_class)
    (Does (op.Class (Some a_crate) (Some crate_class)) reply.Done)
    ∷ row 0 (ask.Cast here (Object running_worker) runnable)
    (Does (op.Class (Some running_worker) (Some worker_class)) reply.Done)
    ∷ row 0 (ask.Cast here (Object one_string) objects_type)
    (Does (op.Class (Some one_string) (Some strings_type)) reply.Done)
    ∷ row 0 (ask.Cast here (Object a_box) crate_class) (throws class_cast)
    ∷ row 0 (ask.Cast here (Object two_objects) strings_type) (throws class_cast)
    ∷ row 0 (ask.Cast here missing object_class) WrongOperand
    ∷ row 0 (ask.Cast here (int 0) object_class) WrongOperand
    ∷ row 0 (ask.IsA here Null box_class) (Does (op.Class None None) (reply.Item no))
    ∷ row 0 (ask.IsA here (Object a_crate) box_class) (class_test a_crate crate_class yes)
    ∷ row 0 (ask.IsA here (Object a_box) crate_class) (class_test a_box box_class no)
    ∷ row 0 (ask.IsA here (Object new_thread_object) runnable) (class_test new_thread_object thread_class yes)
    ∷ row 0 (ask.IsA here missing object_class) WrongOperand
    ∷ row 0 (ask.IsA here (Long (pos 0)) object_class) WrongOperand
    ∷ row 0 (ask.Same here (Object a_box) (Object a_box)) (Does (op.Same true) (reply.Item yes))
    ∷ row 0 (ask.Same here (Object a_box) (Object a_crate)) (Does (op.Same false) (reply.Item no))
    ∷ row 0 (ask.Same here Null Null) (Does (op.Same true) (reply.Item yes))
    ∷ row 0 (ask.Same here Null (Object a_box)) (Does (op.Same false) (reply.Item no))
    ∷ row 0 (ask.Same here (Object a_box) Null) (Does (op.Same false) (reply.Item no))
    ∷ row 0 (ask.Same here (int 1) Null) WrongOperand
    ∷ row 0 (ask.Same here Null (Long (pos 1))) WrongOperand
    ∷ []

-- monitorenter, monitorexit: null, then the owner (JVMS 2.11.10)
abbrev pub monitors : List Row
monitors =
    row 0 (ask.Enter here (key.Object (Object a_text))) (Does (op.Enter (ObjectKey a_text)) reply.Done)
    ∷ row 0 (ask.Enter here (key.Object (Object a_box))) (Does (op.Enter (ObjectKey a_box)) reply.Done)
    ∷ row 1 (ask.Enter here (key.Object (Object a_box))) (Waits (on.Monitor 0))
    ∷ row 0 (ask.Enter here (key.Object (Object a_crate))) (Waits (on.Monitor 1))
    ∷ row 0 (ask.Enter here (key.Object Null)) (throws null_pointer)
    ∷ row 0 (ask.Enter here (key.Object missing)) WrongOperand
    ∷ row 0 (ask.Enter here (key.Object (int 1))) WrongOperand
    ∷ row 0 (ask.Enter here (key.Class crate_class)) (Does (op.Enter (ClassKey crate_class)) reply.Done)
    ∷ row 1 (ask.Enter here (key.Class main_class)) (Does (op.Enter (ClassKey main_class)) reply.Done)
    ∷ row 0 (ask.Enter here (key.Class main_class)) (Waits (on.Monitor 1))
    ∷ row 1 (ask.Enter here (key.Class box_class)) (Waits (on.Monitor 0))
    ∷ row 0 (ask.Exit here (key.Object (Object a_box))) (Does (op.Exit (ObjectKey a_box)) reply.Done)
    ∷ row 1 (ask.Exit here (key.Object (Object a_box))) (throws illegal_monitor_state)
    ∷ row 0 (ask.Exit here (key.Object (Object a_text))) (throws illegal_monitor_state)
    ∷ row 0 (ask.Exit here (key.Object Null)) (throws null_pointer)
    ∷ row 0 (ask.Exit here (key.Object missing)) WrongOperand
    ∷ row 1 (ask.Exit here (key.Class main_class)) (Does (op.Exit (ClassKey main_class)) reply.Done)
    ∷ row 0 (ask.Exit here (key.Class main_class)) (throws illegal_monitor_state)
    ∷ row 0 (ask.Exit here (key.Class crate_class)) (throws illegal_monitor_state)
    ∷ []

-- Thread.start and join: a Thread is started once, and a join waits for a thread that was started and
-- hasn't ended
abbrev pub threads : List Row
threads =
    row 0 (ask.Start here (Object new_thread_object)) (Does (op.Start new_thread_object 3) reply.Done)
    ∷ row 0 (ask.Start here (Object running_worker)) (throws illegal_thread_state)
    ∷ row 1 (ask.Start here (Object ended_worker)) (throws illegal_thread_state)
    ∷ row 0 (ask.Start here Null) (throws null_pointer)
    ∷ row 0 (ask.Start here (Object a_box)) WrongOperand
    ∷ row 0 (ask.Join here (Object running_worker)) (Waits (on.Join 1))
    ∷ row 0 (ask.Join here (Object ended_worker)) (Does (op.Join ended_worker) reply.Done)
    ∷ row 0 (ask.Join here (Object new_thread_object)) (Does (op.Join new_thread_object) reply.Done)
    ∷ row 0 (ask.Join here Null) (throws null_pointer)
    ∷ row 0 (ask.Join here (Object a_text)) WrongOperand
    ∷ row 1 (ask.Leave None) (Does (op.Ended None) reply.Done)
    ∷ row 1 (ask.Leave (Some runtime_exception)) (Does (op.Ended (Some runtime_exception)) reply.Done)
    ∷ []

-- where there are 63 threads one more is started
abbrev pub nearly_crowded : List Row
nearly_crowded =
    row 0 (ask.Start here (Object new_thread_object)) (Does (op.Start new_thread_object 63) reply.Done) ∷ []

-- where there are 64 threads no further one is started
abbrev pub crowded : List Row
crowded =
    row 0 (ask.Start here (Object new_thread_object))
    (IsOver (fault.Full (record { which = which.Threads; need = 1; left = 0 })))
    ∷ []

-- initialisation (JVMS 5.5), regions, throws, pauses, and what ends the run
abbrev pub others : List Row
others =
    row 0 (ask.Init here late_class) (begins late_class)
    ∷ row 1 (ask.Init here late_class) (begins late_class)
    ∷ row 0 (ask.Init here early_class) (Does (op.Init early_class stage.Ready) reply.Done)
    ∷ row 1 (ask.Init here early_class) (Waits (on.Init 0))
    ∷ row 1 (ask.Init here box_class) (Does (op.Init box_class stage.Ready) reply.Done)
    ∷ row 0 (ask.InitDone here early_class) (Does (op.Init early_class stage.Done) reply.Done)
    ∷ row 0 (ask.Begin here) (Does op.Begin reply.Done)
    ∷ row 1 (ask.Begin here) (Does op.Begin reply.Done)
    ∷ row 1 (ask.End here) (Does op.End reply.Done)
    ∷ row 0 (ask.End here) (throws illegal_state)
    ∷ row 0 (ask.Raise here runtime_exception) (throws runtime_exception)
    ∷ row 0 ask.Pause (Does op.Pause reply.Done)
    ∷ row 0 (ask.Broken (fault.BadCode here)) (IsOver (fault.BadCode here))
    ∷ row 1 (ask.Broken (fault.LinkFault NoCode 1 2)) (IsOver (fault.LinkFault NoCode 1 2))
    ∷ []

-- the step of a print of two bytes that takes so many
abbrev pub prints : ℕ → Step
prints taken = step boxes box_world 0 taken (ask.Print here (55 ∷ 10 ∷ []))

abbrev pub every_kind : List Kind
every_kind = Z ∷ B ∷ C ∷ S ∷ I ∷ J ∷ L ∷ Text ∷ []

-- The elements that serve a request for each kind: none but its own, and booleans as bytes. A String's chars
-- are no array's.
abbrev pub KindsServeTheirOwn : Type 0
KindsServeTheirOwn = map (λ asked. filter (is_kind asked) every_kind) every_kind
    ≡ ((Z ∷ []) ∷ (Z ∷ B ∷ []) ∷ (C ∷ []) ∷ (S ∷ []) ∷ (I ∷ []) ∷ (J ∷ []) ∷ (L ∷ []) ∷ [] ∷ [])

-- A print of a piece of two bytes takes one or both.
pub record PrintsAFront : Type 0 where
  pub one : prints 1 ≡ Does (op.Print (55 ∷ [])) (reply.Printed 1)
  pub both : prints 2 ≡ Does (op.Print (55 ∷ 10 ∷ [])) (reply.Printed 2)
  pub none : prints 0 ≡ WrongOperand
  pub more : prints 3 ≡ WrongOperand
