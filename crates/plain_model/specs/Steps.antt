-- The plain step: what a request of a thread does in a plain world, and its reply (JVMS 6.5 for the instructions, 2.11.10 for
-- monitors, 5.5 for initialisation). A request that throws makes the throwable as the next object, in place of its act.
-- The tests of a request come in this order: a class that has to be initialised first; a null operand; an operand of a wrong
-- class; a negative length or an index out of range; an element that the array may not hold.
use Rattle.std.specs.Prelude.{ℕ, zero, suc, ℤ, pos, negsuc, Bool, true, false, nat_eq, nat_lt, nat_le, not, ◌&&◌, List, [], ◌∷◌}
use Rattle.std.specs.Prelude.{length, take, slice_get, Option, Some, None, if◌then◌else◌, is_some, unwrap_or}
use Rattle.ap_base.specs.declared.kind.Kind.{Kind}
use Rattle.ap_base.specs.declared.kind.Kind.TheVariants.{Z, B, C, S, I, J, L, Text}
use Rattle.run_types.specs.declared.key.Key.TheVariants as key
use Rattle.ap_base.specs.declared.place.Place.{Place}
use Rattle.ap_base.specs.declared.place.Place.TheVariants.{Static, Slot}
use Rattle.run_types.specs.declared.wait.On.{On}
use Rattle.run_types.specs.declared.wait.On.TheVariants as on
use Rattle.run_types.specs.declared.fault.StepFault.{StepFault}
use Rattle.run_types.specs.declared.fault.StepFault.TheVariants as fault
use Rattle.run_types.specs.declared.fault.Which.TheVariants as which
use Rattle.graph_model.specs.declared.types.Value.{Value}
use Rattle.graph_model.specs.declared.types.Value.TheVariants.{Int, Long, Null, Obj as Object}
use Rattle.graph_model.specs.Heaps.{object_at, value_at}
use Rattle.natives.specs.declared.requests.Request.TheVariants as ask
use Rattle.natives.specs.declared.requests.Reply.TheVariants as reply
use Rattle.run_history.specs.declared.act.PlainKey.{PlainKey}
use Rattle.run_history.specs.declared.act.PlainKey.TheVariants.{Object as ObjectKey, Class as ClassKey}
use Rattle.run_history.specs.declared.act.Stage.TheVariants as stage
use Rattle.run_history.specs.declared.act.Op.{Op}
use Rattle.run_history.specs.declared.act.Op.TheVariants as op
use Rattle.run_history.specs.declared.plain.Progress.{Progress}
use Rattle.run_history.specs.declared.plain.Progress.TheVariants.{Untouched, BegunBy, Finished}
use Rattle.run_history.specs.declared.plain.Monitor.{Monitor}
use Rattle.run_history.specs.Worlds.{Thread, World, held, depth_of}
use Rattle.plain_model.specs.declared.throws.Throws.{Throws}
use Rattle.plain_model.specs.declared.throws.Throws.TheVariants as exception
use Rattle.plain_model.specs.BuiltIn.{thread_place}
use Rattle.plain_model.specs.Facts.{SetFacts, built_in_number, class_at, element_of, is_sub, may_hold, string_number}
use Rattle.plain_model.specs.Facts.{thrown_class}
use Rattle.plain_model.specs.Kinds.{narrowed}
use Rattle.plain_model.specs.Requests.{PlainRequest, PlainReply}
use Rattle.plain_model.specs.Limits.{most_threads, threads_left}

-- What a step comes to: it does an operation and replies, it waits for another thread, it finds a wrong operand, or the run is
-- over by a fault.
pub data Step : Type 0 where
  Does : Op → PlainReply → Step
  Waits : On → Step
  WrongOperand : Step
  IsOver : StepFault → Step

abbrev pub bool_value : Bool → Value
bool_value true = Int (pos 1)
bool_value false = Int (pos 0)

abbrev pub number_of : Value → Option ℕ
number_of (Object n) = Some n
number_of (Int i) = None
number_of (Long i) = None
number_of Null = None

-- whether a reference is the same as another (JVMS 6.5, if_acmpeq); none where one isn't a reference
abbrev pub is_same : Value → Value → Option Bool
is_same Null Null = Some true
is_same Null (Object n) = Some false
is_same (Object m) Null = Some false
is_same (Object m) (Object n) = Some (nat_eq m n)
is_same left right = None

-- whether an array with elements of the second kind is one that a request for the first kind needs: baload and bastore serve
-- byte and boolean arrays
abbrev pub is_kind : Kind → Kind → Bool
is_kind Z Z = true
is_kind B B = true
is_kind B Z = true
is_kind C C = true
is_kind S S = true
is_kind I I = true
is_kind J J = true
is_kind L L = true
is_kind asked element = false

-- the thread of a Thread object, if it was started, and its number
abbrev pub thread_from : ℕ → List Thread → ℕ → Option (ℕ × Thread)
thread_from t [] n = None
thread_from t (thread ∷ threads) n = elim thread.object [
  | None ↦ thread_from (suc t) threads n
  | Some m ↦ if nat_eq m n then Some (t, thread) else thread_from (suc t) threads n
]

abbrev pub thread_of : World → ℕ → Option (ℕ × Thread)
thread_of world n = thread_from 0 world.threads n

module _ (set : SetFacts) (world : World) where
  abbrev pub shape_of : ℕ → ℕ
  shape_of n = (object_at world.heap n).shape

  abbrev pub next_number : ℕ
  next_number = length world.heap.objects

  abbrev pub throwing : ℕ → Step
  throwing class = Does (op.Throw next_number class) (reply.Thrown (Object next_number) class)

  abbrev pub throws : Throws → Step
  throws which = throwing (thrown_class set which)

  abbrev pub allocates : ℕ → ℕ → Step
  allocates shape count = Does (op.Alloc next_number shape count) (reply.Made (Object next_number))

  -- `new` makes as many slots as the class has fields; a String that `new` makes has no chars
  abbrev pub new_length : ℕ → ℕ
  new_length class = length (class_at set class).shape.fields

  abbrev pub new_array : ℕ → ℤ → Step
  new_array shape (pos count) = allocates shape count
  new_array shape (negsuc n) = throws exception.NegativeArraySize

  abbrev pub reads : Place → Step
  reads place = let value = value_at world.heap place in Does (op.Read place value) (reply.Item value)

  -- a store keeps what the kind of the place keeps
  abbrev pub stores : Kind → Place → Value → Step
  stores kind place value = Does (op.Stored place (narrowed kind value)) reply.Done

  -- goes on with an object of the heap that passes the test
  abbrev pub with_object : Value → (ℕ → Bool) → (ℕ → Step) → Step
  with_object Null test go = throws exception.NullPointer
  with_object (Object n) test go = if nat_lt n next_number && test n then go n else WrongOperand
  with_object (Int i) test go = WrongOperand
  with_object (Long i) test go = WrongOperand

  -- goes on with an object of the heap, or with null
  abbrev pub with_reference : Value → Step → (ℕ → Step) → Step
  with_reference Null null go = null
  with_reference (Object n) null go = if nat_lt n next_number then go n else WrongOperand
  with_reference (Int i) null go = WrongOperand
  with_reference (Long i) null go = WrongOperand

  abbrev pub with_index : ℕ → ℤ → Throws → (ℕ → Step) → Step
  with_index n (pos i) past go = if nat_lt i (length (object_at world.heap n).values) then go i else throws past
  with_index n (negsuc i) past go = throws past

  -- A class that nobody has begun is begun by this thread, which initialises it and asks again. The thread that has begun it
  -- passes, others wait (JVMS 5.5).
  abbrev pub with_progress : ℕ → ℕ → Option Progress → Step → Step
  with_progress t class None go = WrongOperand
  with_progress t class (Some Untouched) go = Does (op.Init class stage.Begun) (reply.Init class)
  with_progress t class (Some (BegunBy u)) go = if nat_eq u t then go else Waits (on.Init u)
  with_progress t class (Some Finished) go = go

  abbrev pub with_class : ℕ → ℕ → Step → Step
  with_class t class go = with_progress t class (slice_get world.classes class) go

  abbrev pub is_of : ℕ → ℕ → Bool
  is_of class n = is_sub set (shape_of n) class

  abbrev pub is_string : ℕ → Bool
  is_string n = nat_eq (shape_of n) (string_number set)

  abbrev pub is_array_of : Kind → Option Kind → Bool
  is_array_of kind None = false
  is_array_of kind (Some element) = is_kind kind element

  -- whether the object has elements of this kind: an array that isn't a String, or for Text a String
  abbrev pub has_elements : Kind → ℕ → Bool
  has_elements Text n = is_string n
  has_elements kind n = not (is_string n) && is_array_of kind (element_of set (shape_of n))

  abbrev pub has_length : ℕ → Bool
  has_length n = is_some (element_of set (shape_of n))

  -- the kind of the array's own elements
  abbrev pub own_kind : Kind → ℕ → Kind
  own_kind kind n = unwrap_or (element_of set (shape_of n)) kind

  abbrev pub past_end : Kind → Throws
  past_end Text = exception.StringIndexOutOfBounds
  past_end kind = exception.ArrayIndexOutOfBounds

  -- an array of references holds null and objects of its own element type alone (JVMS 6.5, aastore)
  abbrev pub may_store : Kind → ℕ → Value → Bool
  may_store L array (Object n) = may_hold set (shape_of array) (shape_of n)
  may_store kind array value = true

  abbrev pub class_act : ℕ → Op
  class_act n = op.Class (Some n) (Some (shape_of n))

  abbrev pub null_class : Op
  null_class = op.Class None None

  -- a monitor that another thread owns is waited for
  abbrev pub enters_held : ℕ → PlainKey → Option Monitor → Step
  enters_held t key None = Does (op.Enter key) reply.Done
  enters_held t key (Some m) = if nat_eq m.owner t then Does (op.Enter key) reply.Done else Waits (on.Monitor m.owner)

  abbrev pub enters : ℕ → PlainKey → Step
  enters t key = enters_held t key (held world.monitors key)

  -- an exit by a thread that isn't the owner throws
  abbrev pub exits_held : ℕ → PlainKey → Option Monitor → Step
  exits_held t key None = throws exception.IllegalMonitorState
  exits_held t key (Some m) = if nat_eq m.owner t then Does (op.Exit key) reply.Done else throws exception.IllegalMonitorState

  abbrev pub exits : ℕ → PlainKey → Step
  exits t key = exits_held t key (held world.monitors key)

  -- A Thread object is started once. There are at most `most_threads`.
  abbrev pub starts_thread : ℕ → Option (ℕ × Thread) → Step
  starts_thread n (Some started) = throws exception.IllegalThreadState
  starts_thread n None =
      if nat_lt (length world.threads) most_threads
      then Does (op.Start n (length world.threads)) reply.Done
      else IsOver (fault.Full (record { which = which.Threads; need = 1; left = threads_left world.threads }))

  -- the join of a thread that was never started, or has ended, returns at once
  abbrev pub joins_thread : ℕ → Option (ℕ × Thread) → Step
  joins_thread n None = Does (op.Join n) reply.Done
  joins_thread n (Some started) = if started.1.ended then Does (op.Join n) reply.Done else Waits (on.Join started.0)

  abbrev pub is_thread : ℕ → Bool
  is_thread n = is_of (built_in_number set thread_place) n

  abbrev pub any_object : ℕ → Bool
  any_object n = true

  abbrev pub puts_element : ℕ → Kind → ℕ → Value → Step
  puts_element n kind i value = if may_store kind n value then stores (own_kind kind n) (Slot n i) value else throws exception.ArrayStore

  abbrev pub casts : ℕ → ℕ → Step
  casts target n = if is_of target n then Does (class_act n) reply.Done else throws exception.ClassCast

  abbrev pub tests : ℕ → ℕ → Step
  tests target n = Does (class_act n) (reply.Item (bool_value (is_of target n)))

  abbrev pub compares : Option Bool → Step
  compares None = WrongOperand
  compares (Some same) = Does (op.Same same) (reply.Item (bool_value same))

  abbrev pub measures : ℕ → Step
  measures n = let count = length (object_at world.heap n).values in Does (op.Length n count) (reply.Item (Int (pos count)))

  -- a print takes at least one byte of its piece
  abbrev pub prints : ℕ → List ℕ → Step
  prints taken piece = if nat_lt 0 taken && nat_le taken (length piece) then Does (op.Print (take taken piece)) (reply.Printed taken) else WrongOperand

  abbrev pub ends_region : ℕ → Step
  ends_region zero = throws exception.IllegalState
  ends_region (suc depth) = Does op.End reply.Done

  -- The step of thread t, where `taken` is how many bytes a print takes.
  unfoldable pub step : ℕ → ℕ → PlainRequest → Step
  step t taken ask.Pause = Does op.Pause reply.Done
  step t taken (ask.Broken fault) = IsOver fault
  step t taken (ask.New from class) = with_class t class (allocates class (new_length class))
  step t taken (ask.NewArray from shape count) = new_array shape count
  step t taken (ask.NewText from count) = new_array (string_number set) count
  step t taken (ask.GetStatic from field) = with_class t field.class (reads (Static field.at))
  step t taken (ask.PutStatic from field value) = with_class t field.class (stores field.kind (Static field.at) value)
  step t taken (ask.GetField from holder field) = with_object holder (is_of field.class) (λ n. reads (Slot n field.at))
  step t taken (ask.PutField from holder field value) = with_object holder (is_of field.class) (λ n. stores field.kind (Slot n field.at) value)
  step t taken (ask.GetElement from array index kind) =
      with_object array (has_elements kind) (λ n. with_index n index (past_end kind) (λ i. reads (Slot n i)))
  step t taken (ask.PutElement from array index kind value) =
      with_object array (has_elements kind) (λ n. with_index n index exception.ArrayIndexOutOfBounds (λ i. puts_element n kind i value))
  step t taken (ask.Length from array) = with_object array has_length measures
  step t taken (ask.ClassOf from object within) = with_object object (is_of within) (λ n. Does (class_act n) (reply.Shape (shape_of n)))
  step t taken (ask.Cast from object target) = with_reference object (Does null_class reply.Done) (casts target)
  step t taken (ask.IsA from object target) = with_reference object (Does null_class (reply.Item (bool_value false))) (tests target)
  step t taken (ask.Same from left right) = compares (is_same left right)
  step t taken (ask.Enter from (key.Object object)) = with_object object any_object (λ n. enters t (ObjectKey n))
  step t taken (ask.Enter from (key.Class class)) = enters t (ClassKey class)
  step t taken (ask.Exit from (key.Object object)) = with_object object any_object (λ n. exits t (ObjectKey n))
  step t taken (ask.Exit from (key.Class class)) = exits t (ClassKey class)
  step t taken (ask.Start from thread) = with_object thread is_thread (λ n. starts_thread n (thread_of world n))
  step t taken (ask.Join from thread) = with_object thread is_thread (λ n. joins_thread n (thread_of world n))
  step t taken (ask.Init from class) = with_class t class (Does (op.Init class stage.Ready) reply.Done)
  step t taken (ask.InitDone from class) = Does (op.Init class stage.Done) reply.Done
  step t taken (ask.Print from piece) = prints taken piece
  step t taken (ask.Raise from class) = throwing class
  step t taken (ask.Begin from) = Does op.Begin reply.Done
  step t taken (ask.End from) = ends_region (depth_of world t)
  step t taken (ask.Leave uncaught) = Does (op.Ended uncaught) reply.Done

-- the operation that a step does, if it does one
abbrev pub op_of : Step → Option Op
op_of (Does o r) = Some o
op_of (Waits on) = None
op_of WrongOperand = None
op_of (IsOver fault) = None

abbrev pub reply_of : Step → Option PlainReply
reply_of (Does o r) = Some r
reply_of (Waits on) = None
reply_of WrongOperand = None
reply_of (IsOver fault) = None
