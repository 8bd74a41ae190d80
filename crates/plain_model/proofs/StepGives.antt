-- What the step of a fit request does, part by part: what holds of each part holds of every step.
use Rattle.std.proofs.Common.{◌≡◌, ℕ, zero, suc, ◌<◌, ◌≤◌, pos, negsuc, ℤ, Bool, true, false, List, refl, length, if◌then◌else◌}
use Rattle.std.proofs.Common.{◌&&◌, nat_lt, nat_le, nat_eq}
use Rattle.std.specs.Prelude.{Option, Some, None, IsSome, slice_get, take}
use Rattle.std.proofs.lemmas.Bool.{false≢true, ltb-true, leb-true, eq-eqb, and_parts}
use Rattle.ap_base.specs.declared.kind.Kind.{Kind}
use Rattle.run_types.specs.declared.key.Key.TheVariants as key
use Rattle.run_types.specs.declared.resolved.At.{At}
use Rattle.run_types.specs.declared.resolved.FieldAt.{FieldAt}
use Rattle.ap_base.specs.declared.place.Place.TheVariants.{Static, Slot}
use Rattle.run_types.specs.declared.wait.On.{On}
use Rattle.run_types.specs.declared.wait.On.TheVariants as on
use Rattle.run_types.specs.declared.fault.StepFault.{StepFault}
use Rattle.run_types.specs.declared.fault.StepFault.TheVariants as fault
use Rattle.run_types.specs.declared.fault.Which.TheVariants as which
use Rattle.graph_model.specs.declared.types.Value.{Value}
use Rattle.graph_model.specs.declared.types.Value.TheVariants.{Int, Long, Null, Obj as Object}
use Rattle.graph_model.specs.declared.types.Shape.{Shape}
use Rattle.graph_model.specs.declared.types.Heap.{Heap}
use Rattle.graph_model.specs.Heaps.{object_at, value_at}
use Rattle.natives.specs.declared.requests.Request.TheVariants as ask
use Rattle.natives.specs.declared.requests.Reply.TheVariants as reply
use Rattle.run_history.specs.declared.act.Op.{Op}
use Rattle.run_history.specs.declared.act.Op.TheVariants as op
use Rattle.run_history.specs.declared.act.PlainKey.{PlainKey}
use Rattle.run_history.specs.declared.act.PlainKey.TheVariants.{Object as ObjectKey, Class as ClassKey}
use Rattle.run_history.specs.declared.plain.Monitor.{Monitor}
use Rattle.run_history.specs.declared.plain.Progress.{Progress}
use Rattle.run_history.specs.declared.plain.Progress.TheVariants.{Untouched, BegunBy, Finished}
use Rattle.run_history.specs.declared.act.Stage.TheVariants as stage
use Rattle.run_history.specs.Worlds.{World, Thread, held, depth_of, heap_after_op, may_have}
use Rattle.plain_model.specs.declared.throws.Throws.{Throws}
use Rattle.plain_model.specs.declared.throws.Throws.TheVariants as exception
use Rattle.plain_model.specs.Facts.{SetFacts, classes_of, class_at, element_of, string_number, thrown_class}
use Rattle.plain_model.specs.Kinds.{narrowed}
use Rattle.plain_model.specs.Requests.{PlainRequest, PlainReply}
use Rattle.plain_model.specs.Limits.{threads_left}
use Rattle.plain_model.specs.Steps.{Step, Does, Waits, WrongOperand, IsOver, step, throws, throwing, allocates, stores}
use Rattle.plain_model.specs.Steps.{own_kind, with_object, with_reference, with_index, with_progress, with_class, new_array}
use Rattle.plain_model.specs.Steps.{new_length, enters_held, enters, exits_held, exits, starts_thread, joins_thread, thread_of}
use Rattle.plain_model.specs.Steps.{puts_element, may_store, compares, is_same, prints, ends_region, has_elements, past_end}
use Rattle.plain_model.specs.Steps.{is_of, casts, tests, measures, has_length, reads, class_act, null_class, shape_of}
use Rattle.plain_model.specs.Steps.{bool_value, any_object, is_thread}
use Rattle.plain_model.specs.Replies.{IsReplyTo}
use Rattle.plain_model.specs.Duties.{IsFit, IsOfKind, IsStaticField, IsInstanceField, IsThrowable}
use Rattle.plain_model.proofs.Consistent.{string_there, text_elements}
use Rattle.plain_model.proofs.Throwables.{thrown_is_throwable}

-- the operation makes no object and stores nothing
abbrev pub is_quiet : Op → Bool
is_quiet (op.Alloc n shape count) = false
is_quiet (op.Throw n class) = false
is_quiet (op.Stored place value) = false
is_quiet o = true

pub quiet_keeps : (heap : Heap) (o : Op) → is_quiet o ≡ true → heap_after_op heap o ≡ heap
quiet_keeps heap (op.Alloc n shape count) quiet = absurd (let no = quiet in cc)
quiet_keeps heap (op.Throw n class) quiet = absurd (let no = quiet in cc)
quiet_keeps heap (op.Stored place value) quiet = absurd (let no = quiet in cc)
quiet_keeps heap o quiet = refl

-- the reply has a value or an object
abbrev pub has_value : PlainReply → Bool
has_value (reply.Item value) = true
has_value (reply.Made object) = true
has_value (reply.Thrown object class) = true
has_value r = false

-- P holds of each thing that the step of a fit request may do
pub record HoldsOfParts (set : SetFacts) (world : World)
    (P : PlainRequest → Op → PlainReply → Type 0) : Type 0 where
  pub throw : (request : PlainRequest) (class : ℕ) → IsThrowable set class
      → IsReplyTo set request (reply.Thrown (Object (length world.heap.objects)) class)
      → P request (op.Throw (length world.heap.objects) class)
      (reply.Thrown (Object (length world.heap.objects)) class)
  pub alloc : (request : PlainRequest) (class count : ℕ) → class < length (classes_of set)
      → may_have (class_at set class).shape count ≡ true
      → IsReplyTo set request (reply.Made (Object (length world.heap.objects)))
      → P request (op.Alloc (length world.heap.objects) class count)
      (reply.Made (Object (length world.heap.objects)))
  pub store_static : (from : At) (field : FieldAt) (value : Value) → IsStaticField set field
      → IsOfKind world field.kind value
      → P (ask.PutStatic from field value)
      (op.Stored (Static field.at) (narrowed field.kind value)) reply.Done
  pub store_field : (from : At) (holder : Value) (field : FieldAt) (value : Value) (n : ℕ)
      → n < length world.heap.objects
      → is_of set world field.class n ≡ true → IsInstanceField set field → IsOfKind world field.kind value
      → P (ask.PutField from holder field value)
      (op.Stored (Slot n field.at) (narrowed field.kind value)) reply.Done
  pub store_element : (from : At) (array : Value) (index : ℤ) (kind : Kind) (value : Value) (n i : ℕ)
      → n < length world.heap.objects
      → has_elements set world kind n ≡ true → i < length (object_at world.heap n).values
      → IsOfKind world kind value
      → P (ask.PutElement from array index kind value)
      (op.Stored (Slot n i) (narrowed (own_kind set world kind n) value)) reply.Done
  pub read_static : (from : At) (field : FieldAt) → IsStaticField set field
      → let value = value_at world.heap (Static field.at) in
      P (ask.GetStatic from field) (op.Read (Static field.at) value) (reply.Item value)
  pub read_field : (from : At) (holder : Value) (field : FieldAt) (n : ℕ) → n < length world.heap.objects
      → is_of set world field.class n ≡ true → IsInstanceField set field
      → let value = value_at world.heap (Slot n field.at) in
      P (ask.GetField from holder field) (op.Read (Slot n field.at) value) (reply.Item value)
  pub read_element : (from : At) (array : Value) (index : ℤ) (kind : Kind) (n i : ℕ)
      → n < length world.heap.objects
      → has_elements set world kind n ≡ true → i < length (object_at world.heap n).values
      → let value = value_at world.heap (Slot n i) in
      P (ask.GetElement from array index kind) (op.Read (Slot n i) value) (reply.Item value)
  pub measure : (from : At) (array : Value) (n count : ℕ)
      → P (ask.Length from array) (op.Length n count) (reply.Item (Int (pos count)))
  pub test : (from : At) (object : Value) (target : ℕ) (o : Op) (b : Bool) → is_quiet o ≡ true
      → P (ask.IsA from object target) o (reply.Item (bool_value b))
  pub compare : (from : At) (left right : Value) (same : Bool)
      → P (ask.Same from left right) (op.Same same) (reply.Item (bool_value same))
  pub other : (request : PlainRequest) (o : Op) (r : PlainReply) → is_quiet o ≡ true → has_value r ≡ false
      → IsReplyTo set request r → P request o r

-- as many slots as fields, and any number of elements
may_have_fields : (shape : Shape) → may_have shape (length shape.fields) ≡ true
may_have_fields shape = elim shape.element as (λ element.
    (elim element [ None ↦ nat_eq (length shape.fields) (length shape.fields) | Some kind ↦ true ]) ≡ true) [
      | None ↦ eq-eqb (length shape.fields) (length shape.fields) refl
      | Some kind ↦ refl
    ]

may_have_elements : (shape : Shape) (count : ℕ) → IsSome shape.element → may_have shape count ≡ true
may_have_elements shape count some = elim shape.element as (λ element. IsSome element
    → (elim element [ None ↦ nat_eq count (length shape.fields) | Some kind ↦ true ]) ≡ true) [
      | None ↦ λ none. absurd (false≢true none)
      | Some kind ↦ λ there. refl
    ] some

module _ (set : SetFacts) (world : World) (P : PlainRequest → Op → PlainReply → Type 0)
    (holds : HoldsOfParts set world P) where
  module _ (request : PlainRequest) where
    -- P holds of what the step does, if it does something
    abbrev Gives : Step → Type 0
    Gives s = (o : Op) (r : PlainReply) → s ≡ Does o r → P request o r

    gives-Does : (o : Op) (r : PlainReply) → P request o r → Gives (Does o r)
    gives-Does o r is p q same =
        let same_op : o ≡ p = (let e : Does o r ≡ Does p q = same in cc) in
        let same_reply : r ≡ q = (let e : Does o r ≡ Does p q = same in cc) in rw (← same_op, ← same_reply) is

    gives-Waits : (on : On) → Gives (Waits on)
    gives-Waits on o r is = absurd (let e : Waits on ≡ Does o r = is in cc)

    gives-WrongOperand : Gives WrongOperand
    gives-WrongOperand o r is = absurd (let e : WrongOperand ≡ Does o r = is in cc)

    gives-IsOver : (fault : StepFault) → Gives (IsOver fault)
    gives-IsOver fault o r is = absurd (let e : IsOver fault ≡ Does o r = is in cc)

    -- what makes no object, stores nothing and replies with no value
    gives-other : (o : Op) (r : PlainReply) → is_quiet o ≡ true → has_value r ≡ false
        → IsReplyTo set request r
        → Gives (Does o r)
    gives-other o r quiet no_value is = gives-Does o r (holds.other request o r quiet no_value is)

    gives-if : (b : Bool) (x y : Step) → (b ≡ true → Gives x) → Gives y → Gives (if b then x else y)
    gives-if true x y gives_x gives_y = gives_x refl
    gives-if false x y gives_x gives_y = gives_y

    gives-allocates : (class count : ℕ) → class < length (classes_of set)
        → may_have (class_at set class).shape count ≡ true
        → IsReplyTo set request (reply.Made (Object (length world.heap.objects)))
        → Gives (allocates set world class count)
    gives-allocates class count there may is =
        let next = length world.heap.objects in
        gives-Does (op.Alloc next class count) (reply.Made (Object next))
        (holds.alloc request class count there may is)

    gives-with_reference : (value : Value) (null : Step) (go : ℕ → Step) → Gives null
        → ((n : ℕ) → Gives (go n))
        → Gives (with_reference set world value null go)
    gives-with_reference Null null go gives_null gives = gives_null
    gives-with_reference (Object n) null go gives_null gives =
        gives-if (nat_lt n (length world.heap.objects)) (go n) WrongOperand (λ e. gives n) gives-WrongOperand
    gives-with_reference (Int i) null go gives_null gives = gives-WrongOperand
    gives-with_reference (Long i) null go gives_null gives = gives-WrongOperand

    gives-with_progress : (t class : ℕ) (progress : Option Progress) (go : Step)
        → IsReplyTo set request (reply.Init class) → Gives go
        → Gives (with_progress set world t class progress go)
    gives-with_progress t class None go init gives = gives-WrongOperand
    gives-with_progress t class (Some Untouched) go init gives =
        gives-other (op.Init class stage.Begun) (reply.Init class) refl refl init
    gives-with_progress t class (Some (BegunBy u)) go init gives =
        gives-if (nat_eq u t) go (Waits (on.Init u)) (λ e. gives) (gives-Waits (on.Init u))
    gives-with_progress t class (Some Finished) go init gives = gives

    gives-with_class : (t class : ℕ) (go : Step) → IsReplyTo set request (reply.Init class) → Gives go
        → Gives (with_class set world t class go)
    gives-with_class t class go init gives =
        gives-with_progress t class (slice_get world.classes class) go init gives

    gives-prints : (taken : ℕ) (piece : List ℕ)
        → (0 < taken → taken ≤ length piece → IsReplyTo set request (reply.Printed taken))
        → Gives (prints set world taken piece)
    gives-prints taken piece is =
        gives-if (nat_lt 0 taken && nat_le taken (length piece))
        (Does (op.Print (take taken piece)) (reply.Printed taken)) WrongOperand (λ e.
        let (some, enough) = and_parts (nat_lt 0 taken) (nat_le taken (length piece)) e in
        gives-other (op.Print (take taken piece)) (reply.Printed taken) refl refl
        (is (ltb-true 0 taken some) (leb-true taken (length piece) enough))) gives-WrongOperand

    -- ---- requests that may be replied with a throwable

    abbrev MayThrow : Type 0
    MayThrow = (class : ℕ) → IsThrowable set class
        → IsReplyTo set request (reply.Thrown (Object (length world.heap.objects)) class)

    module _ (may : MayThrow) where
      gives-throwing : (class : ℕ) → IsThrowable set class → Gives (throwing set world class)
      gives-throwing class is =
          let next = length world.heap.objects in
          gives-Does (op.Throw next class) (reply.Thrown (Object next) class)
          (holds.throw request class is (may class is))

      gives-throws : (which : Throws) → Gives (throws set world which)
      gives-throws which = gives-throwing (thrown_class set which) (thrown_is_throwable set which)

      gives-new_array : (class : ℕ) (count : ℤ) → class < length (classes_of set)
          → IsSome (element_of set class)
          → IsReplyTo set request (reply.Made (Object (length world.heap.objects)))
          → Gives (new_array set world class count)
      gives-new_array class (pos count) there some is =
          gives-allocates class count there (may_have_elements (class_at set class).shape count some) is
      gives-new_array class (negsuc count) there some is = gives-throws exception.NegativeArraySize

      gives-with_object : (value : Value) (test : ℕ → Bool) (go : ℕ → Step)
          → ((n : ℕ) → n < length world.heap.objects → test n ≡ true → Gives (go n))
          → Gives (with_object set world value test go)
      gives-with_object Null test go gives = gives-throws exception.NullPointer
      gives-with_object (Object n) test go gives =
          gives-if (nat_lt n (length world.heap.objects) && test n) (go n) WrongOperand (λ e.
          let (there, passes) = and_parts (nat_lt n (length world.heap.objects)) (test n) e in
          gives n (ltb-true n (length world.heap.objects) there) passes) gives-WrongOperand
      gives-with_object (Int i) test go gives = gives-WrongOperand
      gives-with_object (Long i) test go gives = gives-WrongOperand

      gives-with_index : (n : ℕ) (index : ℤ) (past : Throws) (go : ℕ → Step)
          → ((i : ℕ) → i < length (object_at world.heap n).values → Gives (go i))
          → Gives (with_index set world n index past go)
      gives-with_index n (pos i) past go gives =
          let count = length (object_at world.heap n).values in
          gives-if (nat_lt i count) (go i) (throws set world past) (λ e. gives i (ltb-true i count e))
          (gives-throws past)
      gives-with_index n (negsuc i) past go gives = gives-throws past

      module _ (done : IsReplyTo set request reply.Done) where
        gives-enters : (t : ℕ) (key : PlainKey) (monitor : Option Monitor)
            → Gives (enters_held set world t key monitor)
        gives-enters t key None = gives-other (op.Enter key) reply.Done refl refl done
        gives-enters t key (Some m) =
            gives-if (nat_eq m.owner t) (Does (op.Enter key) reply.Done) (Waits (on.Monitor m.owner))
            (λ e. gives-other (op.Enter key) reply.Done refl refl done) (gives-Waits (on.Monitor m.owner))

        gives-exits : (t : ℕ) (key : PlainKey) (monitor : Option Monitor)
            → Gives (exits_held set world t key monitor)
        gives-exits t key None = gives-throws exception.IllegalMonitorState
        gives-exits t key (Some m) =
            gives-if (nat_eq m.owner t) (Does (op.Exit key) reply.Done)
            (throws set world exception.IllegalMonitorState)
            (λ e. gives-other (op.Exit key) reply.Done refl refl done)
            (gives-throws exception.IllegalMonitorState)

        gives-starts : (n : ℕ) (started : Option (ℕ × Thread)) → Gives (starts_thread set world n started)
        gives-starts n (Some started) = gives-throws exception.IllegalThreadState
        gives-starts n None =
            gives-if (nat_lt (length world.threads) 64) (Does (op.Start n (length world.threads)) reply.Done)
            (IsOver (fault.Full (record { which = which.Threads; need = 1; left = threads_left world.threads })))
            (λ e. gives-other (op.Start n (length world.threads)) reply.Done refl refl done)
            (gives-IsOver (fault.Full (record { which = which.Threads; need = 1; left = threads_left world.threads })))

        gives-joins : (n : ℕ) (started : Option (ℕ × Thread)) → Gives (joins_thread set world n started)
        gives-joins n None = gives-other (op.Join n) reply.Done refl refl done
        gives-joins n (Some started) =
            gives-if started.1.ended (Does (op.Join n) reply.Done) (Waits (on.Join started.0))
            (λ e. gives-other (op.Join n) reply.Done refl refl done) (gives-Waits (on.Join started.0))

        gives-casts : (target n : ℕ) → Gives (casts set world target n)
        gives-casts target n =
            gives-if (is_of set world target n) (Does (class_act set world n) reply.Done)
            (throws set world exception.ClassCast)
            (λ e. gives-other (class_act set world n) reply.Done refl refl done)
            (gives-throws exception.ClassCast)

        gives-ends_region : (depth : ℕ) → Gives (ends_region set world depth)
        gives-ends_region zero = gives-throws exception.IllegalState
        gives-ends_region (suc depth) = gives-other op.End reply.Done refl refl done

  gives-compares : (from : At) (left right : Value) (same : Option Bool)
      → Gives (ask.Same from left right) (compares set world same)
  gives-compares from left right None = gives-WrongOperand (ask.Same from left right)
  gives-compares from left right (Some same) =
      gives-Does (ask.Same from left right) (op.Same same) (reply.Item (bool_value same))
      (holds.compare from left right same)

  gives-tests : (from : At) (object : Value) (target : ℕ) (o : Op) (b : Bool) → is_quiet o ≡ true
      → Gives (ask.IsA from object target) (Does o (reply.Item (bool_value b)))
  gives-tests from object target o b quiet =
      gives-Does (ask.IsA from object target) o (reply.Item (bool_value b))
      (holds.test from object target o b quiet)

  gives-reads_element : (from : At) (array : Value) (index : ℤ) (kind : Kind) (n i : ℕ)
      → n < length world.heap.objects → has_elements set world kind n ≡ true
      → i < length (object_at world.heap n).values
      → Gives (ask.GetElement from array index kind) (reads set world (Slot n i))
  gives-reads_element from array index kind n i there has within =
      let value = value_at world.heap (Slot n i) in
      gives-Does (ask.GetElement from array index kind) (op.Read (Slot n i) value) (reply.Item value)
      (holds.read_element from array index kind n i there has within)

  gives-puts_element : (from : At) (array : Value) (index : ℤ) (kind : Kind) (value : Value) (n i : ℕ)
      → n < length world.heap.objects → has_elements set world kind n ≡ true
      → i < length (object_at world.heap n).values → IsOfKind world kind value
      → Gives (ask.PutElement from array index kind value) (puts_element set world n kind i value)
  gives-puts_element from array index kind value n i there has within of =
      let asked = ask.PutElement from array index kind value in
      gives-if asked (may_store set world kind n value)
      (stores set world (own_kind set world kind n) (Slot n i) value) (throws set world exception.ArrayStore)
      (λ e. gives-Does asked (op.Stored (Slot n i) (narrowed (own_kind set world kind n) value)) reply.Done
      (holds.store_element from array index kind value n i there has within of))
      (gives-throws asked (λ class is. (tt, is)) exception.ArrayStore)

  -- so P holds of what the step of a fit request does
  pub step_gives : (t taken : ℕ) (request : PlainRequest) → IsFit set world t request
      → Gives request (step set world t taken request)
  unfolding step
  step_gives t taken ask.Pause fit = gives-other ask.Pause op.Pause reply.Done refl refl tt
  step_gives t taken (ask.Broken f) fit = gives-IsOver (ask.Broken f) f
  step_gives t taken (ask.New from class) fit =
      let asked = ask.New from class in let count = new_length set world class in
      gives-with_class asked t class (allocates set world class count) refl
      (gives-allocates asked class count fit.0 (may_have_fields (class_at set class).shape) tt)
  step_gives t taken (ask.NewArray from shape count) fit =
      gives-new_array (ask.NewArray from shape count) (λ class is. (tt, is)) shape count fit.0 fit.1 tt
  step_gives t taken (ask.NewText from count) fit =
      gives-new_array (ask.NewText from count) (λ class is. (tt, is)) (string_number set) count
      (string_there set)
      (rw (text_elements set) refl) tt
  step_gives t taken (ask.GetStatic from field) fit =
      let asked = ask.GetStatic from field in let value = value_at world.heap (Static field.at) in
      gives-with_class asked t field.class (reads set world (Static field.at)) refl
      (gives-Does asked (op.Read (Static field.at) value) (reply.Item value)
      (holds.read_static from field fit))
  step_gives t taken (ask.PutStatic from field value) fit =
      let asked = ask.PutStatic from field value in
      gives-with_class asked t field.class (stores set world field.kind (Static field.at) value) refl
      (gives-Does asked (op.Stored (Static field.at) (narrowed field.kind value)) reply.Done
      (holds.store_static from field value fit.0 fit.1))
  step_gives t taken (ask.GetField from holder field) fit =
      let asked = ask.GetField from holder field in
      gives-with_object asked (λ class is. (tt, is)) holder (is_of set world field.class)
      (λ n. reads set world (Slot n field.at)) (λ n there of.
      let value = value_at world.heap (Slot n field.at) in
      gives-Does asked (op.Read (Slot n field.at) value) (reply.Item value)
      (holds.read_field from holder field n there of fit.0))
  step_gives t taken (ask.PutField from holder field value) fit =
      let asked = ask.PutField from holder field value in
      gives-with_object asked (λ class is. (tt, is)) holder (is_of set world field.class)
      (λ n. stores set world field.kind (Slot n field.at) value) (λ n there of.
      gives-Does asked (op.Stored (Slot n field.at) (narrowed field.kind value)) reply.Done
      (holds.store_field from holder field value n there of fit.0 fit.2))
  step_gives t taken (ask.GetElement from array index kind) fit =
      let asked = ask.GetElement from array index kind in
      gives-with_object asked (λ class is. (tt, is)) array (has_elements set world kind)
      (λ n. with_index set world n index (past_end set world kind) (λ i. reads set world (Slot n i)))
      (λ n there has.
      gives-with_index asked (λ class is. (tt, is)) n index (past_end set world kind)
      (λ i. reads set world (Slot n i)) (λ i within.
      gives-reads_element from array index kind n i there has within))
  step_gives t taken (ask.PutElement from array index kind value) fit =
      let asked = ask.PutElement from array index kind value in
      gives-with_object asked (λ class is. (tt, is)) array (has_elements set world kind)
      (λ n. with_index set world n index exception.ArrayIndexOutOfBounds
      (λ i. puts_element set world n kind i value)) (λ n there has.
      gives-with_index asked (λ class is. (tt, is)) n index exception.ArrayIndexOutOfBounds
      (λ i. puts_element set world n kind i value) (λ i within.
      gives-puts_element from array index kind value n i there has within fit.1))
  step_gives t taken (ask.Length from array) fit =
      let asked = ask.Length from array in
      gives-with_object asked (λ class is. (tt, is)) array (has_length set world) (measures set world)
      (λ n there has.
      let count = length (object_at world.heap n).values in
      gives-Does asked (op.Length n count) (reply.Item (Int (pos count))) (holds.measure from array n count))
  step_gives t taken (ask.ClassOf from object within) fit =
      let asked = ask.ClassOf from object within in
      gives-with_object asked (λ class is. (tt, is)) object (is_of set world within)
      (λ n. Does (class_act set world n) (reply.Shape (shape_of set world n))) (λ n there of.
      gives-other asked (class_act set world n) (reply.Shape (shape_of set world n)) refl refl of)
  step_gives t taken (ask.Cast from object target) fit =
      let asked = ask.Cast from object target in
      gives-with_reference asked object (Does (null_class set world) reply.Done) (casts set world target)
      (gives-other asked (null_class set world) reply.Done refl refl tt)
      (gives-casts asked (λ class is. (tt, is)) tt target)
  step_gives t taken (ask.IsA from object target) fit =
      gives-with_reference (ask.IsA from object target) object
      (Does (null_class set world) (reply.Item (bool_value false))) (tests set world target)
      (gives-tests from object target (null_class set world) false refl)
      (λ n. gives-tests from object target (class_act set world n) (is_of set world target n) refl)
  step_gives t taken (ask.Same from left right) fit = gives-compares from left right (is_same left right)
  step_gives t taken (ask.Enter from (key.Object object)) fit =
      let asked = ask.Enter from (key.Object object) in
      gives-with_object asked (λ class is. (tt, is)) object (any_object set world)
      (λ n. enters set world t (ObjectKey n)) (λ n there any.
      gives-enters asked (λ class is. (tt, is)) tt t (ObjectKey n) (held world.monitors (ObjectKey n)))
  step_gives t taken (ask.Enter from (key.Class class)) fit =
      gives-enters (ask.Enter from (key.Class class)) (λ class is. (tt, is)) tt t (ClassKey class)
      (held world.monitors (ClassKey class))
  step_gives t taken (ask.Exit from (key.Object object)) fit =
      let asked = ask.Exit from (key.Object object) in
      gives-with_object asked (λ class is. (tt, is)) object (any_object set world)
      (λ n. exits set world t (ObjectKey n)) (λ n there any.
      gives-exits asked (λ class is. (tt, is)) tt t (ObjectKey n) (held world.monitors (ObjectKey n)))
  step_gives t taken (ask.Exit from (key.Class class)) fit =
      gives-exits (ask.Exit from (key.Class class)) (λ class is. (tt, is)) tt t (ClassKey class)
      (held world.monitors (ClassKey class))
  step_gives t taken (ask.Start from thread) fit =
      let asked = ask.Start from thread in
      gives-with_object asked (λ class is. (tt, is)) thread (is_thread set world)
      (λ n. starts_thread set world n (thread_of world n)) (λ n there is.
      gives-starts asked (λ class is. (tt, is)) tt n (thread_of world n))
  step_gives t taken (ask.Join from thread) fit =
      let asked = ask.Join from thread in
      gives-with_object asked (λ class is. (tt, is)) thread (is_thread set world)
      (λ n. joins_thread set world n (thread_of world n)) (λ n there is.
      gives-joins asked (λ class is. (tt, is)) tt n (thread_of world n))
  step_gives t taken (ask.Init from class) fit =
      let asked = ask.Init from class in
      gives-with_class asked t class (Does (op.Init class stage.Ready) reply.Done) refl
      (gives-other asked (op.Init class stage.Ready) reply.Done refl refl tt)
  step_gives t taken (ask.InitDone from class) fit =
      gives-other (ask.InitDone from class) (op.Init class stage.Done) reply.Done refl refl tt
  step_gives t taken (ask.Print from piece) fit =
      gives-prints (ask.Print from piece) taken piece (λ some enough. (some, enough))
  step_gives t taken (ask.Raise from class) fit =
      gives-throwing (ask.Raise from class) (λ class is. (tt, is)) class fit
  step_gives t taken (ask.Begin from) fit = gives-other (ask.Begin from) op.Begin reply.Done refl refl tt
  step_gives t taken (ask.End from) fit =
      gives-ends_region (ask.End from) (λ class is. (tt, is)) tt (depth_of world t)
  step_gives t taken (ask.Leave uncaught) fit =
      gives-other (ask.Leave uncaught) (op.Ended uncaught) reply.Done refl refl tt
