-- What a step does to classes and threads, and what its reply says of classes.
use Rattle.std.proofs.Common.{◌≡◌, ℕ, zero, suc, ◌<◌, ℤ, pos, negsuc, Bool, true, false, List, [], ◌∷◌, length, take, refl, ap}
use Rattle.std.proofs.Common.{subst, if◌then◌else◌, ◌&&◌, nat_eq, nat_lt, nat_le, arith}
use Rattle.std.specs.Prelude.{◌≢◌, Option, Some, None, slice_get, slice_set}
use Rattle.std.proofs.lemmas.Bool.{ltb-true, and_parts}
use Rattle.std.proofs.lemmas.Option.{slice_get_within}
use Rattle.ap_base.specs.declared.kind.Kind.{Kind}
use Rattle.run_types.specs.declared.key.Key.TheVariants as key
use Rattle.run_types.specs.declared.resolved.At.{At}
use Rattle.ap_base.specs.declared.place.Place.TheVariants.{Static, Slot}
use Rattle.graph_model.specs.declared.types.Value.{Value}
use Rattle.graph_model.specs.declared.types.Value.TheVariants.{Int, Long, Null, Obj as Object}
use Rattle.graph_model.specs.Heaps.{object_at}
use Rattle.natives.specs.declared.requests.Request.TheVariants as ask
use Rattle.natives.specs.declared.requests.Reply.TheVariants as reply
use Rattle.run_history.specs.declared.act.Op.{Op}
use Rattle.run_history.specs.declared.act.Op.TheVariants as op
use Rattle.run_history.specs.declared.act.PlainKey.{PlainKey}
use Rattle.run_history.specs.declared.act.PlainKey.TheVariants.{Object as ObjectKey, Class as ClassKey}
use Rattle.run_history.specs.declared.act.Stage.TheVariants as stage
use Rattle.run_history.specs.declared.plain.Monitor.{Monitor}
use Rattle.run_history.specs.declared.plain.Progress.{Progress}
use Rattle.run_history.specs.declared.plain.Progress.TheVariants.{Untouched, BegunBy, Finished}
use Rattle.run_history.specs.Worlds.{World, Thread, held, depth_of, classes_after_op}
use Rattle.plain_model.specs.declared.throws.Throws.{Throws}
use Rattle.plain_model.specs.declared.throws.Throws.TheVariants as exception
use Rattle.plain_model.specs.Facts.{SetFacts, string_number}
use Rattle.plain_model.specs.Requests.{PlainRequest, PlainReply}
use Rattle.plain_model.specs.Limits.{most_threads}
use Rattle.plain_model.specs.Steps.{Step, Does, WrongOperand, step, throws, allocates, reads, stores, own_kind, with_object}
use Rattle.plain_model.specs.Steps.{with_reference, with_index, with_progress, with_class, new_array, new_length, enters_held}
use Rattle.plain_model.specs.Steps.{exits_held, starts_thread, joins_thread, thread_of, puts_element, may_store, compares}
use Rattle.plain_model.specs.Steps.{is_same, prints, ends_region, has_elements, past_end, is_of, casts, has_length, class_act}
use Rattle.plain_model.specs.Steps.{null_class, shape_of, bool_value, any_object, is_thread}

-- ---- a list with one place changed

pub get-set_same : {X : Type 0} (xs : List X) (i : ℕ) (x : X) → i < length xs
    → slice_get (slice_set xs i x) i ≡ Some x
get-set_same [] i x there = absurd (omega (arith, there))
get-set_same (y ∷ xs) zero x there = refl
get-set_same (y ∷ xs) (suc i) x there = get-set_same xs i x (omega (arith, there))

pub get-set_other : {X : Type 0} (xs : List X) (i j : ℕ) (x : X) → i ≢ j
    → slice_get (slice_set xs i x) j ≡ slice_get xs j
get-set_other [] i j x other = refl
get-set_other (y ∷ xs) zero zero x other = absurd (other refl)
get-set_other (y ∷ xs) zero (suc j) x other = refl
get-set_other (y ∷ xs) (suc i) zero x other = refl
get-set_other (y ∷ xs) (suc i) (suc j) x other = get-set_other xs i j x (λ same. other (ap suc same))

-- ---- steps

module _ (set : SetFacts) (world : World) (t : ℕ) where
  abbrev objects : ℕ
  objects = length world.heap.objects

  -- it names no class to initialise, and a class that it tells is an object's
  abbrev pub IsOrdinary : PlainReply → Type 0
  IsOrdinary (reply.Init class) = ⊥
  IsOrdinary (reply.Shape class) =
      (n : ℕ) × (n < length world.heap.objects) × (class ≡ shape_of set world n)
  IsOrdinary r = Unit {0}

  abbrev pub Progresses : PlainRequest → Op → PlainReply → Type 0
  Progresses request (op.Init class stage.Begun) r =
      (r ≡ reply.Init class) × (slice_get world.classes class ≡ Some Untouched)
  Progresses request (op.Init class stage.Done) r =
      (r ≡ reply.Done) × (from : At) × (request ≡ ask.InitDone from class)
  Progresses request (op.Start n child) r = (r ≡ reply.Done) × (n < length world.heap.objects)
  Progresses request o r = IsOrdinary r

  module _ (request : PlainRequest) where
    -- so it is with a step that does something
    abbrev Has : Step → Type 0
    Has (Does o r) = Progresses request o r
    Has s = Unit {0}

    has-if : (b : Bool) (y z : Step) → (b ≡ true → Has y) → Has z → Has (if b then y else z)
    has-if true y z is other = is refl
    has-if false y z is other = other

    has-object : (value : Value) (test : ℕ → Bool) (go : ℕ → Step) → ((n : ℕ) → n < objects → Has (go n))
        → Has (with_object set world value test go)
    has-object Null test go is = tt
    has-object (Object n) test go is =
        has-if (nat_lt n objects && test n) (go n) WrongOperand (λ e.
        is n (ltb-true n objects (and_parts (nat_lt n objects) (test n) e).0)) tt
    has-object (Int i) test go is = tt
    has-object (Long i) test go is = tt

    has-reference : (value : Value) (null : Step) (go : ℕ → Step) → Has null → ((n : ℕ) → Has (go n))
        → Has (with_reference set world value null go)
    has-reference Null null go null_is is = null_is
    has-reference (Object n) null go null_is is = has-if (nat_lt n objects) (go n) WrongOperand (λ e. is n) tt
    has-reference (Int i) null go null_is is = tt
    has-reference (Long i) null go null_is is = tt

    has-index : (n : ℕ) (index : ℤ) (past : Throws) (go : ℕ → Step) → ((i : ℕ) → Has (go i))
        → Has (with_index set world n index past go)
    has-index n (pos i) past go is =
        has-if (nat_lt i (length (object_at world.heap n).values)) (go i) (throws set world past)
        (λ e. is i) tt
    has-index n (negsuc i) past go is = tt

    has-progress : (class : ℕ) (progress : Option Progress) (go : Step)
        → slice_get world.classes class ≡ progress → Has go
        → Has (with_progress set world t class progress go)
    has-progress class None go e is = tt
    has-progress class (Some Untouched) go e is = (refl, e)
    has-progress class (Some (BegunBy u)) go e is = has-if (nat_eq u t) go _ (λ same. is) tt
    has-progress class (Some Finished) go e is = is

    has-class : (class : ℕ) (go : Step) → Has go → Has (with_class set world t class go)
    has-class class go is = has-progress class (slice_get world.classes class) go refl is

    has-array : (class : ℕ) (count : ℤ) → Has (new_array set world class count)
    has-array class (pos count) = tt
    has-array class (negsuc count) = tt

    has-enters : (k : PlainKey) (monitor : Option Monitor) → Has (enters_held set world t k monitor)
    has-enters k None = tt
    has-enters k (Some m) = has-if (nat_eq m.owner t) (Does (op.Enter k) reply.Done) _ (λ e. tt) tt

    has-exits : (k : PlainKey) (monitor : Option Monitor) → Has (exits_held set world t k monitor)
    has-exits k None = tt
    has-exits k (Some m) =
        has-if (nat_eq m.owner t) (Does (op.Exit k) reply.Done)
        (throws set world exception.IllegalMonitorState) (λ e. tt) tt

    has-starts : (n : ℕ) (started : Option (ℕ × Thread)) → n < objects
        → Has (starts_thread set world n started)
    has-starts n None there =
        has-if (nat_lt (length world.threads) most_threads)
        (Does (op.Start n (length world.threads)) reply.Done) _ (λ e. (refl, there)) tt
    has-starts n (Some started) there = tt

    has-joins : (n : ℕ) (started : Option (ℕ × Thread)) → Has (joins_thread set world n started)
    has-joins n None = tt
    has-joins n (Some started) = has-if started.1.ended (Does (op.Join n) reply.Done) _ (λ e. tt) tt

    has-puts : (n i : ℕ) (kind : Kind) (value : Value) → Has (puts_element set world n kind i value)
    has-puts n i kind value =
        has-if (may_store set world kind n value)
        (stores set world (own_kind set world kind n) (Slot n i) value)
        (throws set world exception.ArrayStore) (λ e. tt) tt

    has-casts : (class n : ℕ) → Has (casts set world class n)
    has-casts class n =
        has-if (is_of set world class n) (Does (class_act set world n) reply.Done)
        (throws set world exception.ClassCast) (λ e. tt) tt

    has-compares : (same : Option Bool) → Has (compares set world same)
    has-compares None = tt
    has-compares (Some same) = tt

    has-prints : (taken : ℕ) (piece : List ℕ) → Has (prints set world taken piece)
    has-prints taken piece =
        has-if (nat_lt 0 taken && nat_le taken (length piece))
        (Does (op.Print (take taken piece)) (reply.Printed taken)) WrongOperand (λ e. tt) tt

    has-ends : (depth : ℕ) → Has (ends_region set world depth)
    has-ends zero = tt
    has-ends (suc depth) = tt

  has-step : (taken : ℕ) (request : PlainRequest) → Has request (step set world t taken request)
  unfolding step
  has-step taken ask.Pause = tt
  has-step taken (ask.Broken f) = tt
  has-step taken (ask.New from class) =
      has-class (ask.New from class) class (allocates set world class (new_length set world class)) tt
  has-step taken (ask.NewArray from shape count) = has-array (ask.NewArray from shape count) shape count
  has-step taken (ask.NewText from count) = has-array (ask.NewText from count) (string_number set) count
  has-step taken (ask.GetStatic from field) =
      has-class (ask.GetStatic from field) field.class (reads set world (Static field.at)) tt
  has-step taken (ask.PutStatic from field value) =
      has-class (ask.PutStatic from field value) field.class
      (stores set world field.kind (Static field.at) value) tt
  has-step taken (ask.GetField from holder field) =
      has-object (ask.GetField from holder field) holder (is_of set world field.class) _ (λ n there. tt)
  has-step taken (ask.PutField from holder field value) =
      has-object (ask.PutField from holder field value) holder (is_of set world field.class) _
      (λ n there. tt)
  has-step taken (ask.GetElement from array index kind) =
      let asked = ask.GetElement from array index kind in
      has-object asked array (has_elements set world kind) _ (λ n there.
      has-index asked n index (past_end set world kind) _ (λ i. tt))
  has-step taken (ask.PutElement from array index kind value) =
      let asked = ask.PutElement from array index kind value in
      has-object asked array (has_elements set world kind) _ (λ n there.
      has-index asked n index exception.ArrayIndexOutOfBounds _ (λ i. has-puts asked n i kind value))
  has-step taken (ask.Length from array) =
      has-object (ask.Length from array) array (has_length set world) _ (λ n there. tt)
  has-step taken (ask.ClassOf from object within) =
      has-object (ask.ClassOf from object within) object (is_of set world within) _
      (λ n there. (n, there, refl))
  has-step taken (ask.Cast from object class) =
      has-reference (ask.Cast from object class) object (Does (null_class set world) reply.Done) _ tt
      (has-casts (ask.Cast from object class) class)
  has-step taken (ask.IsA from object class) =
      has-reference (ask.IsA from object class) object
      (Does (null_class set world) (reply.Item (bool_value false))) _ tt (λ n. tt)
  has-step taken (ask.Same from left right) = has-compares (ask.Same from left right) (is_same left right)
  has-step taken (ask.Enter from (key.Object object)) =
      let asked = ask.Enter from (key.Object object) in
      has-object asked object (any_object set world) _ (λ n there.
      has-enters asked (ObjectKey n) (held world.monitors (ObjectKey n)))
  has-step taken (ask.Enter from (key.Class class)) =
      has-enters (ask.Enter from (key.Class class)) (ClassKey class) (held world.monitors (ClassKey class))
  has-step taken (ask.Exit from (key.Object object)) =
      let asked = ask.Exit from (key.Object object) in
      has-object asked object (any_object set world) _ (λ n there.
      has-exits asked (ObjectKey n) (held world.monitors (ObjectKey n)))
  has-step taken (ask.Exit from (key.Class class)) =
      has-exits (ask.Exit from (key.Class class)) (ClassKey class) (held world.monitors (ClassKey class))
  has-step taken (ask.Start from thread) =
      let asked = ask.Start from thread in
      has-object asked thread (is_thread set world) _ (λ n there.
      has-starts asked n (thread_of world n) there)
  has-step taken (ask.Join from thread) =
      let asked = ask.Join from thread in
      has-object asked thread (is_thread set world) _ (λ n there. has-joins asked n (thread_of world n))
  has-step taken (ask.Init from class) =
      has-class (ask.Init from class) class (Does (op.Init class stage.Ready) reply.Done) tt
  has-step taken (ask.InitDone from class) = (refl, from, refl)
  has-step taken (ask.Print from piece) = has-prints (ask.Print from piece) taken piece
  has-step taken (ask.Raise from class) = tt
  has-step taken (ask.Begin from) = tt
  has-step taken (ask.End from) = has-ends (ask.End from) (depth_of world t)
  has-step taken (ask.Leave uncaught) = tt

  pub step-progresses : (taken : ℕ) (request : PlainRequest) (o : Op) (r : PlainReply)
      → step set world t taken request ≡ Does o r → Progresses request o r
  step-progresses taken request o r does = subst (Has request) does (has-step taken request)

  -- ---- what that says

  pub not_begun : (class n u : ℕ) → slice_get world.classes class ≡ Some Untouched
      → slice_get world.classes n ≡ Some (BegunBy u) → class ≢ n
  not_begun class n u untouched begun same =
      let it : slice_get world.classes n ≡ Some Untouched =
      subst (λ k. slice_get world.classes k ≡ Some Untouched) same untouched in
      absurd (let no : ◌≡◌ {A = Option Progress} (Some Untouched) (Some (BegunBy u)) = cc in cc)

  -- a class that was begun stays so until its thread says that it is done
  pub stays_begun : (request : PlainRequest) (o : Op) (r : PlainReply) → Progresses request o r → (n u : ℕ)
      → ((from : At) → request ≢ ask.InitDone from n) → slice_get world.classes n ≡ Some (BegunBy u)
      → slice_get (classes_after_op world.classes t o) n ≡ Some (BegunBy u)
  stays_begun request (op.Init class stage.Begun) r (replied, untouched) n u no_end begun =
      let other = not_begun class n u untouched begun in
      let same = get-set_other world.classes class n (BegunBy t) other in
      rw same begun
  stays_begun request (op.Init class stage.Done) r (replied, from, asked) n u no_end begun =
      let same = get-set_other world.classes class n Finished
      (λ e. no_end from (subst (λ k. request ≡ ask.InitDone from k) e asked)) in
      rw same begun
  stays_begun request o r is n u no_end begun = begun

  -- a reply that says to initialise a class comes where the thread has just begun it
  pub record HasBegun (o : Op) (class : ℕ) : Type 0 where
    pub was : slice_get world.classes class ≡ Some Untouched
    pub now : slice_get (classes_after_op world.classes t o) class ≡ Some (BegunBy t)

  pub has_begun : (request : PlainRequest) (o : Op) (class : ℕ) → Progresses request o (reply.Init class)
      → HasBegun o class
  has_begun request (op.Init other stage.Begun) class (replied, untouched) =
      let same : class ≡ other =
      (let e : ◌≡◌ {A = PlainReply} (reply.Init class) (reply.Init other) = replied in cc) in
      rw same (record {
        was = untouched;
        now = get-set_same world.classes other (BegunBy t)
            (slice_get_within world.classes other Untouched untouched);
      })
  has_begun request (op.Init other stage.Done) class (replied, from, asked) =
      absurd (let no : ◌≡◌ {A = PlainReply} (reply.Init class) reply.Done = replied in cc)
  has_begun request (op.Start n child) class (replied, there) =
      absurd (let no : ◌≡◌ {A = PlainReply} (reply.Init class) reply.Done = replied in cc)
  has_begun request o class is = absurd is

  -- a class that a reply tells is an object's
  pub told_class : (request : PlainRequest) (o : Op) (class : ℕ) → Progresses request o (reply.Shape class)
      → (n : ℕ) × (n < length world.heap.objects) × (class ≡ shape_of set world n)
  told_class request (op.Init other stage.Begun) class (replied, untouched) =
      absurd (let no : ◌≡◌ {A = PlainReply} (reply.Shape class) (reply.Init other) = replied in cc)
  told_class request (op.Init other stage.Done) class (replied, from, asked) =
      absurd (let no : ◌≡◌ {A = PlainReply} (reply.Shape class) reply.Done = replied in cc)
  told_class request (op.Start n child) class (replied, there) =
      absurd (let no : ◌≡◌ {A = PlainReply} (reply.Shape class) reply.Done = replied in cc)
  told_class request o class is = is

  pub started_object : (request : PlainRequest) (n child : ℕ) (r : PlainReply)
      → Progresses request (op.Start n child) r → n < length world.heap.objects
  started_object request n child r is = is.1
