-- The step of each request does no half test of a class.
use Rattle.std.proofs.Common.{◌≡◌, ℕ, zero, suc, ℤ, pos, negsuc, Bool, true, false, List, ◌++◌, ◌∷◌, length, refl, sym, subst}
use Rattle.std.proofs.Common.{if◌then◌else◌, ◌&&◌, nat_eq, nat_lt, nat_le, take}
use Rattle.std.specs.Prelude.{Option, Some, None, slice_get}
use Rattle.std.proofs.lemmas.Bool.{eqb-true, eq-eqb}
use Rattle.ap_base.specs.declared.place.Place.{Place}
use Rattle.ap_base.specs.declared.place.Place.TheVariants.{Static, Slot}
use Rattle.run_types.specs.declared.key.Key.TheVariants as key
use Rattle.run_types.specs.declared.wait.On.{On}
use Rattle.run_types.specs.declared.wait.On.TheVariants as on
use Rattle.graph_model.specs.declared.types.Value.{Value}
use Rattle.graph_model.specs.declared.types.Value.TheVariants.{Int, Long, Null, Obj as Object}
use Rattle.graph_model.specs.Heaps.{object_at}
use Rattle.natives.specs.declared.requests.Request.TheVariants as ask
use Rattle.natives.specs.declared.requests.Reply.TheVariants as reply
use Rattle.run_history.specs.declared.act.Op.{Op}
use Rattle.run_history.specs.declared.act.Op.TheVariants as op
use Rattle.run_history.specs.declared.act.Stage.TheVariants as stage
use Rattle.run_history.specs.declared.act.PlainKey.{PlainKey}
use Rattle.run_history.specs.declared.act.PlainKey.TheVariants.{Object as ObjectKey, Class as ClassKey}
use Rattle.run_history.specs.declared.plain.Monitor.{Monitor}
use Rattle.run_history.specs.declared.plain.Progress.{Progress}
use Rattle.run_history.specs.declared.plain.Progress.TheVariants.{Untouched, BegunBy, Finished}
use Rattle.run_history.specs.Worlds.{World, Thread, held, depth_of}
use Rattle.plain_model.specs.declared.throws.Throws.{Throws}
use Rattle.plain_model.specs.declared.throws.Throws.TheVariants as exception
use Rattle.plain_model.specs.Facts.{SetFacts, string_number}
use Rattle.plain_model.specs.Requests.{PlainRequest}
use Rattle.plain_model.specs.Steps.{Step, Does, Waits, WrongOperand, IsOver, op_of, step, throws, allocates, reads, stores}
use Rattle.plain_model.specs.Steps.{new_array, new_length, with_object, with_reference, with_index, with_progress, with_class}
use Rattle.plain_model.specs.Steps.{may_store, own_kind, past_end, has_elements, has_length, is_of, casts, compares, is_same, prints}
use Rattle.plain_model.specs.Steps.{ends_region, enters_held, exits_held, starts_thread, joins_thread, thread_of, any_object}
use Rattle.plain_model.specs.Steps.{is_thread, class_act, null_class, bool_value}
use Rattle.plain_model.specs.Limits.{most_threads}
use Rattle.told_runs.specs.Told.{IsWholeTest}

abbrev pub Whole : Step → Type 0
Whole (Does o r) = IsWholeTest o
Whole s = Unit {0}

module _ (P : Step → Type 0) where
  pub either : (b : Bool) (x y : Step) → P x → P y → P (if b then x else y)
  either true x y at_true at_false = at_true
  either false x y at_true at_false = at_false

  module _ (set : SetFacts) (world : World) (thrown : (which : Throws) → P (throws set world which))
      (wrong : P WrongOperand) where
    pub object : (value : Value) (test : ℕ → Bool) (go : ℕ → Step) → ((n : ℕ) → P (go n))
        → P (with_object set world value test go)
    object Null test go is = thrown exception.NullPointer
    object (Object n) test go is = either (nat_lt n (length world.heap.objects) && test n) (go n) WrongOperand (is n) wrong
    object (Int i) test go is = wrong
    object (Long i) test go is = wrong

    reference : (value : Value) (null : Step) (go : ℕ → Step) → P null → ((n : ℕ) → P (go n))
        → P (with_reference set world value null go)
    reference Null null go null_is is = null_is
    reference (Object n) null go null_is is = either (nat_lt n (length world.heap.objects)) (go n) WrongOperand (is n) wrong
    reference (Int i) null go null_is is = wrong
    reference (Long i) null go null_is is = wrong

    pub index : (n : ℕ) (at : ℤ) (past : Throws) (go : ℕ → Step) → ((i : ℕ) → P (go i)) → P (with_index set world n at past go)
    index n (pos i) past go is =
        either (nat_lt i (length (object_at world.heap n).values)) (go i) (throws set world past) (is i) (thrown past)
    index n (negsuc i) past go is = thrown past

module _ (set : SetFacts) (world : World) (t : ℕ) where
  whole-thrown : (which : Throws) → Whole (throws set world which)
  whole-thrown which = tt

  whole-object : (value : Value) (test : ℕ → Bool) (go : ℕ → Step) → ((n : ℕ) → Whole (go n))
      → Whole (with_object set world value test go)
  whole-object = object Whole set world whole-thrown (tt)

  whole-progress : (class : ℕ) (progress : Option Progress) (go : Step) → Whole go
      → Whole (with_progress set world t class progress go)
  whole-progress class None go is = tt
  whole-progress class (Some Untouched) go is = tt
  whole-progress class (Some (BegunBy u)) go is = either Whole (nat_eq u t) go (Waits (on.Init u)) is (tt)
  whole-progress class (Some Finished) go is = is

  whole-class : (class : ℕ) (go : Step) → Whole go → Whole (with_class set world t class go)
  whole-class class go is = whole-progress class (slice_get world.classes class) go is

  whole-array : (class : ℕ) (count : ℤ) → Whole (new_array set world class count)
  whole-array class (pos count) = tt
  whole-array class (negsuc count) = tt

  whole-enters : (k : PlainKey) (monitor : Option Monitor) → Whole (enters_held set world t k monitor)
  whole-enters k None = tt
  whole-enters k (Some m) =
      either Whole (nat_eq m.owner t) (Does (op.Enter k) reply.Done) (Waits (on.Monitor m.owner)) (tt) (tt)

  whole-exits : (k : PlainKey) (monitor : Option Monitor) → Whole (exits_held set world t k monitor)
  whole-exits k None = tt
  whole-exits k (Some m) =
      either Whole (nat_eq m.owner t) (Does (op.Exit k) reply.Done) (throws set world exception.IllegalMonitorState) (tt)
      (tt)

  whole-starts : (n : ℕ) (started : Option (ℕ × Thread)) → Whole (starts_thread set world n started)
  whole-starts n None =
      either Whole (nat_lt (length world.threads) most_threads) (Does (op.Start n (length world.threads)) reply.Done) _
      (tt) (tt)
  whole-starts n (Some started) = tt

  whole-joins : (n : ℕ) (started : Option (ℕ × Thread)) → Whole (joins_thread set world n started)
  whole-joins n None = tt
  whole-joins n (Some started) =
      either Whole started.1.ended (Does (op.Join n) reply.Done) (Waits (on.Join started.0)) (tt) (tt)

  whole-casts : (class n : ℕ) → Whole (casts set world class n)
  whole-casts class n =
      either Whole (is_of set world class n) (Does (class_act set world n) reply.Done) (throws set world exception.ClassCast)
      (tt) (tt)

  whole-compares : (same : Option Bool) → Whole (compares set world same)
  whole-compares None = tt
  whole-compares (Some same) = tt

  whole-prints : (taken : ℕ) (piece : List ℕ) → Whole (prints set world taken piece)
  whole-prints taken piece =
      either Whole (nat_lt 0 taken && nat_le taken (length piece)) (Does (op.Print (take taken piece)) (reply.Printed taken))
      WrongOperand (tt) (tt)

  whole-ends : (depth : ℕ) → Whole (ends_region set world depth)
  whole-ends zero = tt
  whole-ends (suc depth) = tt

  pub whole-step : (taken : ℕ) (request : PlainRequest) → Whole (step set world t taken request)
  unfolding step
  whole-step taken ask.Pause = tt
  whole-step taken (ask.Broken f) = tt
  whole-step taken (ask.New from class) = whole-class class (allocates set world class (new_length set world class)) (tt)
  whole-step taken (ask.NewArray from shape count) = whole-array shape count
  whole-step taken (ask.NewText from count) = whole-array (string_number set) count
  whole-step taken (ask.GetStatic from field) = whole-class field.class (reads set world (Static field.at)) (tt)
  whole-step taken (ask.PutStatic from field value) = whole-class field.class (stores set world field.kind (Static field.at) value) tt
  whole-step taken (ask.GetField from holder field) = whole-object holder (is_of set world field.class) _ (λ n. tt)
  whole-step taken (ask.PutField from holder field value) = whole-object holder (is_of set world field.class) _ (λ n. tt)
  whole-step taken (ask.GetElement from array at kind) =
      whole-object array (has_elements set world kind) _
      (λ n. index Whole set world whole-thrown (tt) n at (past_end set world kind) _ (λ i. tt))
  whole-step taken (ask.PutElement from array at kind value) =
      whole-object array (has_elements set world kind) _
      (λ n. index Whole set world whole-thrown tt n at exception.ArrayIndexOutOfBounds _
      (λ i. either Whole (may_store set world kind n value) (stores set world (own_kind set world kind n) (Slot n i) value)
      (throws set world exception.ArrayStore) tt tt))
  whole-step taken (ask.Length from array) = whole-object array (has_length set world) _ (λ n. tt)
  whole-step taken (ask.ClassOf from asked within) = whole-object asked (is_of set world within) _ (λ n. tt)
  whole-step taken (ask.Cast from asked class) =
      reference Whole set world whole-thrown (tt) asked (Does (null_class set world) reply.Done) _ (tt) (whole-casts class)
  whole-step taken (ask.IsA from asked class) =
      reference Whole set world whole-thrown (tt) asked (Does (null_class set world) (reply.Item (bool_value false))) _
      (tt) (λ n. tt)
  whole-step taken (ask.Same from left right) = whole-compares (is_same left right)
  whole-step taken (ask.Enter from (key.Object asked)) =
      whole-object asked (any_object set world) _ (λ n. whole-enters (ObjectKey n) (held world.monitors (ObjectKey n)))
  whole-step taken (ask.Enter from (key.Class class)) = whole-enters (ClassKey class) (held world.monitors (ClassKey class))
  whole-step taken (ask.Exit from (key.Object asked)) =
      whole-object asked (any_object set world) _ (λ n. whole-exits (ObjectKey n) (held world.monitors (ObjectKey n)))
  whole-step taken (ask.Exit from (key.Class class)) = whole-exits (ClassKey class) (held world.monitors (ClassKey class))
  whole-step taken (ask.Start from thread) = whole-object thread (is_thread set world) _ (λ n. whole-starts n (thread_of world n))
  whole-step taken (ask.Join from thread) = whole-object thread (is_thread set world) _ (λ n. whole-joins n (thread_of world n))
  whole-step taken (ask.Init from class) = whole-class class (Does (op.Init class stage.Ready) reply.Done) (tt)
  whole-step taken (ask.InitDone from class) = tt
  whole-step taken (ask.Print from piece) = whole-prints taken piece
  whole-step taken (ask.Raise from class) = tt
  whole-step taken (ask.Begin from) = tt
  whole-step taken (ask.End from) = whole-ends (depth_of world t)
  whole-step taken (ask.Leave uncaught) = tt

pub whole-op : (s : Step) (o : Op) → Whole s → op_of s ≡ Some o → IsWholeTest o
whole-op (Does p r) o whole is = subst IsWholeTest (let same : p ≡ o = (let e : Some p ≡ Some o = is in cc) in same) whole
whole-op (Waits w) o whole is = absurd (let no : None ≡ Some o = is in cc)
whole-op WrongOperand o whole is = absurd (let no : None ≡ Some o = is in cc)
whole-op (IsOver f) o whole is = absurd (let no : None ≡ Some o = is in cc)
