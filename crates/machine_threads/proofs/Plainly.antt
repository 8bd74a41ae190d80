-- No step of the plain world waits for a conversion.
use Rattle.std.proofs.Common.{◌≡◌, ℕ, zero, suc, ℤ, pos, negsuc, Bool, true, false, List, length, subst, if◌then◌else◌}
use Rattle.std.proofs.Common.{◌&&◌, nat_eq, nat_lt, nat_le, take}
use Rattle.std.specs.Prelude.{Option, Some, None, slice_get}
use Rattle.ap_base.specs.declared.place.Place.TheVariants.{Static}
use Rattle.run_types.specs.declared.key.Key.TheVariants as key
use Rattle.run_types.specs.declared.wait.On.{On}
use Rattle.run_types.specs.declared.wait.On.TheVariants as on
use Rattle.graph_model.specs.declared.types.Value.{Value}
use Rattle.graph_model.specs.declared.types.Value.TheVariants.{Int, Long, Null, Obj as Object}
use Rattle.graph_model.specs.Heaps.{object_at}
use Rattle.natives.specs.declared.requests.Request.TheVariants as ask
use Rattle.natives.specs.declared.requests.Reply.TheVariants as reply
use Rattle.run_history.specs.declared.act.Op.TheVariants as op
use Rattle.run_history.specs.declared.act.Stage.TheVariants as stage
use Rattle.run_history.specs.declared.act.PlainKey.{PlainKey}
use Rattle.run_history.specs.declared.act.PlainKey.TheVariants.{Object as ObjectKey, Class as ClassKey}
use Rattle.run_history.specs.declared.plain.Monitor.{Monitor}
use Rattle.run_history.specs.declared.plain.Progress.{Progress}
use Rattle.run_history.specs.declared.plain.Progress.TheVariants.{Untouched, BegunBy, Finished}
use Rattle.run_history.specs.Knowing.{owes_fence}
use Rattle.run_history.specs.Worlds.{World, Thread, held, depth_of}
use Rattle.run_history.specs.Knowing.{owes_fence}
use Rattle.plain_model.specs.declared.throws.Throws.{Throws}
use Rattle.plain_model.specs.declared.throws.Throws.TheVariants as exception
use Rattle.plain_model.specs.Facts.{SetFacts, string_number}
use Rattle.plain_model.specs.Requests.{PlainRequest}
use Rattle.plain_model.specs.Steps.{Step, Does, Waits, WrongOperand, IsOver, step, throws, allocates, reads, stores}
use Rattle.plain_model.specs.Steps.{new_array, new_length, with_object, with_reference, with_index, with_progress}
use Rattle.plain_model.specs.Steps.{with_class, may_store, past_end, has_elements, has_length, is_of, casts, compares}
use Rattle.plain_model.specs.Steps.{is_same, prints, ends_region, enters_held, exits_held, starts_thread, joins_thread}
use Rattle.plain_model.specs.Steps.{thread_of, any_object, is_thread, class_act, null_class, bool_value}
use Rattle.plain_model.specs.Limits.{most_threads}
use Rattle.plain_model.specs.Ends.{wait_of, wait_at}
use Rattle.convert_waits.specs.Stuck.{IsPlain}
use Rattle.machine_threads.specs.Plain.{PlainWaitsAreNoConversions}

-- ---- steps that wait plainly, if they do

abbrev Plainly : Step → Type 0
Plainly (Waits o) = IsPlain o
Plainly s = Unit {0}

module _ (P : Step → Type 0) where
  either : (b : Bool) (x y : Step) → P x → P y → P (if b then x else y)
  either true x y at_true at_false = at_true
  either false x y at_true at_false = at_false

  module _ (set : SetFacts) (world : World) (thrown : (which : Throws) → P (throws set world which)) (wrong : P WrongOperand) where
    object : (value : Value) (test : ℕ → Bool) (go : ℕ → Step) → ((n : ℕ) → P (go n))
        → P (with_object set world value test go)
    object Null test go is = thrown exception.NullPointer
    object (Object n) test go is = either (nat_lt n (length world.heap.objects) && test n) (go n) WrongOperand (is n) wrong
    object (Int i) test go is = wrong
    object (Long i) test go is = wrong

    reference : (value : Value) (null : Step) (go : ℕ → Step) → P null → ((n : ℕ) → P (go n))
        → P (with_reference set world value null go)
    reference Null null go null_is is = null_is
    reference (Object n) null go null_is is = either (nat_lt n (length world.heap.objects)) (go n) WrongOperand (is n) wrong
    reference (Int i) null go null_is is = wrong
    reference (Long i) null go null_is is = wrong

    index : (n : ℕ) (at : ℤ) (past : Throws) (go : ℕ → Step) → ((i : ℕ) → P (go i)) → P (with_index set world n at past go)
    index n (pos i) past go is = either (nat_lt i (length (object_at world.heap n).values)) (go i) (throws set world past) (is i) (thrown past)
    index n (negsuc i) past go is = thrown past

module _ (set : SetFacts) (world : World) (t : ℕ) where
  on-thrown : (which : Throws) → Plainly (throws set world which)
  on-thrown which = tt

  on-object : (value : Value) (test : ℕ → Bool) (go : ℕ → Step) → ((n : ℕ) → Plainly (go n))
      → Plainly (with_object set world value test go)
  on-object = object Plainly set world on-thrown tt

  on-progress : (class : ℕ) (progress : Option Progress) (go : Step) → Plainly go
      → Plainly (with_progress set world t class progress go)
  on-progress class None go is = tt
  on-progress class (Some Untouched) go is = tt
  on-progress class (Some (BegunBy u)) go is = either Plainly (nat_eq u t) go (Waits (on.Init u)) is tt
  on-progress class (Some Finished) go is = is

  on-class : (class : ℕ) (go : Step) → Plainly go → Plainly (with_class set world t class go)
  on-class class go is = on-progress class (slice_get world.classes class) go is

  on-array : (class : ℕ) (count : ℤ) → Plainly (new_array set world class count)
  on-array class (pos count) = tt
  on-array class (negsuc count) = tt

  on-enters : (k : PlainKey) (monitor : Option Monitor) → Plainly (enters_held set world t k monitor)
  on-enters k None = tt
  on-enters k (Some m) = either Plainly (nat_eq m.owner t) (Does (op.Enter k) reply.Done) (Waits (on.Monitor m.owner)) tt tt

  on-exits : (k : PlainKey) (monitor : Option Monitor) → Plainly (exits_held set world t k monitor)
  on-exits k None = tt
  on-exits k (Some m) = either Plainly (nat_eq m.owner t) (Does (op.Exit k) reply.Done) (throws set world exception.IllegalMonitorState) tt tt

  on-starts : (n : ℕ) (started : Option (ℕ × Thread)) → Plainly (starts_thread set world n started)
  on-starts n None = either Plainly (nat_lt (length world.threads) most_threads) (Does (op.Start n (length world.threads)) reply.Done) _ tt tt
  on-starts n (Some started) = tt

  on-joins : (n : ℕ) (started : Option (ℕ × Thread)) → Plainly (joins_thread set world n started)
  on-joins n None = tt
  on-joins n (Some started) = either Plainly started.1.ended (Does (op.Join n) reply.Done) (Waits (on.Join started.0)) tt tt

  on-casts : (class n : ℕ) → Plainly (casts set world class n)
  on-casts class n = either Plainly (is_of set world class n) (Does (class_act set world n) reply.Done) (throws set world exception.ClassCast) tt tt

  on-compares : (same : Option Bool) → Plainly (compares set world same)
  on-compares None = tt
  on-compares (Some same) = tt

  on-prints : (taken : ℕ) (piece : List ℕ) → Plainly (prints set world taken piece)
  on-prints taken piece = either Plainly (nat_lt 0 taken && nat_le taken (length piece)) (Does (op.Print (take taken piece)) (reply.Printed taken)) WrongOperand tt tt

  on-ends : (depth : ℕ) → Plainly (ends_region set world depth)
  on-ends zero = tt
  on-ends (suc depth) = tt

  on-step : (taken : ℕ) (request : PlainRequest) → Plainly (step set world t taken request)
  unfolding step
  on-step taken ask.Pause = tt
  on-step taken (ask.Broken f) = tt
  on-step taken (ask.New from class) = on-class class (allocates set world class (new_length set world class)) tt
  on-step taken (ask.NewArray from shape count) = on-array shape count
  on-step taken (ask.NewText from count) = on-array (string_number set) count
  on-step taken (ask.GetStatic from field) = on-class field.class (reads set world (Static field.at)) tt
  on-step taken (ask.PutStatic from field value) = on-class field.class (stores set world field.kind (Static field.at) value) tt
  on-step taken (ask.GetField from holder field) = on-object holder (is_of set world field.class) _ (λ n. tt)
  on-step taken (ask.PutField from holder field value) = on-object holder (is_of set world field.class) _ (λ n. tt)
  on-step taken (ask.GetElement from array at kind) =
      on-object array (has_elements set world kind) _ (λ n. index Plainly set world on-thrown tt n at (past_end set world kind) _ (λ i. tt))
  on-step taken (ask.PutElement from array at kind value) =
      on-object array (has_elements set world kind) _ (λ n. index Plainly set world on-thrown tt n at exception.ArrayIndexOutOfBounds _ (λ i.
      either Plainly (may_store set world kind n value) _ _ tt tt))
  on-step taken (ask.Length from array) = on-object array (has_length set world) _ (λ n. tt)
  on-step taken (ask.ClassOf from asked within) = on-object asked (is_of set world within) _ (λ n. tt)
  on-step taken (ask.Cast from asked class) =
      reference Plainly set world on-thrown tt asked (Does (null_class set world) reply.Done) _ tt (on-casts class)
  on-step taken (ask.IsA from asked class) =
      reference Plainly set world on-thrown tt asked (Does (null_class set world) (reply.Item (bool_value false))) _ tt (λ n. tt)
  on-step taken (ask.Same from left right) = on-compares (is_same left right)
  on-step taken (ask.Enter from (key.Object asked)) = on-object asked (any_object set world) _ (λ n. on-enters (ObjectKey n) (held world.monitors (ObjectKey n)))
  on-step taken (ask.Enter from (key.Class class)) = on-enters (ClassKey class) (held world.monitors (ClassKey class))
  on-step taken (ask.Exit from (key.Object asked)) = on-object asked (any_object set world) _ (λ n. on-exits (ObjectKey n) (held world.monitors (ObjectKey n)))
  on-step taken (ask.Exit from (key.Class class)) = on-exits (ClassKey class) (held world.monitors (ClassKey class))
  on-step taken (ask.Start from thread) = on-object thread (is_thread set world) _ (λ n. on-starts n (thread_of world n))
  on-step taken (ask.Join from thread) = on-object thread (is_thread set world) _ (λ n. on-joins n (thread_of world n))
  on-step taken (ask.Init from class) = on-class class (Does (op.Init class stage.Ready) reply.Done) tt
  on-step taken (ask.InitDone from class) = tt
  on-step taken (ask.Print from piece) = on-prints taken piece
  on-step taken (ask.Raise from class) = tt
  on-step taken (ask.Begin from) = tt
  on-step taken (ask.End from) = on-ends (depth_of world t)
  on-step taken (ask.Leave uncaught) = tt

plain-wait : (s : Step) (o : On) → Plainly s → wait_of s ≡ Some o → IsPlain o
plain-wait (Waits x) o is at = subst IsPlain (let e : ◌≡◌ {A = Option On} (Some x) (Some o) = at in cc) is
plain-wait (Does x r) o is at = absurd (let e : ◌≡◌ {A = Option On} None (Some o) = at in cc)
plain-wait WrongOperand o is at = absurd (let e : ◌≡◌ {A = Option On} None (Some o) = at in cc)
plain-wait (IsOver f) o is at = absurd (let e : ◌≡◌ {A = Option On} None (Some o) = at in cc)

wait-plain : (set : SetFacts) (world : World) (t : ℕ) (request : Option PlainRequest) (o : On)
    → wait_at set world t request ≡ Some o → IsPlain o
wait-plain set world t None o at = absurd (let e : ◌≡◌ {A = Option On} None (Some o) = at in cc)
wait-plain set world t (Some request) o at = plain-wait (step set world t 1 request) o (on-step set world t 1 request) at

unless-owed : (owes : Bool) (wait : Option On) (o : On) → (if owes then None else wait) ≡ Some o → wait ≡ Some o
unless-owed true wait o at = absurd (let e : ◌≡◌ {A = Option On} None (Some o) = at in cc)
unless-owed false wait o at = at

pub plain_waits_are_no_conversions : PlainWaitsAreNoConversions
plain_waits_are_no_conversions set known requests t o at =
    wait-plain set known.world t (requests t) o
    (unless-owed (owes_fence known.unfenced t) (wait_at set known.world t (requests t)) o at)
