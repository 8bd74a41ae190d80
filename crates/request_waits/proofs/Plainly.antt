-- Steps of requests that wait for nothing.
use Rattle.std.proofs.Common.{◌≡◌, ℕ, zero, suc, ℤ, pos, negsuc, Bool, true, false, List, length, refl, if◌then◌else◌}
use Rattle.std.proofs.Common.{◌&&◌, nat_eq, nat_lt, nat_le, take}
use Rattle.std.specs.Prelude.{Option, Some, None}
use Rattle.ap_base.specs.declared.reference.Ref.{Ref}
use Rattle.ap_base.specs.declared.reference.Item.{Item}
use Rattle.run_types.specs.declared.resolved.At.{At}
use Rattle.run_types.specs.declared.resolved.FieldAt.{FieldAt}
use Rattle.run_types.specs.declared.key.Key.{Key}
use Rattle.run_types.specs.declared.key.Key.TheVariants as key
use Rattle.graph_model.specs.declared.types.Value.{Value}
use Rattle.graph_model.specs.declared.types.Value.TheVariants.{Int, Long, Null, Obj as Object}
use Rattle.graph_model.specs.Heaps.{object_at}
use Rattle.natives.specs.declared.requests.Request.{Request}
use Rattle.natives.specs.declared.requests.Request.TheVariants as ask
use Rattle.natives.specs.declared.requests.Reply.TheVariants as reply
use Rattle.run_history.specs.declared.act.Op.TheVariants as op
use Rattle.run_history.specs.declared.act.PlainKey.{PlainKey}
use Rattle.run_history.specs.declared.act.PlainKey.TheVariants.{Object as ObjectKey, Class as ClassKey}
use Rattle.run_history.specs.declared.plain.Monitor.{Monitor}
use Rattle.run_history.specs.Worlds.{World, Thread, held, depth_of}
use Rattle.plain_model.specs.declared.throws.Throws.{Throws}
use Rattle.plain_model.specs.declared.throws.Throws.TheVariants as exception
use Rattle.plain_model.specs.Facts.{SetFacts, string_number}
use Rattle.plain_model.specs.Steps.{Step, Does, WrongOperand, step, throws}
use Rattle.plain_model.specs.Steps.{new_array, with_object, with_reference, with_index}
use Rattle.plain_model.specs.Steps.{may_store, past_end, has_elements, has_length, is_of, casts, compares}
use Rattle.plain_model.specs.Steps.{is_same, prints, ends_region, exits_held, starts_thread}
use Rattle.plain_model.specs.Steps.{thread_of, any_object, is_thread, class_act, null_class, bool_value}
use Rattle.plain_model.specs.Limits.{most_threads}
use Rattle.plain_model.specs.Ends.{wait_of}
use Rattle.shared_objects.specs.Shown.{Numbers, item_value, ref_value}
use Rattle.shared_objects.specs.Plain.{plain_request}

-- it waits for nothing
abbrev Goes : Step → Type 0
Goes s = wait_of s ≡ None

either : (b : Bool) (x y : Step) → Goes x → Goes y → Goes (if b then x else y)
either true x y at_true at_false = at_true
either false x y at_true at_false = at_false

module _ (set : SetFacts) (world : World) (t : ℕ) where
  on-object : (value : Value) (test : ℕ → Bool) (go : ℕ → Step) → ((n : ℕ) → Goes (go n))
      → Goes (with_object set world value test go)
  on-object Null test go is = refl
  on-object (Object n) test go is = either (nat_lt n (length world.heap.objects) && test n) (go n) WrongOperand (is n) refl
  on-object (Int i) test go is = refl
  on-object (Long i) test go is = refl

  on-reference : (value : Value) (null : Step) (go : ℕ → Step) → Goes null → ((n : ℕ) → Goes (go n))
      → Goes (with_reference set world value null go)
  on-reference Null null go null_is is = null_is
  on-reference (Object n) null go null_is is = either (nat_lt n (length world.heap.objects)) (go n) WrongOperand (is n) refl
  on-reference (Int i) null go null_is is = refl
  on-reference (Long i) null go null_is is = refl

  on-index : (n : ℕ) (at : ℤ) (past : Throws) (go : ℕ → Step) → ((i : ℕ) → Goes (go i)) → Goes (with_index set world n at past go)
  on-index n (pos i) past go is = either (nat_lt i (length (object_at world.heap n).values)) (go i) (throws set world past) (is i) refl
  on-index n (negsuc i) past go is = refl

  on-array : (class : ℕ) (count : ℤ) → Goes (new_array set world class count)
  on-array class (pos count) = refl
  on-array class (negsuc count) = refl

  on-exits : (k : PlainKey) (monitor : Option Monitor) → Goes (exits_held set world t k monitor)
  on-exits k None = refl
  on-exits k (Some m) = either (nat_eq m.owner t) (Does (op.Exit k) reply.Done) (throws set world exception.IllegalMonitorState) refl refl

  on-starts : (n : ℕ) (started : Option (ℕ × Thread)) → Goes (starts_thread set world n started)
  on-starts n None = either (nat_lt (length world.threads) most_threads) (Does (op.Start n (length world.threads)) reply.Done) _ refl refl
  on-starts n (Some started) = refl

  on-casts : (class n : ℕ) → Goes (casts set world class n)
  on-casts class n = either (is_of set world class n) (Does (class_act set world n) reply.Done) (throws set world exception.ClassCast) refl refl

  on-compares : (same : Option Bool) → Goes (compares set world same)
  on-compares None = refl
  on-compares (Some same) = refl

  on-prints : (taken : ℕ) (piece : List ℕ) → Goes (prints set world taken piece)
  on-prints taken piece = either (nat_lt 0 taken && nat_le taken (length piece)) (Does (op.Print (take taken piece)) (reply.Printed taken)) WrongOperand refl refl

  on-ends : (depth : ℕ) → Goes (ends_region set world depth)
  on-ends zero = refl
  on-ends (suc depth) = refl

-- Each request but these six waits for nothing.
pub goes-on : (set : SetFacts) (world : World) (t taken : ℕ) (number : Numbers) (request : Request Ref Item)
    → ((from : At) (class : ℕ) → request ≡ ask.New from class → ⊥)
    → ((from : At) (class : ℕ) → request ≡ ask.Init from class → ⊥)
    → ((from : At) (field : FieldAt) → request ≡ ask.GetStatic from field → ⊥)
    → ((from : At) (field : FieldAt) (value : Item) → request ≡ ask.PutStatic from field value → ⊥)
    → ((from : At) (k : Key Ref) → request ≡ ask.Enter from k → ⊥)
    → ((from : At) (thread : Ref) → request ≡ ask.Join from thread → ⊥)
    → wait_of (step set world t taken (plain_request number request)) ≡ None
unfolding step
goes-on set world t taken number ask.Pause no_new no_init no_get no_put no_enter no_join = refl
goes-on set world t taken number (ask.Broken f) no_new no_init no_get no_put no_enter no_join = refl
goes-on set world t taken number (ask.New from class) no_new no_init no_get no_put no_enter no_join = absurd (no_new from class refl)
goes-on set world t taken number (ask.NewArray from shape count) no_new no_init no_get no_put no_enter no_join = on-array set world t shape count
goes-on set world t taken number (ask.NewText from count) no_new no_init no_get no_put no_enter no_join = on-array set world t (string_number set) count
goes-on set world t taken number (ask.GetStatic from field) no_new no_init no_get no_put no_enter no_join = absurd (no_get from field refl)
goes-on set world t taken number (ask.PutStatic from field value) no_new no_init no_get no_put no_enter no_join = absurd (no_put from field value refl)
goes-on set world t taken number (ask.GetField from holder field) no_new no_init no_get no_put no_enter no_join =
    on-object set world t (ref_value number holder) (is_of set world field.class) _ (λ n. refl)
goes-on set world t taken number (ask.PutField from holder field value) no_new no_init no_get no_put no_enter no_join =
    on-object set world t (ref_value number holder) (is_of set world field.class) _ (λ n. refl)
goes-on set world t taken number (ask.GetElement from array at kind) no_new no_init no_get no_put no_enter no_join =
    on-object set world t (ref_value number array) (has_elements set world kind) _ (λ n. on-index set world t n at (past_end set world kind) _ (λ i. refl))
goes-on set world t taken number (ask.PutElement from array at kind value) no_new no_init no_get no_put no_enter no_join =
    on-object set world t (ref_value number array) (has_elements set world kind) _ (λ n. on-index set world t n at exception.ArrayIndexOutOfBounds _ (λ i.
    either (may_store set world kind n (item_value number value)) _ _ refl refl))
goes-on set world t taken number (ask.Length from array) no_new no_init no_get no_put no_enter no_join =
    on-object set world t (ref_value number array) (has_length set world) _ (λ n. refl)
goes-on set world t taken number (ask.ClassOf from asked within) no_new no_init no_get no_put no_enter no_join =
    on-object set world t (ref_value number asked) (is_of set world within) _ (λ n. refl)
goes-on set world t taken number (ask.Cast from asked class) no_new no_init no_get no_put no_enter no_join =
    on-reference set world t (ref_value number asked) (Does (null_class set world) reply.Done) _ refl (on-casts set world t class)
goes-on set world t taken number (ask.IsA from asked class) no_new no_init no_get no_put no_enter no_join =
    on-reference set world t (ref_value number asked) (Does (null_class set world) (reply.Item (bool_value false))) _ refl (λ n. refl)
goes-on set world t taken number (ask.Same from left right) no_new no_init no_get no_put no_enter no_join =
    on-compares set world t (is_same (ref_value number left) (ref_value number right))
goes-on set world t taken number (ask.Enter from k) no_new no_init no_get no_put no_enter no_join = absurd (no_enter from k refl)
goes-on set world t taken number (ask.Exit from (key.Object asked)) no_new no_init no_get no_put no_enter no_join =
    on-object set world t (ref_value number asked) (any_object set world) _ (λ n. on-exits set world t (ObjectKey n) (held world.monitors (ObjectKey n)))
goes-on set world t taken number (ask.Exit from (key.Class class)) no_new no_init no_get no_put no_enter no_join =
    on-exits set world t (ClassKey class) (held world.monitors (ClassKey class))
goes-on set world t taken number (ask.Start from thread) no_new no_init no_get no_put no_enter no_join =
    on-object set world t (ref_value number thread) (is_thread set world) _ (λ n. on-starts set world t n (thread_of world n))
goes-on set world t taken number (ask.Join from thread) no_new no_init no_get no_put no_enter no_join = absurd (no_join from thread refl)
goes-on set world t taken number (ask.Init from class) no_new no_init no_get no_put no_enter no_join = absurd (no_init from class refl)
goes-on set world t taken number (ask.InitDone from class) no_new no_init no_get no_put no_enter no_join = refl
goes-on set world t taken number (ask.Print from piece) no_new no_init no_get no_put no_enter no_join = on-prints set world t taken piece
goes-on set world t taken number (ask.Raise from class) no_new no_init no_get no_put no_enter no_join = refl
goes-on set world t taken number (ask.Begin from) no_new no_init no_get no_put no_enter no_join = refl
goes-on set world t taken number (ask.End from) no_new no_init no_get no_put no_enter no_join = on-ends set world t (depth_of world t)
goes-on set world t taken number (ask.Leave uncaught) no_new no_init no_get no_put no_enter no_join = refl
