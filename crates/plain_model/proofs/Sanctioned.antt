-- What the steps of Ends, Enters, Exits and Starts say of the world.
use Rattle.std.proofs.Common.{◌≡◌, ◌⊎◌, ℕ, zero, suc, ◌<◌, ℤ, pos, negsuc, Bool, true, false, List, refl, subst, inl, inr}
use Rattle.std.proofs.Common.{nat_eq, nat_lt, nat_le, ◌&&◌, if◌then◌else◌, length, take, arith}
use Rattle.std.specs.Prelude.{◌≢◌, Option, Some, None, slice_get}
use Rattle.std.proofs.lemmas.Bool.{eqb-true, ltb-true}
use Rattle.ap_base.specs.declared.kind.Kind.{Kind}
use Rattle.ap_base.specs.declared.place.Place.{Place}
use Rattle.ap_base.specs.declared.place.Place.TheVariants.{Static, Slot}
use Rattle.run_types.specs.declared.key.Key.TheVariants as key
use Rattle.run_types.specs.declared.wait.On.TheVariants as on
use Rattle.run_types.specs.declared.fault.StepFault.TheVariants as fault
use Rattle.run_types.specs.declared.fault.Which.TheVariants as which
use Rattle.graph_model.specs.declared.types.Value.{Value}
use Rattle.graph_model.specs.declared.types.Value.TheVariants.{Int, Long, Null, Obj as Object}
use Rattle.graph_model.specs.Heaps.{object_at, value_at}
use Rattle.natives.specs.declared.requests.Request.TheVariants as ask
use Rattle.natives.specs.declared.requests.Reply.TheVariants as reply
use Rattle.run_history.specs.declared.act.PlainKey.{PlainKey}
use Rattle.run_history.specs.declared.act.PlainKey.TheVariants.{Object as ObjectKey, Class as ClassKey}
use Rattle.run_history.specs.declared.act.Stage.TheVariants as stage
use Rattle.run_history.specs.declared.act.Op.{Op}
use Rattle.run_history.specs.declared.act.Op.TheVariants as op
use Rattle.run_history.specs.declared.plain.Progress.{Progress}
use Rattle.run_history.specs.declared.plain.Progress.TheVariants.{Untouched, BegunBy, Finished}
use Rattle.run_history.specs.declared.plain.Monitor.{Monitor}
use Rattle.run_history.specs.Worlds.{Thread, World, held, depth_of}
use Rattle.run_history.specs.Knowing.{Knowledge}
use Rattle.plain_model.specs.declared.throws.Throws.{Throws}
use Rattle.plain_model.specs.declared.throws.Throws.TheVariants as exception
use Rattle.plain_model.specs.Facts.{SetFacts, string_number, thrown_class}
use Rattle.plain_model.specs.Kinds.{narrowed}
use Rattle.plain_model.specs.Requests.{PlainRequest, PlainReply}
use Rattle.plain_model.specs.Limits.{most_threads, threads_left}
use Rattle.plain_model.specs.Steps.{Step, Does, Waits, WrongOperand, IsOver, step, op_of, is_same, with_object, with_reference}
use Rattle.plain_model.specs.Steps.{with_index, with_progress, with_class, new_array, new_length, allocates, throwing, throws}
use Rattle.plain_model.specs.Steps.{stores, own_kind, next_number, enters_held, exits_held, starts_thread, joins_thread}
use Rattle.plain_model.specs.Steps.{thread_of, puts_element, casts, compares, prints, ends_region, has_elements, is_of}
use Rattle.plain_model.specs.Steps.{past_end, any_object, is_thread, may_store, reads, measures, tests, class_act, null_class}
use Rattle.plain_model.specs.Steps.{bool_value, has_length, enters, exits, shape_of}
use Rattle.plain_model.specs.Codes.{taken_by}
use Rattle.plain_model.specs.Runs.{IsAbout}

-- the thread has the monitor
abbrev pub Owns : List Monitor → ℕ → PlainKey → Type 0
Owns monitors t key = (m : Monitor) × (held monitors key ≡ Some m) × (m.owner ≡ t)

-- An End is within a region, an Enter of a monitor that no other thread has, an Exit of one that the
-- thread has, and a Start where there may be a further thread.
abbrev pub Sanctioned : World → ℕ → Op → Type 0
Sanctioned world t op.End = depth_of world t ≢ 0
Sanctioned world t (op.Enter key) = (held world.monitors key ≡ None) ⊎ Owns world.monitors t key
Sanctioned world t (op.Exit key) = Owns world.monitors t key
Sanctioned world t (op.Start n child) = length world.threads < most_threads
Sanctioned world t o = Unit {0}

module _ (set : SetFacts) (world : World) (t : ℕ) where
  abbrev Ok : Step → Type 0
  Ok s = (o : Op) → op_of s ≡ Some o → Sanctioned world t o

  does : (o : Op) (r : PlainReply) → Sanctioned world t o → Ok (Does o r)
  does o r holds p e = let is : o ≡ p = (let some : Some o ≡ Some p = e in cc) in
      subst (Sanctioned world t) is holds

  nothing : (s : Step) → op_of s ≡ None → Ok s
  nothing s is p e = absurd (let no : ◌≡◌ {A = Option Op} None (Some p) = subst (λ x. x ≡ Some p) is e in cc)

  wrong : Ok WrongOperand
  wrong = nothing WrongOperand refl

  either : (b : Bool) (x y : Step) → Ok x → Ok y → Ok (if b then x else y)
  either true x y this that = this
  either false x y this that = that

  throwing_ok : (class : ℕ) → Ok (throwing set world class)
  throwing_ok class = does (op.Throw (next_number set world) class)
      (reply.Thrown (Object (next_number set world)) class) tt

  throws_ok : (which : Throws) → Ok (throws set world which)
  throws_ok which = throwing_ok (thrown_class set which)

  makes_ok : (class count : ℕ) → Ok (allocates set world class count)
  makes_ok class count =
      does (op.Alloc (next_number set world) class count) (reply.Made (Object (next_number set world))) tt

  array_ok : (class : ℕ) (count : ℤ) → Ok (new_array set world class count)
  array_ok class (pos count) = makes_ok class count
  array_ok class (negsuc count) = throws_ok exception.NegativeArraySize

  reads_ok : (place : Place) → Ok (reads set world place)
  reads_ok place = does (op.Read place (value_at world.heap place))
      (reply.Item (value_at world.heap place)) tt

  stores_ok : (kind : Kind) (place : Place) (value : Value) → Ok (stores set world kind place value)
  stores_ok kind place value = does (op.Stored place (narrowed kind value)) reply.Done tt

  object_ok : (v : Value) (test : ℕ → Bool) (go : ℕ → Step) → ((n : ℕ) → Ok (go n))
      → Ok (with_object set world v test go)
  object_ok Null test go all = throws_ok exception.NullPointer
  object_ok (Object n) test go all =
      either (nat_lt n (length world.heap.objects) && test n) (go n) WrongOperand (all n) wrong
  object_ok (Int i) test go all = wrong
  object_ok (Long i) test go all = wrong

  reference_ok : (v : Value) (null : Step) (go : ℕ → Step) → Ok null → ((n : ℕ) → Ok (go n))
      → Ok (with_reference set world v null go)
  reference_ok Null null go ok all = ok
  reference_ok (Object n) null go ok all = either (nat_lt n (length world.heap.objects)) (go n) WrongOperand
      (all n) wrong
  reference_ok (Int i) null go ok all = wrong
  reference_ok (Long i) null go ok all = wrong

  index_ok : (n : ℕ) (index : ℤ) (past : Throws) (go : ℕ → Step) → ((i : ℕ) → Ok (go i))
      → Ok (with_index set world n index past go)
  index_ok n (pos i) past go all =
      either (nat_lt i (length (object_at world.heap n).values)) (go i) (throws set world past) (all i)
      (throws_ok past)
  index_ok n (negsuc i) past go all = throws_ok past

  progress_ok : (class : ℕ) (progress : Option Progress) (go : Step) → Ok go
      → Ok (with_progress set world t class progress go)
  progress_ok class None go ok = wrong
  progress_ok class (Some Untouched) go ok = does (op.Init class stage.Begun) (reply.Init class) tt
  progress_ok class (Some (BegunBy u)) go ok = either (nat_eq u t) go (Waits (on.Init u)) ok
      (nothing (Waits (on.Init u)) refl)
  progress_ok class (Some Finished) go ok = ok

  class_ok : (class : ℕ) (go : Step) → Ok go → Ok (with_class set world t class go)
  class_ok class go ok = progress_ok class (slice_get world.classes class) go ok

  enters_ok : (k : PlainKey) (monitor : Option Monitor) → held world.monitors k ≡ monitor
      → Ok (enters_held set world t k monitor)
  enters_ok k None is = does (op.Enter k) reply.Done (inl is)
  enters_ok k (Some m) is =
      elim (nat_eq m.owner t) as (λ b. nat_eq m.owner t ≡ b
      → Ok (if b then Does (op.Enter k) reply.Done else Waits (on.Monitor m.owner))) [
        | true ↦ λ own. does (op.Enter k) reply.Done (inr (m, is, eqb-true m.owner t own))
        | false ↦ λ other. nothing (Waits (on.Monitor m.owner)) refl
      ] refl

  exits_ok : (k : PlainKey) (monitor : Option Monitor) → held world.monitors k ≡ monitor
      → Ok (exits_held set world t k monitor)
  exits_ok k None is = throws_ok exception.IllegalMonitorState
  exits_ok k (Some m) is =
      elim (nat_eq m.owner t) as (λ b. nat_eq m.owner t ≡ b
      → Ok (if b then Does (op.Exit k) reply.Done else throws set world exception.IllegalMonitorState)) [
        | true ↦ λ own. does (op.Exit k) reply.Done (m, is, eqb-true m.owner t own)
        | false ↦ λ other. throws_ok exception.IllegalMonitorState
      ] refl

  starts_ok : (n : ℕ) (started : Option (ℕ × Thread)) → Ok (starts_thread set world n started)
  starts_ok n (Some started) = throws_ok exception.IllegalThreadState
  starts_ok n None =
      let full : Step = IsOver (fault.Full (record { which = which.Threads; need = 1; left = threads_left world.threads })) in
      elim (nat_lt (length world.threads) most_threads) as (λ b. nat_lt (length world.threads) most_threads ≡ b
      → Ok (if b then Does (op.Start n (length world.threads)) reply.Done else full)) [
        | true ↦ λ below. does (op.Start n (length world.threads)) reply.Done
            (ltb-true (length world.threads) most_threads below)
        | false ↦ λ past. nothing full refl
      ] refl

  joins_ok : (n : ℕ) (started : Option (ℕ × Thread)) → Ok (joins_thread set world n started)
  joins_ok n None = does (op.Join n) reply.Done tt
  joins_ok n (Some started) = either started.1.ended (Does (op.Join n) reply.Done) (Waits (on.Join started.0))
      (does (op.Join n) reply.Done tt) (nothing (Waits (on.Join started.0)) refl)

  element_ok : (n : ℕ) (kind : Kind) (i : ℕ) (value : Value) → Ok (puts_element set world n kind i value)
  element_ok n kind i value = either (may_store set world kind n value)
      (stores set world (own_kind set world kind n) (Slot n i) value) (throws set world exception.ArrayStore)
      (stores_ok (own_kind set world kind n) (Slot n i) value) (throws_ok exception.ArrayStore)

  casts_ok : (target n : ℕ) → Ok (casts set world target n)
  casts_ok target n = either (is_of set world target n) (Does (class_act set world n) reply.Done)
      (throws set world exception.ClassCast) (does (class_act set world n) reply.Done tt)
      (throws_ok exception.ClassCast)

  compares_ok : (same : Option Bool) → Ok (compares set world same)
  compares_ok None = wrong
  compares_ok (Some same) = does (op.Same same) (reply.Item (bool_value same)) tt

  prints_ok : (taken : ℕ) (piece : List ℕ) → Ok (prints set world taken piece)
  prints_ok taken piece = either (nat_lt 0 taken && nat_le taken (length piece))
      (Does (op.Print (take taken piece)) (reply.Printed taken)) WrongOperand
      (does (op.Print (take taken piece)) (reply.Printed taken) tt) wrong

  ends_ok : (depth : ℕ) → depth_of world t ≡ depth → Ok (ends_region set world depth)
  ends_ok zero is = throws_ok exception.IllegalState
  ends_ok (suc depth) is = does op.End reply.Done (λ none. let no : suc depth ≡ 0 = rw is at none in
      absurd (omega arith))

  pub step_ok : (taken : ℕ) (request : PlainRequest) → Ok (step set world t taken request)
  unfolding step
  step_ok taken ask.Pause = does op.Pause reply.Done tt
  step_ok taken (ask.Broken f) = nothing (IsOver f) refl
  step_ok taken (ask.New from class) =
      class_ok class (allocates set world class (new_length set world class))
      (makes_ok class (new_length set world class))
  step_ok taken (ask.NewArray from shape count) = array_ok shape count
  step_ok taken (ask.NewText from count) = array_ok (string_number set) count
  step_ok taken (ask.GetStatic from field) =
      class_ok field.class (reads set world (Static field.at)) (reads_ok (Static field.at))
  step_ok taken (ask.PutStatic from field value) = class_ok field.class
      (stores set world field.kind (Static field.at) value) (stores_ok field.kind (Static field.at) value)
  step_ok taken (ask.GetField from holder field) = object_ok holder (is_of set world field.class)
      (λ n. reads set world (Slot n field.at)) (λ n. reads_ok (Slot n field.at))
  step_ok taken (ask.PutField from holder field value) = object_ok holder (is_of set world field.class)
      (λ n. stores set world field.kind (Slot n field.at) value)
      (λ n. stores_ok field.kind (Slot n field.at) value)
  step_ok taken (ask.GetElement from array index kind) = object_ok array (has_elements set world kind)
      (λ n. with_index set world n index (past_end set world kind) (λ i. reads set world (Slot n i)))
      (λ n. index_ok n index (past_end set world kind) (λ i. reads set world (Slot n i))
      (λ i. reads_ok (Slot n i)))
  step_ok taken (ask.PutElement from array index kind value) = object_ok array (has_elements set world kind)
      (λ n. with_index set world n index exception.ArrayIndexOutOfBounds
      (λ i. puts_element set world n kind i value))
      (λ n. index_ok n index exception.ArrayIndexOutOfBounds (λ i. puts_element set world n kind i value)
      (λ i. element_ok n kind i value))
  step_ok taken (ask.Length from array) = object_ok array (has_length set world) (measures set world)
      (λ n. let count = length (object_at world.heap n).values in does (op.Length n count)
      (reply.Item (Int (pos count))) tt)
  step_ok taken (ask.ClassOf from object within) = object_ok object (is_of set world within)
      (λ n. Does (class_act set world n) (reply.Shape (shape_of set world n)))
      (λ n. does (class_act set world n) (reply.Shape (shape_of set world n)) tt)
  step_ok taken (ask.Cast from object target) = reference_ok object (Does (null_class set world) reply.Done)
      (casts set world target) (does (null_class set world) reply.Done tt) (casts_ok target)
  step_ok taken (ask.IsA from object target) = reference_ok object
      (Does (null_class set world) (reply.Item (bool_value false))) (tests set world target)
      (does (null_class set world) (reply.Item (bool_value false)) tt)
      (λ n. does (class_act set world n) (reply.Item (bool_value (is_of set world target n))) tt)
  step_ok taken (ask.Same from left right) = compares_ok (is_same left right)
  step_ok taken (ask.Enter from (key.Object object)) = object_ok object (any_object set world)
      (λ n. enters set world t (ObjectKey n))
      (λ n. enters_ok (ObjectKey n) (held world.monitors (ObjectKey n)) refl)
  step_ok taken (ask.Enter from (key.Class class)) = enters_ok (ClassKey class)
      (held world.monitors (ClassKey class)) refl
  step_ok taken (ask.Exit from (key.Object object)) = object_ok object (any_object set world)
      (λ n. exits set world t (ObjectKey n))
      (λ n. exits_ok (ObjectKey n) (held world.monitors (ObjectKey n)) refl)
  step_ok taken (ask.Exit from (key.Class class)) = exits_ok (ClassKey class)
      (held world.monitors (ClassKey class)) refl
  step_ok taken (ask.Start from thread) = object_ok thread (is_thread set world)
      (λ n. starts_thread set world n (thread_of world n)) (λ n. starts_ok n (thread_of world n))
  step_ok taken (ask.Join from thread) = object_ok thread (is_thread set world)
      (λ n. joins_thread set world n (thread_of world n)) (λ n. joins_ok n (thread_of world n))
  step_ok taken (ask.Init from class) = class_ok class (Does (op.Init class stage.Ready) reply.Done)
      (does (op.Init class stage.Ready) reply.Done tt)
  step_ok taken (ask.InitDone from class) = does (op.Init class stage.Done) reply.Done tt
  step_ok taken (ask.Print from piece) = prints_ok taken piece
  step_ok taken (ask.Raise from class) = throwing_ok class
  step_ok taken (ask.Begin from) = does op.Begin reply.Done tt
  step_ok taken (ask.End from) = ends_ok (depth_of world t) refl
  step_ok taken (ask.Leave uncaught) = does (op.Ended uncaught) reply.Done tt

-- what the act of a request's step says of the world
pub sanctioned : (set : SetFacts) (known : Knowledge) (request : Option PlainRequest) (t : ℕ) (o : Op)
    → IsAbout set known request t o → (r : PlainRequest) × (request ≡ Some r) × Sanctioned known.world t o
sanctioned set known None t o about = absurd (let no : ◌≡◌ {A = Option Op} None (Some o) = about in cc)
sanctioned set known (Some r) t o about = (r, refl, step_ok set known.world t (taken_by o) r o about)
