-- A request that stores has passed its class, and waits in no world in which it still has.
use Rattle.std.proofs.Common.{◌≡◌, ℕ, zero, suc, ℤ, pos, negsuc, Bool, true, false, List, ◌++◌, ◌∷◌, length, refl, sym, subst}
use Rattle.std.proofs.Common.{if◌then◌else◌, ◌&&◌, nat_eq, nat_lt, nat_le, take}
use Rattle.std.specs.Prelude.{Option, Some, None, slice_get}
use Rattle.std.proofs.lemmas.Bool.{eqb-true, eq-eqb}
use Rattle.ap_base.specs.declared.place.Place.{Place}
use Rattle.ap_base.specs.declared.place.Place.TheVariants.{Static}
use Rattle.run_types.specs.declared.key.Key.TheVariants as key
use Rattle.run_types.specs.declared.wait.On.{On}
use Rattle.run_types.specs.declared.wait.On.TheVariants as on
use Rattle.graph_model.specs.declared.types.Value.{Value}
use Rattle.graph_model.specs.declared.types.Value.TheVariants.{Int, Long, Null, Obj as Object}
use Rattle.graph_model.specs.declared.types.Graph.{Graph}
use Rattle.graph_model.specs.Heaps.{object_at}
use Rattle.natives.specs.declared.requests.Request.TheVariants as ask
use Rattle.natives.specs.declared.requests.Reply.TheVariants as reply
use Rattle.run_history.specs.declared.act.Op.{Op}
use Rattle.run_history.specs.declared.act.Op.TheVariants as op
use Rattle.run_history.specs.declared.act.Stage.TheVariants as stage
use Rattle.run_history.specs.declared.act.PlainKey.{PlainKey}
use Rattle.run_history.specs.declared.act.PlainKey.TheVariants.{Object as ObjectKey, Class as ClassKey}
use Rattle.run_history.specs.declared.plain.Monitor.{Monitor}
use Rattle.run_history.specs.declared.plain.Progress.{Progress}
use Rattle.run_history.specs.declared.plain.Progress.TheVariants.{Untouched, BegunBy, Finished}
use Rattle.run_history.specs.Recorded.{Recorded}
use Rattle.run_history.specs.Knowing.{Knowledge, next_known, owes_fence}
use Rattle.run_history.specs.Wanted.{Wishes}
use Rattle.run_history.specs.Worlds.{World, Thread, held, depth_of}
use Rattle.plain_model.specs.declared.throws.Throws.{Throws}
use Rattle.plain_model.specs.declared.throws.Throws.TheVariants as exception
use Rattle.plain_model.specs.Facts.{SetFacts, string_number}
use Rattle.plain_model.specs.Requests.{PlainRequest, PlainReply}
use Rattle.plain_model.specs.Steps.{Step, Does, Waits, WrongOperand, IsOver, op_of, step, throws, allocates, reads, stores}
use Rattle.plain_model.specs.Steps.{new_array, new_length, with_object, with_reference, with_index, with_progress, with_class}
use Rattle.plain_model.specs.Steps.{may_store, past_end, has_elements, has_length, is_of, casts, compares, is_same, prints}
use Rattle.plain_model.specs.Steps.{ends_region, enters_held, exits_held, starts_thread, joins_thread, thread_of, any_object}
use Rattle.plain_model.specs.Steps.{is_thread, class_act, null_class, bool_value}
use Rattle.plain_model.specs.Limits.{most_threads}
use Rattle.plain_model.specs.Codes.{Code}
use Rattle.plain_model.specs.Runs.{IsAbout, IsPlainRun, MayAct, Rule, known_of, wants_of, request_after, op_given}
use Rattle.plain_model.proofs.Visible.{may_act}
use Rattle.plain_model.specs.Ends.{wait_of, wait_at}
use Rattle.lasting_steps.specs.Passing.{HasPassed, PassesIn, StoresHavePassed, PassedStoresDontWait, StoresNeverWait}
use Rattle.lasting_steps.specs.Passing.{AskedPlacesStayPassed, AskedPlacesArePassed, AskedStoresNeverWait}
use Rattle.lasting_steps.proofs.Passing.{classes_stay_passed, classes_stay_passed_by}

-- ---- steps that store

abbrev pub IsStore : Step → Type 0
IsStore (Does (op.Stored place value) r) = Unit {0}
IsStore s = ⊥

pub is-store : (s : Step) (place : Place) (value : Value) (r : PlainReply) → s ≡ Does (op.Stored place value) r → IsStore s
is-store s place value r is = subst IsStore (sym is) tt

-- a request that isn't one of the three that store
abbrev pub IsOther : PlainRequest → Type 0
IsOther (ask.PutStatic from field value) = ⊥
IsOther (ask.PutField from holder field value) = ⊥
IsOther (ask.PutElement from array index kind value) = ⊥
IsOther request = Unit {0}

abbrev pub NoStore : Step → Type 0
NoStore s = IsStore s → ⊥

-- the step doesn't wait
abbrev Quiet : Step → Type 0
Quiet s = wait_of s ≡ None

module _ (P : Step → Type 0) where
  pub either : (b : Bool) (x y : Step) → P x → P y → P (if b then x else y)
  either true x y at_true at_false = at_true
  either false x y at_true at_false = at_false

  module _ (set : SetFacts) (world : World) (thrown : (which : Throws) → P (throws set world which))
      (wrong : P WrongOperand) where
    pub object : (value : Value) (test : ℕ → Bool) (go : ℕ → Step) → ((n : ℕ) → P (go n))
        → P (with_object set world value test go)
    object Null test go is = thrown exception.NullPointer
    object (Object n) test go is = either (nat_lt n (length world.heap.objects) && test n) (go n) WrongOperand (is n) wrong
    object (Int i) test go is = wrong
    object (Long i) test go is = wrong

    reference : (value : Value) (null : Step) (go : ℕ → Step) → P null → ((n : ℕ) → P (go n))
        → P (with_reference set world value null go)
    reference Null null go null_is is = null_is
    reference (Object n) null go null_is is = either (nat_lt n (length world.heap.objects)) (go n) WrongOperand (is n) wrong
    reference (Int i) null go null_is is = wrong
    reference (Long i) null go null_is is = wrong

    pub index : (n : ℕ) (at : ℤ) (past : Throws) (go : ℕ → Step) → ((i : ℕ) → P (go i)) → P (with_index set world n at past go)
    index n (pos i) past go is =
        either (nat_lt i (length (object_at world.heap n).values)) (go i) (throws set world past) (is i) (thrown past)
    index n (negsuc i) past go is = thrown past

module _ (set : SetFacts) (world : World) (t : ℕ) where
  no-thrown : (which : Throws) → NoStore (throws set world which)
  no-thrown which = λ x. x

  no-object : (value : Value) (test : ℕ → Bool) (go : ℕ → Step) → ((n : ℕ) → NoStore (go n))
      → NoStore (with_object set world value test go)
  no-object = object NoStore set world no-thrown (λ x. x)

  no-progress : (class : ℕ) (progress : Option Progress) (go : Step) → NoStore go
      → NoStore (with_progress set world t class progress go)
  no-progress class None go is = λ x. x
  no-progress class (Some Untouched) go is = λ x. x
  no-progress class (Some (BegunBy u)) go is = either NoStore (nat_eq u t) go (Waits (on.Init u)) is (λ x. x)
  no-progress class (Some Finished) go is = is

  no-class : (class : ℕ) (go : Step) → NoStore go → NoStore (with_class set world t class go)
  no-class class go is = no-progress class (slice_get world.classes class) go is

  no-array : (class : ℕ) (count : ℤ) → NoStore (new_array set world class count)
  no-array class (pos count) = λ x. x
  no-array class (negsuc count) = λ x. x

  no-enters : (k : PlainKey) (monitor : Option Monitor) → NoStore (enters_held set world t k monitor)
  no-enters k None = λ x. x
  no-enters k (Some m) =
      either NoStore (nat_eq m.owner t) (Does (op.Enter k) reply.Done) (Waits (on.Monitor m.owner)) (λ x. x) (λ x. x)

  no-exits : (k : PlainKey) (monitor : Option Monitor) → NoStore (exits_held set world t k monitor)
  no-exits k None = λ x. x
  no-exits k (Some m) =
      either NoStore (nat_eq m.owner t) (Does (op.Exit k) reply.Done) (throws set world exception.IllegalMonitorState) (λ x. x)
      (λ x. x)

  no-starts : (n : ℕ) (started : Option (ℕ × Thread)) → NoStore (starts_thread set world n started)
  no-starts n None =
      either NoStore (nat_lt (length world.threads) most_threads) (Does (op.Start n (length world.threads)) reply.Done) _
      (λ x. x) (λ x. x)
  no-starts n (Some started) = λ x. x

  no-joins : (n : ℕ) (started : Option (ℕ × Thread)) → NoStore (joins_thread set world n started)
  no-joins n None = λ x. x
  no-joins n (Some started) =
      either NoStore started.1.ended (Does (op.Join n) reply.Done) (Waits (on.Join started.0)) (λ x. x) (λ x. x)

  no-casts : (class n : ℕ) → NoStore (casts set world class n)
  no-casts class n =
      either NoStore (is_of set world class n) (Does (class_act set world n) reply.Done) (throws set world exception.ClassCast)
      (λ x. x) (λ x. x)

  no-compares : (same : Option Bool) → NoStore (compares set world same)
  no-compares None = λ x. x
  no-compares (Some same) = λ x. x

  no-prints : (taken : ℕ) (piece : List ℕ) → NoStore (prints set world taken piece)
  no-prints taken piece =
      either NoStore (nat_lt 0 taken && nat_le taken (length piece)) (Does (op.Print (take taken piece)) (reply.Printed taken))
      WrongOperand (λ x. x) (λ x. x)

  no-ends : (depth : ℕ) → NoStore (ends_region set world depth)
  no-ends zero = λ x. x
  no-ends (suc depth) = λ x. x

  pub no-store : (taken : ℕ) (request : PlainRequest) → IsOther request → NoStore (step set world t taken request)
  unfolding step
  no-store taken ask.Pause other = λ x. x
  no-store taken (ask.Broken f) other = λ x. x
  no-store taken (ask.New from class) other = no-class class (allocates set world class (new_length set world class)) (λ x. x)
  no-store taken (ask.NewArray from shape count) other = no-array shape count
  no-store taken (ask.NewText from count) other = no-array (string_number set) count
  no-store taken (ask.GetStatic from field) other = no-class field.class (reads set world (Static field.at)) (λ x. x)
  no-store taken (ask.PutStatic from field value) other = absurd other
  no-store taken (ask.GetField from holder field) other = no-object holder (is_of set world field.class) _ (λ n x. x)
  no-store taken (ask.PutField from holder field value) other = absurd other
  no-store taken (ask.GetElement from array at kind) other =
      no-object array (has_elements set world kind) _
      (λ n. index NoStore set world no-thrown (λ x. x) n at (past_end set world kind) _ (λ i x. x))
  no-store taken (ask.PutElement from array at kind value) other = absurd other
  no-store taken (ask.Length from array) other = no-object array (has_length set world) _ (λ n x. x)
  no-store taken (ask.ClassOf from asked within) other = no-object asked (is_of set world within) _ (λ n x. x)
  no-store taken (ask.Cast from asked class) other =
      reference NoStore set world no-thrown (λ x. x) asked (Does (null_class set world) reply.Done) _ (λ x. x) (no-casts class)
  no-store taken (ask.IsA from asked class) other =
      reference NoStore set world no-thrown (λ x. x) asked (Does (null_class set world) (reply.Item (bool_value false))) _
      (λ x. x) (λ n x. x)
  no-store taken (ask.Same from left right) other = no-compares (is_same left right)
  no-store taken (ask.Enter from (key.Object asked)) other =
      no-object asked (any_object set world) _ (λ n. no-enters (ObjectKey n) (held world.monitors (ObjectKey n)))
  no-store taken (ask.Enter from (key.Class class)) other = no-enters (ClassKey class) (held world.monitors (ClassKey class))
  no-store taken (ask.Exit from (key.Object asked)) other =
      no-object asked (any_object set world) _ (λ n. no-exits (ObjectKey n) (held world.monitors (ObjectKey n)))
  no-store taken (ask.Exit from (key.Class class)) other = no-exits (ClassKey class) (held world.monitors (ClassKey class))
  no-store taken (ask.Start from thread) other = no-object thread (is_thread set world) _ (λ n. no-starts n (thread_of world n))
  no-store taken (ask.Join from thread) other = no-object thread (is_thread set world) _ (λ n. no-joins n (thread_of world n))
  no-store taken (ask.Init from class) other = no-class class (Does (op.Init class stage.Ready) reply.Done) (λ x. x)
  no-store taken (ask.InitDone from class) other = λ x. x
  no-store taken (ask.Print from piece) other = no-prints taken piece
  no-store taken (ask.Raise from class) other = λ x. x
  no-store taken (ask.Begin from) other = λ x. x
  no-store taken (ask.End from) other = no-ends (depth_of world t)
  no-store taken (ask.Leave uncaught) other = λ x. x

  -- ---- steps that wait

  quiet-object : (value : Value) (test : ℕ → Bool) (go : ℕ → Step) → ((n : ℕ) → Quiet (go n))
      → Quiet (with_object set world value test go)
  quiet-object = object Quiet set world (λ which. refl) refl

  quiet-progress : (class : ℕ) (progress : Option Progress) (go : Step) → HasPassed t progress → Quiet go
      → Quiet (with_progress set world t class progress go)
  quiet-progress class None go passed is = absurd passed
  quiet-progress class (Some Untouched) go passed is = absurd passed
  quiet-progress class (Some (BegunBy u)) go passed is =
      let same : nat_eq u t ≡ true = eq-eqb u t passed in rw same is
  quiet-progress class (Some Finished) go passed is = is

  pub passed-progress : (class : ℕ) (progress : Option Progress) (go : Step)
      → IsStore (with_progress set world t class progress go)
      → HasPassed t progress
  passed-progress class None go is = absurd is
  passed-progress class (Some Untouched) go is = absurd is
  passed-progress class (Some (BegunBy u)) go is =
      elim (nat_eq u t) as (λ b. nat_eq u t ≡ b → IsStore (if b then go else Waits (on.Init u)) → u ≡ t) [
        | true ↦ λ e i. eqb-true u t e
        | false ↦ λ e i. absurd i
      ] refl is
  passed-progress class (Some Finished) go is = tt

  passed-step : (taken : ℕ) (request : PlainRequest) → IsStore (step set world t taken request) → PassesIn world t request
  unfolding step
  passed-step taken (ask.PutStatic from field value) is =
      passed-progress field.class (slice_get world.classes field.class) (stores set world field.kind (Static field.at) value) is
  passed-step taken request is = tt

  quiet-step : (taken : ℕ) (request : PlainRequest) → (IsOther request → ⊥) → PassesIn world t request
      → Quiet (step set world t taken request)
  unfolding step
  quiet-step taken (ask.PutStatic from field value) stores passes =
      quiet-progress field.class (slice_get world.classes field.class) _ passes refl
  quiet-step taken (ask.PutField from holder field value) stores passes =
      quiet-object holder (is_of set world field.class) _ (λ n. refl)
  quiet-step taken (ask.PutElement from array at kind value) stores passes =
      quiet-object array (has_elements set world kind) _ (λ n.
      index Quiet set world (λ which. refl) refl n at exception.ArrayIndexOutOfBounds _ (λ i.
      either Quiet (may_store set world kind n value) _ _ refl refl))
  quiet-step taken request stores passes = absurd (stores tt)

pub stores_have_passed : StoresHavePassed
stores_have_passed set world t taken request place value r does =
    passed-step set world t taken request (is-store (step set world t taken request) place value r does)

pub passed_stores_dont_wait : PassedStoresDontWait
passed_stores_dont_wait set world after t taken taken' request place value r does passes =
    quiet-step set after t taken' request
    (λ other. no-store set world t taken request other (is-store (step set world t taken request) place value r does)) passes

module _ (set : SetFacts) (main : ℕ) (opening : Graph) {Frames : Type 0} (code : Code set main opening Frames) where
  passes-by : (acts more : List Recorded) (t : ℕ) (request : PlainRequest) → IsPlainRun set main opening code (acts ++ more)
      → PassesIn (known_of set main opening code acts).world t request
      → PassesIn (known_of set main opening code (acts ++ more)).world t request
  passes-by acts more t (ask.PutStatic from field value) run passes =
      classes_stay_passed_by set main opening code acts more t field.class run passes
  passes-by acts more t request run passes = tt

pub stores_never_wait : {Frames : Type 0} → StoresNeverWait Frames
stores_never_wait set main opening code acts more t taken taken' request place value r run does =
    let before = (known_of set main opening code acts).world in
    let after = (known_of set main opening code (acts ++ more)).world in
    passed_stores_dont_wait set before after t taken taken' request place value r does
    (passes-by set main opening code acts more t request run (stores_have_passed set before t taken request place value r does))

-- ---- act by act

module _ (set : SetFacts) (main : ℕ) (opening : Graph) {Frames : Type 0} (code : Code set main opening Frames)
    (acts : List Recorded) (a : Recorded)
    (may : MayAct set (known_of set main opening code acts) (wants_of set main opening code acts)
    (request_after set main opening code acts a.act.thread) a) where
  pub stays-passed : (t : ℕ) (request : PlainRequest) → PassesIn (known_of set main opening code acts).world t request
      → PassesIn (next_known (known_of set main opening code acts) a).world t request
  stays-passed t (ask.PutStatic from field value) passes =
      classes_stay_passed set main opening code acts a t field.class may passes
  stays-passed t request passes = tt

pub asked_places_stay_passed : {Frames : Type 0} → AskedPlacesStayPassed Frames
asked_places_stay_passed set main opening code acts a t request may passes =
    stays-passed set main opening code acts a may t request passes

-- the step of a request that stores
pub stores-step : (s : Step) (o : Op) → op_of s ≡ Some o → (r : PlainReply) × (s ≡ Does o r)
stores-step (Does p r) o is = (r, (let e : ◌≡◌ {A = Option Op} (Some p) (Some o) = is in cc))
stores-step (Waits on) o is = absurd (let e : ◌≡◌ {A = Option Op} None (Some o) = is in cc)
stores-step WrongOperand o is = absurd (let e : ◌≡◌ {A = Option Op} None (Some o) = is in cc)
stores-step (IsOver f) o is = absurd (let e : ◌≡◌ {A = Option Op} None (Some o) = is in cc)

-- the rule of an Asked act
asked-rule : (set : SetFacts) (known : Knowledge) (now : Wishes) (request : Option PlainRequest) (t : ℕ) (named : List ℕ)
    (o : Op) (place : Place) (value : Value)
    → o ≡ op.Asked place value → Rule set known now request t named o → IsAbout set known request t (op.Stored place value)
asked-rule set known now request t named o place value is rule =
    (subst (λ (x : Op). Rule set known now request t named x) is rule).is_about

pub asked-step : (set : SetFacts) (known : Knowledge) (now : Wishes) (at : Option PlainRequest) (a : Recorded) (place : Place)
    (value : Value) (request : PlainRequest)
    → MayAct set known now at a → a.act.op ≡ op.Asked place value → at ≡ Some request
    → (r : PlainReply) × (step set known.world a.act.thread 1 request ≡ Does (op.Stored place value) r)
asked-step set known now at a place value request may asked is =
    let about = asked-rule set known now at a.act.thread a.named a.act.op place value asked may.rule in
    let about' : op_given set known.world a.act.thread 1 (Some request) ≡ Some (op.Stored place value) =
    subst (λ (q : Option PlainRequest). op_given set known.world a.act.thread 1 q ≡ Some (op.Stored place value)) is about in
    stores-step (step set known.world a.act.thread 1 request) (op.Stored place value) about'

pub asked_places_are_passed : {Frames : Type 0} → AskedPlacesArePassed Frames
asked_places_are_passed set main opening code acts a place value request may asked is =
    let known = known_of set main opening code acts in
    let does = asked-step set known (wants_of set main opening code acts)
    (request_after set main opening code acts a.act.thread) a place value request may asked is in
    stays-passed set main opening code acts a may a.act.thread request
    (stores_have_passed set known.world a.act.thread 1 request place value does.0 does.1)

pub unless-owed : (owes : Bool) (wait : Option On) → wait ≡ None → (if owes then None else wait) ≡ None
unless-owed true wait none = refl
unless-owed false wait none = none

module _ (set : SetFacts) (main : ℕ) (opening : Graph) {Frames : Type 0} (code : Code set main opening Frames) where
  asked-waits : (front : List Recorded) (a : Recorded) (rest : List Recorded) (t : ℕ) (place : Place) (value : Value)
      (at : Option PlainRequest)
      → IsPlainRun set main opening code (front ++ a ∷ rest) → a.act.thread ≡ t → a.act.op ≡ op.Asked place value
      → request_after set main opening code front t ≡ at
      → wait_at set (known_of set main opening code (front ++ a ∷ rest)).world t at ≡ None
  asked-waits front a rest t place value None run own asked is = refl
  asked-waits front a rest t place value (Some request) run own asked is =
      let known = known_of set main opening code front in
      let does = asked-step set known (wants_of set main opening code front)
      (request_after set main opening code front a.act.thread) a place value request
      (may_act set main opening code front a rest run) asked
      (subst (λ u. request_after set main opening code front u ≡ Some request) (sym own) is) in
      stores_never_wait set main opening code front (a ∷ rest) t 1 1 request place value does.0 run
      (subst (λ u. step set known.world u 1 request ≡ Does (op.Stored place value) does.0) own does.1)

pub asked_stores_never_wait : {Frames : Type 0} → AskedStoresNeverWait Frames
asked_stores_never_wait set main opening code acts t p run was same =
    let known = known_of set main opening code acts in
    let run' = subst (IsPlainRun set main opening code) was.is_here run in
    let none = asked-waits set main opening code was.front was.asked was.rest t p.place p.value
    (request_after set main opening code was.front t) run' was.by_thread was.is_asked refl in
    let here : wait_at set known.world t (request_after set main opening code was.front t) ≡ None =
    subst (λ (xs : List Recorded). wait_at set (known_of set main opening code xs).world t
    (request_after set main opening code was.front t) ≡ None) (sym was.is_here) none in
    unless-owed (owes_fence known.unfenced t) (wait_at set known.world t (request_after set main opening code acts t))
    (subst (λ (q : Option PlainRequest). wait_at set known.world t q ≡ None) (sym same) here)
