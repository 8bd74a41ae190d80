-- What is foreseen of a request's step.
use Rattle.std.proofs.Common.{◌≡◌, ℕ, zero, suc, Bool, true, false, nat_eq, nat_lt, ◌&&◌, List, [], map, length, Option, Some}
use Rattle.std.proofs.Common.{None, IsSome, refl, ap, sym, subst, ◌∙◌, if◌then◌else◌}
use Rattle.std.specs.Prelude.{slice_get}
use Rattle.std.proofs.lemmas.List.{length-map}
use Rattle.ap_base.specs.declared.reference.Ref.{Ref}
use Rattle.ap_base.specs.declared.reference.Item.{Item}
use Rattle.ap_base.specs.declared.place.Place.TheVariants.{Static}
use Rattle.run_types.specs.declared.key.Key.{Key}
use Rattle.run_types.specs.declared.key.Key.TheVariants as key
use Rattle.run_types.specs.declared.resolved.At.{At}
use Rattle.run_types.specs.declared.resolved.FieldAt.{FieldAt}
use Rattle.run_types.specs.declared.fault.StepFault.{StepFault}
use Rattle.run_types.specs.declared.wait.On.TheVariants as on
use Rattle.graph_model.specs.declared.types.Root.{Root}
use Rattle.natives.specs.declared.requests.Request.{Request}
use Rattle.natives.specs.declared.requests.Request.TheVariants as ask
use Rattle.natives.specs.declared.requests.Reply.TheVariants as reply
use Rattle.monitors.specs.Held.{IsHeldBy, exited, monitor_of}
use Rattle.run_history.specs.declared.act.Op.{Op}
use Rattle.run_history.specs.declared.act.Op.TheVariants as op
use Rattle.run_history.specs.declared.act.PlainKey.{PlainKey}
use Rattle.run_history.specs.declared.act.PlainKey.TheVariants as plain
use Rattle.run_history.specs.declared.act.Stage.TheVariants as stage
use Rattle.run_history.specs.declared.plain.Monitor.{Monitor}
use Rattle.run_history.specs.declared.plain.Progress.{Progress}
use Rattle.run_history.specs.declared.plain.Progress.TheVariants.{Untouched, BegunBy, Finished}
use Rattle.run_history.specs.Worlds.{World, held}
use Rattle.plain_model.specs.declared.throws.Throws.TheVariants as exception
use Rattle.plain_model.specs.Duties.{IsFit}
use Rattle.plain_model.specs.Facts.{SetFacts}
use Rattle.plain_model.specs.Requests.{PlainReply}
use Rattle.plain_model.specs.Steps
use Rattle.plain_model.specs.Steps.{Step, Does, Waits, WrongOperand, IsOver, op_of, step, thread_from}
use Rattle.shared_objects.specs.declared.rest.Rest.{Rest}
use Rattle.shared_objects.specs.declared.threads.ThreadState.{ThreadState}
use Rattle.shared_objects.specs.Shown.{HasOneKey, Shown, item_value, number_value}
use Rattle.shared_objects.specs.Plain.{plain_request}
use Rattle.shared_objects.specs.Threads.{depth_at, started_from}
use Rattle.shared_objects.specs.Worlds.{IsHeldKey, KnowsMonitors, number_or, plain_key, plain_thread, world_of}
use Rattle.world_steps.proofs.Locking.{exit_goes, exit_throws}
use Rattle.world_steps.proofs.Running.{found_plain, plain_started, depth_plain}
use Rattle.plain_machine.specs.Exits.{OpExited}
use Rattle.plain_machine.specs.Foreseeing.{Foresees, key_by, key_named, op_begun, op_entered, op_next, op_raised, op_started}
use Rattle.plain_machine.specs.Foreseeing.{op_unless, step_in}
use Rattle.plain_machine.specs.Ops.{changes_rest, is_print}
use Rattle.plain_machine.proofs.Possible.{IsOneOf, could, mild, mild-is, own-fault, possible, possible-if}

some-same : {X : Type 0} (v w : X) → ◌≡◌ {A = Option X} (Some v) (Some w) → v ≡ w
some-same v w e = cc

none-some : {X P : Type 0} (v : X) → ◌≡◌ {A = Option X} None (Some v) → P
none-some v e = absurd (let no = e in cc)

-- of one step
abbrev ForeseesStep : Step → Option Op → Type 0
ForeseesStep s (Some o) = (is_print o ≡ false) × ((p : Op) → op_of s ≡ Some p → p ≡ o)
ForeseesStep s None = (p : Op) → op_of s ≡ Some p → changes_rest p ≡ false

mild-step : (s : Step) → IsOneOf mild s → (p : Op) → op_of s ≡ Some p → changes_rest p ≡ false
mild-step (Does o r) is p e =
    let same : o ≡ p = some-same o p e in mild-is (changes_rest p) (subst (λ x. mild x ≡ true) same is)
mild-step (Waits on) is p e = none-some p e
mild-step WrongOperand is p e = none-some p e
mild-step (IsOver f) is p e = none-some p e

-- a step of each root list and share, by steps
of-steps : (set : SetFacts) (shown : Shown) (rest : Rest) (t : ℕ) (q : Request Ref Item) (o : Option Op)
    → ((roots : List Root) (taken : ℕ) → ForeseesStep (step_in set roots shown rest t taken q) o)
    → Foresees set shown rest t q o
of-steps set shown rest t q None is = λ roots taken p e. is roots taken p e
of-steps set shown rest t q (Some o) is = ((is [] 0).0, λ roots taken p e. (is roots taken).1 p e)

module _ (set : SetFacts) (world : World) (t : ℕ) where
  -- ---- classes

  begun-foreseen : (class : ℕ) (progress : Option Progress) (go : Step) → IsOneOf mild go
      → ForeseesStep (Steps.with_progress set world t class progress go) (op_begun class progress)
  begun-foreseen class None go is = λ p e. none-some p e
  begun-foreseen class (Some Untouched) go is = (refl, λ p e. sym (some-same (op.Init class stage.Begun) p e))
  begun-foreseen class (Some (BegunBy u)) go is = λ p e. mild-step
      (if nat_eq u t then go else Waits (on.Init u))
      (possible-if set world t mild (λ n c. refl) (nat_eq u t) go (Waits (on.Init u)) is tt) p e
  begun-foreseen class (Some Finished) go is = λ p e. mild-step go is p e

  -- ---- operands

  if-wrong : (b : Bool) (s : Step) (o : Option Op) → ForeseesStep s o
      → ForeseesStep (if b then s else WrongOperand) o
  if-wrong true s o is = is
  if-wrong false s None is = λ p e. none-some p e
  if-wrong false s (Some o) is = (is.0, λ p e. none-some p e)

  abbrev by_number : Option ℕ → (ℕ → Option Op) → Option Op
  by_number None f = None
  by_number (Some n) f = f n

  object-foreseen : (number : Option ℕ) (test : ℕ → Bool) (go : ℕ → Step) (f : ℕ → Option Op)
      → ((n : ℕ) → ForeseesStep (go n) (f n))
      → ForeseesStep (Steps.with_object set world (number_value number) test go) (by_number number f)
  object-foreseen None test go f is = λ p e. mild-step (Steps.throws set world exception.NullPointer) refl p e
  object-foreseen (Some n) test go f is =
      if-wrong (nat_lt n (length world.heap.objects) && test n) (go n) (f n) (is n)

  -- ---- monitors

  enters-foreseen : (k : PlainKey) → ForeseesStep (Steps.enters set world t k) (Some (op.Enter k))
  enters-foreseen k = (refl, λ p is. by-monitor (held world.monitors k) p is)
    where
      by-owner : (b : Bool) (u : ℕ) (p : Op)
          → op_of (if b then Does (op.Enter k) reply.Done else Waits (on.Monitor u)) ≡ Some p → p ≡ op.Enter k
      by-owner true u p is = sym (some-same (op.Enter k) p is)
      by-owner false u p is = none-some p is

      by-monitor : (m : Option Monitor) (p : Op) → op_of (Steps.enters_held set world t k m) ≡ Some p
          → p ≡ op.Enter k
      by-monitor None p is = sym (some-same (op.Enter k) p is)
      by-monitor (Some m) p is = by-owner (nat_eq m.owner t) m.owner p is

  -- ---- threads and regions

  next-foreseen : (b : Bool) (n count : ℕ) (f : StepFault)
      → ForeseesStep (if b then Does (op.Start n count) reply.Done else IsOver f)
      (if b then Some (op.Start n count) else None)
  next-foreseen true n count f = (refl, λ p e. sym (some-same (op.Start n count) p e))
  next-foreseen false n count f = λ p e. none-some p e

  unless-foreseen : (ss : List ThreadState) → world.threads ≡ map plain_thread ss → (n : ℕ)
      → (started : Option (ℕ × ThreadState))
      → ForeseesStep (Steps.starts_thread set world n (plain_started started)) (op_unless n ss started)
  unless-foreseen ss e n (Some s) = λ p is. mild-step (Steps.throws set world exception.IllegalThreadState)
      refl p is
  unless-foreseen ss e n None =
      let count : length world.threads ≡ length ss = ap length e ∙ length-map ss plain_thread in
      subst (λ k. ForeseesStep (Steps.starts_thread set world n None) (op_next n k)) count
      (next-foreseen (nat_lt (length world.threads) 64) n (length world.threads) _)

  starts-foreseen : (ss : List ThreadState) → world.threads ≡ map plain_thread ss → (n : ℕ)
      → ForeseesStep (Steps.starts_thread set world n (Steps.thread_of world n))
      (op_unless n ss (started_from 0 ss n))
  starts-foreseen ss e n =
      let found : Steps.thread_of world n ≡ plain_started (started_from 0 ss n) =
      ap (λ ts. thread_from 0 ts n) e ∙ found_plain 0 n ss in
      subst (λ x. ForeseesStep (Steps.starts_thread set world n x) (op_unless n ss (started_from 0 ss n)))
      (sym found) (unless-foreseen ss e n (started_from 0 ss n))

  ends-foreseen : (depth : ℕ) → ForeseesStep (Steps.ends_region set world depth) (op_raised depth)
  ends-foreseen zero = λ p e. mild-step (Steps.throws set world exception.IllegalState) refl p e
  ends-foreseen (suc depth) = (refl, λ p e. sym (some-same op.End p e))

  -- ---- one operation alone

  alone : (o : Op) (r : PlainReply) → is_print o ≡ false → ForeseesStep (Does o r) (Some o)
  alone o r silent = (silent, λ p e. sym (some-same o p e))

  -- whatever changes the heap at most
  mild-foreseen : (s : Step) → IsOneOf mild s → ForeseesStep s None
  mild-foreseen s is = λ p e. mild-step s is p e

-- ---- exits

module _ (set : SetFacts) (t : ℕ) (shown : Shown) (rest : Rest) (one : HasOneKey shown)
    (all : (r : Ref) → shown.is_key r ≡ true) (monitors : KnowsMonitors shown rest) where
  exit-foreseen : (k : Key Ref) (pk : PlainKey) → IsHeldKey shown k → pk ≡ plain_key shown.number k
      → (result : Option Op) → OpExited (Some pk) (IsHeldBy t (monitor_of rest.monitors k)) result
      → (roots : List Root) → ForeseesStep (Steps.exits set (world_of roots shown rest) t pk) result
  exit-foreseen k pk known is None isnt roots =
      subst (λ s. ForeseesStep s None)
      (sym (exit_throws set t shown rest k pk one monitors known is roots isnt))
      (λ p e. mild-step (Steps.throws set (world_of roots shown rest) exception.IllegalMonitorState) refl p e)
  exit-foreseen k pk known is (Some o) own roots =
      let goes = exit_goes set t shown rest k pk one monitors known is (exited rest.monitors k) own.0 refl in
      subst (λ s. ForeseesStep s (Some o)) (sym (goes.follows roots).0)
      (subst (λ x. ForeseesStep (Does (op.Exit pk) reply.Done) (Some x)) (sym own.1)
      (refl, λ p e. sym (some-same (op.Exit pk) p e)))

  object-key : (r : Ref) (n : ℕ) → shown.number r ≡ Some n → IsHeldKey shown (key.Object r)
  object-key r n e = (subst (λ o. IsSome o) (sym e) refl, all r)

  exits-foreseen : (from : At) (r : Ref) (number : Option ℕ) → shown.number r ≡ number → (result : Option Op)
      → OpExited (key_by number) (IsHeldBy t (monitor_of rest.monitors (key.Object r))) result
      → (roots : List Root) → ForeseesStep (Steps.with_object set (world_of roots shown rest)
      (number_value number) (λ n. true)
      (λ n. Steps.exits set (world_of roots shown rest) t (plain.Object n))) result
  exits-foreseen from r None e result is roots =
      subst (λ o. ForeseesStep (Steps.throws set (world_of roots shown rest) exception.NullPointer) o) (sym
      is)
      (λ p h. mild-step (Steps.throws set (world_of roots shown rest) exception.NullPointer) refl p h)
  exits-foreseen from r (Some n) e result is roots =
      if-wrong set (world_of roots shown rest) t (nat_lt n (length shown.objects) && true)
      (Steps.exits set (world_of roots shown rest) t (plain.Object n)) result
      (exit-foreseen (key.Object r) (plain.Object n) (object-key r n e)
      (sym (ap (λ o. plain.Object (number_or o)) e)) result is roots)

-- ---- all requests

module _ (set : SetFacts) (shown : Shown) (rest : Rest) (t : ℕ) where
  pub class-foreseen : (q : Request Ref Item) (class : ℕ) (go : List Root → ℕ → Step)
      → ((roots : List Root) (taken : ℕ) → step_in set roots shown rest t taken q
      ≡ Steps.with_class set (world_of roots shown rest) t class (go roots taken))
      → ((roots : List Root) (taken : ℕ) → IsOneOf mild (go roots taken))
      → Foresees set shown rest t q (op_begun class (slice_get rest.classes.items class))
  class-foreseen q class go is each = of-steps set shown rest t q
      (op_begun class (slice_get rest.classes.items class))
      (λ roots taken. subst (λ s. ForeseesStep s (op_begun class (slice_get rest.classes.items class)))
      (sym (is roots taken))
      (begun-foreseen set (world_of roots shown rest) t class (slice_get rest.classes.items class)
      (go roots taken) (each roots taken)))

  pub enter-foreseen : (from : At) (k : Key Ref)
      → Foresees set shown rest t (ask.Enter from k) (op_entered (key_named shown.number k))
  unfolding step
  enter-foreseen from (key.Class c) = of-steps set shown rest t (ask.Enter from (key.Class c))
      (Some (op.Enter (plain.Class c)))
      (λ roots taken. enters-foreseen set (world_of roots shown rest) t (plain.Class c))
  enter-foreseen from (key.Object r) = of-steps set shown rest t (ask.Enter from (key.Object r))
      (op_entered (key_by (shown.number r)))
      (λ roots taken. by-key (shown.number r) roots)
    where
      by-key : (number : Option ℕ) (roots : List Root)
          → ForeseesStep (Steps.with_object set (world_of roots shown rest) (number_value number) (λ n. true)
          (λ n. Steps.enters set (world_of roots shown rest) t (plain.Object n))) (op_entered (key_by number))
      by-key None roots = object-foreseen set (world_of roots shown rest) t None (λ n. true)
          (λ n. Steps.enters set (world_of roots shown rest) t (plain.Object n))
          (λ n. Some (op.Enter (plain.Object n))) (λ n. enters-foreseen set (world_of roots shown rest) t
          (plain.Object n))
      by-key (Some n) roots = object-foreseen set (world_of roots shown rest) t (Some n) (λ n. true)
          (λ n. Steps.enters set (world_of roots shown rest) t (plain.Object n))
          (λ n. Some (op.Enter (plain.Object n))) (λ n. enters-foreseen set (world_of roots shown rest) t
          (plain.Object n))

  pub exit-asked : HasOneKey shown → ((r : Ref) → shown.is_key r ≡ true) → KnowsMonitors shown rest
      → (from : At) (k : Key Ref) (result : Option Op)
      → OpExited (key_named shown.number k) (IsHeldBy t (monitor_of rest.monitors k)) result
      → Foresees set shown rest t (ask.Exit from k) result
  unfolding step
  exit-asked one all monitors from (key.Class c) result is =
      of-steps set shown rest t (ask.Exit from (key.Class c)) result
      (λ roots taken. exit-foreseen set t shown rest one all monitors (key.Class c) (plain.Class c) tt refl
      result is roots)
  exit-asked one all monitors from (key.Object r) result is =
      of-steps set shown rest t (ask.Exit from (key.Object r)) result
      (λ roots taken. exits-foreseen set t shown rest one all monitors from r (shown.number r) refl result is
      roots)

  pub start-foreseen : (from : At) (thread : Ref)
      → Foresees set shown rest t (ask.Start from thread) (op_started (shown.number thread) rest.threads)
  unfolding step
  start-foreseen from thread = of-steps set shown rest t (ask.Start from thread)
      (op_started (shown.number thread) rest.threads)
      (λ roots taken. by-thread roots (shown.number thread))
    where
      by-thread : (roots : List Root) (number : Option ℕ)
          → ForeseesStep (Steps.with_object set (world_of roots shown rest) (number_value number)
          (Steps.is_thread set (world_of roots shown rest))
          (λ n. Steps.starts_thread set (world_of roots shown rest) n
          (Steps.thread_of (world_of roots shown rest) n)))
          (op_started number rest.threads)
      by-thread roots None = object-foreseen set (world_of roots shown rest) t None
          (Steps.is_thread set (world_of roots shown rest))
          (λ n. Steps.starts_thread set (world_of roots shown rest) n
          (Steps.thread_of (world_of roots shown rest) n))
          (λ n. op_unless n rest.threads (started_from 0 rest.threads n))
          (λ n. starts-foreseen set (world_of roots shown rest) t rest.threads refl n)
      by-thread roots (Some n) = object-foreseen set (world_of roots shown rest) t (Some n)
          (Steps.is_thread set (world_of roots shown rest))
          (λ n. Steps.starts_thread set (world_of roots shown rest) n
          (Steps.thread_of (world_of roots shown rest) n))
          (λ n. op_unless n rest.threads (started_from 0 rest.threads n))
          (λ n. starts-foreseen set (world_of roots shown rest) t rest.threads refl n)

  pub end-foreseen : (from : At) → Foresees set shown rest t (ask.End from) (op_raised (depth_at
      rest.threads t))
  unfolding step
  end-foreseen from = of-steps set shown rest t (ask.End from) (op_raised (depth_at rest.threads t))
      (λ roots taken. subst (λ d. ForeseesStep (Steps.ends_region set (world_of roots shown rest) d)
      (op_raised (depth_at rest.threads t))) (sym (depth_plain rest.threads t))
      (ends-foreseen set (world_of roots shown rest) t (depth_at rest.threads t)))

  pub only-foreseen : (q : Request Ref Item) (o : Op) (r : PlainReply) → is_print o ≡ false
      → ((roots : List Root) (taken : ℕ) → step_in set roots shown rest t taken q ≡ Does o r)
      → Foresees set shown rest t q (Some o)
  only-foreseen q o r silent is = of-steps set shown rest t q (Some o)
      (λ roots taken. subst (λ s. ForeseesStep s (Some o)) (sym (is roots taken))
      (alone set (world_of roots shown rest) t o r silent))

  pub mild-asked : (q : Request Ref Item)
      → ((roots : List Root) (taken : ℕ) → IsOneOf mild (step_in set roots shown rest t taken q))
      → Foresees set shown rest t q None
  mild-asked q is = of-steps set shown rest t q None
      (λ roots taken. mild-foreseen set (world_of roots shown rest) t _ (is roots taken))

pub raised-some : (d : ℕ) → (d ≡ 0 → ⊥) → Some op.End ≡ op_raised d
raised-some zero isnt = absurd (isnt refl)
raised-some (suc d) isnt = refl

-- ---- the requests of which nothing is foreseen

module _ (set : SetFacts) (shown : Shown) (rest : Rest) (t : ℕ) where
  pub others-mild : (q : Request Ref Item)
      → ((from : At) (class : ℕ) → q ≡ ask.New from class → ⊥)
      → ((from : At) (class : ℕ) → q ≡ ask.Init from class → ⊥)
      → ((from : At) (field : FieldAt) → q ≡ ask.GetStatic from field → ⊥)
      → ((from : At) (field : FieldAt) (value : Item) → q ≡ ask.PutStatic from field value → ⊥)
      → ((from : At) (k : Key Ref) → q ≡ ask.Enter from k → ⊥)
      → ((from : At) (k : Key Ref) → q ≡ ask.Exit from k → ⊥)
      → ((from : At) (thread : Ref) → q ≡ ask.Start from thread → ⊥)
      → ((from : At) (class : ℕ) → q ≡ ask.InitDone from class → ⊥)
      → ((from : At) → q ≡ ask.Begin from → ⊥)
      → ((from : At) → q ≡ ask.End from → ⊥)
      → ((uncaught : Option ℕ) → q ≡ ask.Leave uncaught → ⊥)
      → (o : Op) → could (plain_request shown.number q) o ≡ mild o
  others-mild (ask.New from class) a b c d e f g h i j k o = absurd (a from class refl)
  others-mild (ask.Init from class) a b c d e f g h i j k o = absurd (b from class refl)
  others-mild (ask.GetStatic from field) a b c d e f g h i j k o = absurd (c from field refl)
  others-mild (ask.PutStatic from field value) a b c d e f g h i j k o = absurd (d from field value refl)
  others-mild (ask.Enter from key) a b c d e f g h i j k o = absurd (e from key refl)
  others-mild (ask.Exit from key) a b c d e f g h i j k o = absurd (f from key refl)
  others-mild (ask.Start from thread) a b c d e f g h i j k o = absurd (g from thread refl)
  others-mild (ask.InitDone from class) a b c d e f g h i j k o = absurd (h from class refl)
  others-mild (ask.Begin from) a b c d e f g h i j k o = absurd (i from refl)
  others-mild (ask.End from) a b c d e f g h i j k o = absurd (j from refl)
  others-mild (ask.Leave uncaught) a b c d e f g h i j k o = absurd (k uncaught refl)
  others-mild q a b c d e f g h i j k o = refl

  one-mild : (ok : Op → Bool) → ((o : Op) → ok o ≡ mild o) → (s : Step) → IsOneOf ok s → IsOneOf mild s
  one-mild ok same (Does o r) is = sym (same o) ∙ is
  one-mild ok same (Waits on) is = tt
  one-mild ok same WrongOperand is = tt
  one-mild ok same (IsOver f) is = is

  pub others-foreseen : (q : Request Ref Item) → IsFit set (world_of [] shown rest) t (plain_request
      shown.number q)
      → ((o : Op) → could (plain_request shown.number q) o ≡ mild o)
      → Foresees set shown rest t q None
  others-foreseen q fit same = mild-asked set shown rest t q
      (λ roots taken. one-mild (could (plain_request shown.number q)) same
      (step_in set roots shown rest t taken q)
      (possible set (world_of roots shown rest) t taken (plain_request shown.number q)
      (own-fault set (world_of [] shown rest) t (plain_request shown.number q) fit)))

-- ---- by what a request is

module _ (set : SetFacts) (shown : Shown) (rest : Rest) (t : ℕ) where
  pub at-request : (q r : Request Ref Item) (o p : Option Op) → q ≡ r → o ≡ p
      → Foresees set shown rest t r p → Foresees set shown rest t q o
  at-request q r o p same is h = subst (λ (x : Request Ref Item). Foresees set shown rest t x o) (sym same)
      (subst (λ (x : Option Op). Foresees set shown rest t r x) (sym is) h)

  pub new-foreseen : (from : At) (class : ℕ)
      → Foresees set shown rest t (ask.New from class) (op_begun class (slice_get rest.classes.items class))
  unfolding step
  new-foreseen from class = class-foreseen set shown rest t (ask.New from class) class
      (λ roots taken. Steps.allocates set (world_of roots shown rest) class
      (Steps.new_length set (world_of roots shown rest) class)) (λ roots taken. refl) (λ roots taken. refl)

  pub init-foreseen : (from : At) (class : ℕ)
      → Foresees set shown rest t (ask.Init from class) (op_begun class (slice_get rest.classes.items class))
  unfolding step
  init-foreseen from class = class-foreseen set shown rest t (ask.Init from class) class
      (λ roots taken. Does (op.Init class stage.Ready) reply.Done) (λ roots taken. refl) (λ roots taken. refl)

  pub get-foreseen : (from : At) (field : FieldAt) → Foresees set shown rest t (ask.GetStatic from field)
      (op_begun field.class (slice_get rest.classes.items field.class))
  unfolding step
  get-foreseen from field = class-foreseen set shown rest t (ask.GetStatic from field) field.class
      (λ roots taken. Steps.reads set (world_of roots shown rest) (Static field.at)) (λ roots taken. refl)
      (λ roots taken. refl)

  pub put-foreseen : (from : At) (field : FieldAt) (value : Item)
      → Foresees set shown rest t (ask.PutStatic from field value)
      (op_begun field.class (slice_get rest.classes.items field.class))
  unfolding step
  put-foreseen from field value = class-foreseen set shown rest t (ask.PutStatic from field value) field.class
      (λ roots taken. Steps.stores set (world_of roots shown rest) field.kind (Static field.at)
      (item_value shown.number value)) (λ roots taken. refl) (λ roots taken. refl)

  pub done-foreseen : (from : At) (class : ℕ)
      → Foresees set shown rest t (ask.InitDone from class) (Some (op.Init class stage.Done))
  unfolding step
  done-foreseen from class = only-foreseen set shown rest t (ask.InitDone from class)
      (op.Init class stage.Done) reply.Done refl (λ roots taken. refl)

  pub begin-foreseen : (from : At) → Foresees set shown rest t (ask.Begin from) (Some op.Begin)
  unfolding step
  begin-foreseen from = only-foreseen set shown rest t (ask.Begin from) op.Begin reply.Done refl
      (λ roots taken. refl)

  pub leave-foreseen : (uncaught : Option ℕ)
      → Foresees set shown rest t (ask.Leave uncaught) (Some (op.Ended uncaught))
  unfolding step
  leave-foreseen uncaught = only-foreseen set shown rest t (ask.Leave uncaught) (op.Ended uncaught)
      reply.Done refl (λ roots taken. refl)
