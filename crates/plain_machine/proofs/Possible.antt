-- Which operations the step of a request can be, and that no step itself finds words or monitors lacking.
use Rattle.std.proofs.Common.{◌≡◌, ℕ, zero, suc, ℤ, pos, negsuc, ◌&&◌, Bool, true, false, not, length, take, nat_eq, nat_lt}
use Rattle.std.proofs.Common.{nat_le, Option, Some, None, refl, if◌then◌else◌, subst}
use Rattle.std.specs.Prelude.{slice_get}
use Rattle.run_types.specs.declared.key.Key.TheVariants as key
use Rattle.graph_model.specs.declared.types.Value.{Value}
use Rattle.graph_model.specs.declared.types.Value.TheVariants.{Int, Long, Null, Obj as Object}
use Rattle.natives.specs.declared.requests.Request.TheVariants as ask
use Rattle.natives.specs.declared.requests.Reply.TheVariants as reply
use Rattle.run_history.specs.declared.act.Op.{Op}
use Rattle.run_history.specs.declared.act.Op.TheVariants as op
use Rattle.run_history.specs.declared.act.Stage.TheVariants as stage
use Rattle.run_types.specs.declared.fault.StepFault.{StepFault}
use Rattle.run_types.specs.declared.fault.StepFault.TheVariants as fault
use Rattle.run_types.specs.declared.fault.Which.{Which}
use Rattle.run_types.specs.declared.fault.Which.TheVariants as which
use Rattle.plain_model.specs.Limits.{most_threads, threads_left}
use Rattle.run_history.specs.declared.act.PlainKey.{PlainKey}
use Rattle.run_history.specs.declared.act.PlainKey.TheVariants.{Object as ObjectKey, Class as ClassKey}
use Rattle.run_history.specs.declared.plain.Monitor.{Monitor}
use Rattle.run_history.specs.declared.plain.Progress.{Progress}
use Rattle.run_history.specs.declared.plain.Progress.TheVariants.{Untouched, BegunBy, Finished}
use Rattle.run_history.specs.Worlds.{Thread, World, held, depth_of}
use Rattle.plain_model.specs.declared.throws.Throws.{Throws}
use Rattle.plain_model.specs.Facts.{SetFacts}
use Rattle.plain_model.specs.Requests.{PlainRequest}
use Rattle.plain_model.specs.Steps
use Rattle.plain_model.specs.Steps.{Step, Does, Waits, WrongOperand, IsOver, op_of, step}
use Rattle.plain_model.specs.Duties.{IsFaultOfTurn, IsFit, IsLackOfFrames}
use Rattle.plain_machine.specs.Ops.{changes_rest}

pub no-true : {P : Type 0} → true ≡ false → P
no-true e = absurd (let no : true ≡ false = e in cc)

pub no-false : {P : Type 0} → false ≡ true → P
no-false e = absurd (let no : false ≡ true = e in cc)

abbrev pub is_lack : Which → Bool
is_lack which.VolatileWords = true
is_lack which.Monitors = true
is_lack w = false

-- want of words or of monitors
abbrev pub is_lacking : StepFault → Bool
is_lacking (fault.Full full) = is_lack full.which
is_lacking f = false

abbrev pub mild : Op → Bool
mild o = not (changes_rest o)

abbrev begins : Op → Bool
begins (op.Init class is) = true
begins o = mild o

abbrev enters : Op → Bool
enters (op.Enter k) = true
enters o = mild o

abbrev exits : Op → Bool
exits (op.Exit k) = true
exits o = mild o

abbrev starts : Op → Bool
starts (op.Start n child) = true
starts o = mild o

abbrev opens : Op → Bool
opens op.Begin = true
opens o = mild o

abbrev closes : Op → Bool
closes op.End = true
closes o = mild o

abbrev leaves : Op → Bool
leaves (op.Ended uncaught) = true
leaves o = mild o

-- which operations the step of a request may be
abbrev pub could : PlainRequest → Op → Bool
could (ask.New from class) = begins
could (ask.GetStatic from field) = begins
could (ask.PutStatic from field value) = begins
could (ask.Init from class) = begins
could (ask.InitDone from class) = begins
could (ask.Enter from k) = enters
could (ask.Exit from k) = exits
could (ask.Start from thread) = starts
could (ask.Begin from) = opens
could (ask.End from) = closes
could (ask.Leave uncaught) = leaves
could q = mild

-- The step is one of these operations, if it is one, and finds neither words nor monitors lacking.
abbrev pub IsOneOf : (Op → Bool) → Step → Type 0
IsOneOf ok (Does o r) = ok o ≡ true
IsOneOf ok (IsOver f) = is_lacking f ≡ false
IsOneOf ok s = Unit {0}

inside-turn : (f : StepFault) → IsFaultOfTurn f → is_lacking f ≡ false
inside-turn (fault.Full full) h = frames full.which h
  where
    frames : (w : Which) → IsLackOfFrames full.need full.left w → is_lack w ≡ false
    frames which.VolatileWords k = absurd k.0
    frames which.Monitors k = absurd k.0
    frames w k = refl
inside-turn f h = refl

-- a turn that ends the run by itself has a fault of its own
abbrev pub HasOwnFault : PlainRequest → Type 0
HasOwnFault (ask.Broken f) = IsFaultOfTurn f
HasOwnFault q = Unit {0}

pub own-fault : (set : SetFacts) (world : World) (t : ℕ) (q : PlainRequest) → IsFit set world t q
    → HasOwnFault q
own-fault set world t (ask.Broken f) fit = fit
own-fault set world t q fit = tt

module _ (set : SetFacts) (world : World) (t : ℕ) (ok : Op → Bool)
    (thrown : (n class : ℕ) → ok (op.Throw n class) ≡ true) where
  pub possible-if : (b : Bool) (y z : Step) → IsOneOf ok y → IsOneOf ok z → IsOneOf ok (if b then y else z)
  possible-if true y z p q = p
  possible-if false y z p q = q

  pub possible-object : (value : Value) (test : ℕ → Bool) (go : ℕ → Step) → ((n : ℕ) → IsOneOf ok (go n))
      → IsOneOf ok (Steps.with_object set world value test go)
  possible-object Null test go is = thrown (length world.heap.objects) _
  possible-object (Object n) test go is =
      possible-if (nat_lt n (length world.heap.objects) && test n) (go n) WrongOperand (is n) tt
  possible-object (Int i) test go is = tt
  possible-object (Long i) test go is = tt

  pub possible-reference : (value : Value) (null : Step) (go : ℕ → Step) → IsOneOf ok null
      → ((n : ℕ) → IsOneOf ok (go n)) → IsOneOf ok (Steps.with_reference set world value null go)
  possible-reference Null null go p is = p
  possible-reference (Object n) null go p is =
      possible-if (nat_lt n (length world.heap.objects)) (go n) WrongOperand (is n) tt
  possible-reference (Int i) null go p is = tt
  possible-reference (Long i) null go p is = tt

  pub possible-index : (n : ℕ) (index : ℤ) (past : Throws) (go : ℕ → Step) → ((i : ℕ) → IsOneOf ok (go i))
      → IsOneOf ok (Steps.with_index set world n index past go)
  possible-index n (pos i) past go is = possible-if _ (go i) (Steps.throws set world past) (is i) (thrown
      (length world.heap.objects) _)
  possible-index n (negsuc i) past go is = thrown (length world.heap.objects) _

  pub possible-progress : (class : ℕ) (progress : Option Progress) (go : Step)
      → ok (op.Init class stage.Begun) ≡ true → IsOneOf ok go
      → IsOneOf ok (Steps.with_progress set world t class progress go)
  possible-progress class None go first is = tt
  possible-progress class (Some Untouched) go first is = first
  possible-progress class (Some (BegunBy u)) go first is = possible-if (nat_eq u t) go _ is tt
  possible-progress class (Some Finished) go first is = is

module _ (set : SetFacts) (world : World) (t : ℕ) where
  possible-class : (class : ℕ) (go : Step) → IsOneOf begins go
      → IsOneOf begins (Steps.with_class set world t class go)
  possible-class class go is = possible-progress set world t begins (λ n c. refl) class
      (slice_get world.classes class) go refl is

  possible-array : (ok : Op → Bool) → ((n class : ℕ) → ok (op.Throw n class) ≡ true)
      → ((n class count : ℕ) → ok (op.Alloc n class count) ≡ true)
      → (shape : ℕ) (count : ℤ) → IsOneOf ok (Steps.new_array set world shape count)
  possible-array ok thrown made shape (pos count) = made (length world.heap.objects) shape count
  possible-array ok thrown made shape (negsuc n) = thrown (length world.heap.objects) _

  possible-compares : (same : Option Bool) → IsOneOf mild (Steps.compares set world same)
  possible-compares None = tt
  possible-compares (Some same) = refl

  possible-enters : (k : PlainKey) (m : Option Monitor) → IsOneOf enters (Steps.enters_held set world t k m)
  possible-enters k None = refl
  possible-enters k (Some m) = possible-if set world t enters (λ n c. refl) (nat_eq m.owner t) _ _ refl tt

  possible-exits : (k : PlainKey) (m : Option Monitor) → IsOneOf exits (Steps.exits_held set world t k m)
  possible-exits k None = refl
  possible-exits k (Some m) = possible-if set world t exits (λ n c. refl) (nat_eq m.owner t) _ _ refl refl

  possible-starts : (n : ℕ) (thread : Option (ℕ × Thread))
      → IsOneOf starts (Steps.starts_thread set world n thread)
  possible-starts n None =
      possible-if set world t starts (λ m c. refl) (nat_lt (length world.threads) most_threads)
      (Does (op.Start n (length world.threads)) reply.Done)
      (IsOver (fault.Full (record { which = which.Threads; need = 1; left = threads_left world.threads })))
      refl refl
  possible-starts n (Some started) = refl

  possible-joins : (n : ℕ) (thread : Option (ℕ × Thread)) → IsOneOf mild (Steps.joins_thread set world n
      thread)
  possible-joins n None = refl
  possible-joins n (Some started) =
      possible-if set world t mild (λ m c. refl) started.1.ended _ _ refl tt

  possible-ends : (depth : ℕ) → IsOneOf closes (Steps.ends_region set world depth)
  possible-ends zero = refl
  possible-ends (suc depth) = refl

  at-object : (ok : Op → Bool) → ((n class : ℕ) → ok (op.Throw n class) ≡ true)
      → (value : Value) (test : ℕ → Bool) (go : ℕ → Step) → ((n : ℕ) → IsOneOf ok (go n))
      → IsOneOf ok (Steps.with_object set world value test go)
  at-object ok thrown value test go is = possible-object set world t ok thrown value test go is

  -- what the step of a fit request may be
  pub possible : (taken : ℕ) (q : PlainRequest) → HasOwnFault q → IsOneOf (could q) (step set world t taken q)
  unfolding step
  possible taken ask.Pause fit = refl
  possible taken (ask.Broken f) fit = inside-turn f fit
  possible taken (ask.New from class) fit = possible-class class _ refl
  possible taken (ask.NewArray from shape count) fit =
      possible-array mild (λ n c. refl) (λ n c k. refl) shape count
  possible taken (ask.NewText from count) fit = possible-array mild (λ n c. refl) (λ n c k. refl) _ count
  possible taken (ask.GetStatic from field) fit = possible-class field.class _ refl
  possible taken (ask.PutStatic from field value) fit = possible-class field.class _ refl
  possible taken (ask.GetField from holder field) fit = at-object mild (λ n c. refl) holder _ _ (λ n. refl)
  possible taken (ask.PutField from holder field value) fit =
      at-object mild (λ n c. refl) holder _ _ (λ n. refl)
  possible taken (ask.GetElement from array index kind) fit = at-object mild (λ n c. refl) array _ _
      (λ n. possible-index set world t mild (λ m c. refl) n index _ _ (λ i. refl))
  possible taken (ask.PutElement from array index kind value) fit = at-object mild (λ n c. refl) array _ _
      (λ n. possible-index set world t mild (λ m c. refl) n index _ _
      (λ i. possible-if set world t mild (λ m c. refl) (Steps.may_store set world kind n value) _ _ refl
      refl))
  possible taken (ask.Length from array) fit = at-object mild (λ n c. refl) array _ _ (λ n. refl)
  possible taken (ask.ClassOf from object within) fit = at-object mild (λ n c. refl) object _ _ (λ n. refl)
  possible taken (ask.Cast from object target) fit =
      possible-reference set world t mild (λ m c. refl) object _ _ refl
      (λ n. possible-if set world t mild (λ m c. refl) (Steps.is_of set world target n) _ _ refl refl)
  possible taken (ask.IsA from object target) fit =
      possible-reference set world t mild (λ m c. refl) object _ _ refl (λ n. refl)
  possible taken (ask.Same from left right) fit = possible-compares _
  possible taken (ask.Enter from (key.Object object)) fit = at-object enters (λ n c. refl) object _ _
      (λ n. possible-enters (ObjectKey n) (held world.monitors (ObjectKey n)))
  possible taken (ask.Enter from (key.Class class)) fit =
      possible-enters (ClassKey class) (held world.monitors (ClassKey class))
  possible taken (ask.Exit from (key.Object object)) fit = at-object exits (λ n c. refl) object _ _
      (λ n. possible-exits (ObjectKey n) (held world.monitors (ObjectKey n)))
  possible taken (ask.Exit from (key.Class class)) fit =
      possible-exits (ClassKey class) (held world.monitors (ClassKey class))
  possible taken (ask.Start from thread) fit = at-object starts (λ n c. refl) thread _ _
      (λ n. possible-starts n (Steps.thread_of world n))
  possible taken (ask.Join from thread) fit = at-object mild (λ n c. refl) thread _ _
      (λ n. possible-joins n (Steps.thread_of world n))
  possible taken (ask.Init from class) fit = possible-class class _ refl
  possible taken (ask.InitDone from class) fit = refl
  possible taken (ask.Print from piece) fit = possible-if set world t mild (λ m c. refl)
      (nat_lt 0 taken && nat_le taken (length piece)) (Does (op.Print (take taken piece)) (reply.Printed
      taken))
      WrongOperand refl tt
  possible taken (ask.Raise from class) fit = refl
  possible taken (ask.Begin from) fit = refl
  possible taken (ask.End from) fit = possible-ends (depth_of world t)
  possible taken (ask.Leave uncaught) fit = refl

  -- a step's operation
  pub one-of : (ok : Op → Bool) (s : Step) (p : Op) → IsOneOf ok s → op_of s ≡ Some p → ok p ≡ true
  one-of ok (Does o r) p is e = let same : o ≡ p = cc in subst (λ x. ok x ≡ true) same is
  one-of ok (Waits on) p is e = absurd (let no = e in cc)
  one-of ok WrongOperand p is e = absurd (let no = e in cc)
  one-of ok (IsOver f) p is e = absurd (let no = e in cc)

pub mild-is : (b : Bool) → not b ≡ true → b ≡ false
mild-is true e = no-false e
mild-is false e = refl

-- only a request to start a thread starts one
abbrev pub asks_start : PlainRequest → Bool
asks_start (ask.Start from thread) = true
asks_start q = false

pub start-asked : (q : PlainRequest) (n child : ℕ) → could q (op.Start n child) ≡ true → asks_start q ≡ true
start-asked (ask.Start from thread) n child e = refl
start-asked q n child e = no-false e
