-- No plain step tells a link fault but one that is asked.
use Rattle.std.proofs.Common.{◌≡◌, ℕ, zero, suc, ℤ, pos, negsuc, ◌&&◌, Bool, true, false, length, nat_eq, nat_lt, nat_le}
use Rattle.std.proofs.Common.{Option, Some, None, ap, if◌then◌else◌, subst}
use Rattle.std.specs.Prelude.{slice_get}
use Rattle.run_types.specs.declared.key.Key.TheVariants as key
use Rattle.run_types.specs.declared.fault.LinkKind.{LinkKind}
use Rattle.run_types.specs.declared.fault.StepFault.{StepFault}
use Rattle.run_types.specs.declared.fault.StepFault.TheVariants as fault
use Rattle.run_types.specs.declared.fault.Which.TheVariants as which
use Rattle.graph_model.specs.declared.types.Value.{Value}
use Rattle.graph_model.specs.declared.types.Value.TheVariants.{Int, Long, Null, Obj as Object}
use Rattle.natives.specs.declared.requests.Request.TheVariants as ask
use Rattle.natives.specs.declared.requests.Reply.TheVariants as reply
use Rattle.run_history.specs.declared.act.Op.TheVariants as op
use Rattle.run_history.specs.declared.act.PlainKey.{PlainKey}
use Rattle.run_history.specs.declared.act.PlainKey.TheVariants.{Object as ObjectKey, Class as ClassKey}
use Rattle.run_history.specs.declared.plain.Monitor.{Monitor}
use Rattle.run_history.specs.declared.plain.Progress.{Progress}
use Rattle.run_history.specs.declared.plain.Progress.TheVariants.{Untouched, BegunBy, Finished}
use Rattle.run_history.specs.Worlds.{Thread, World, held, depth_of}
use Rattle.plain_model.specs.declared.throws.Throws.{Throws}
use Rattle.plain_model.specs.Facts.{SetFacts}
use Rattle.plain_model.specs.Limits.{most_threads, threads_left}
use Rattle.plain_model.specs.Requests.{PlainRequest}
use Rattle.plain_model.specs.Steps
use Rattle.plain_model.specs.Steps.{Step, Does, WrongOperand, IsOver, step}
use Rattle.link_faults.specs.LinkFaults.{StepsTellWhatIsAsked}

abbrev IsNoLink : StepFault → Type 0
IsNoLink (fault.LinkFault kind class index) = ⊥
IsNoLink f = Unit {0}

abbrev TellsNone : Step → Type 0
TellsNone (IsOver f) = IsNoLink f
TellsNone s = Unit {0}

-- any request but that of a turn that breaks
abbrev IsOther : PlainRequest → Type 0
IsOther (ask.Broken f) = ⊥
IsOther request = Unit {0}

module _ (set : SetFacts) (world : World) (t : ℕ) where
  quiet-if : (b : Bool) (y z : Step) → TellsNone y → TellsNone z → TellsNone (if b then y else z)
  quiet-if true y z p q = p
  quiet-if false y z p q = q

  quiet-object : (value : Value) (test : ℕ → Bool) (go : ℕ → Step) → ((n : ℕ) → TellsNone (go n))
      → TellsNone (Steps.with_object set world value test go)
  quiet-object Null test go is = tt
  quiet-object (Object n) test go is =
      quiet-if (nat_lt n (length world.heap.objects) && test n) (go n) WrongOperand (is n) tt
  quiet-object (Int i) test go is = tt
  quiet-object (Long i) test go is = tt

  quiet-reference : (value : Value) (null : Step) (go : ℕ → Step) → TellsNone null
      → ((n : ℕ) → TellsNone (go n)) → TellsNone (Steps.with_reference set world value null go)
  quiet-reference Null null go p is = p
  quiet-reference (Object n) null go p is =
      quiet-if (nat_lt n (length world.heap.objects)) (go n) WrongOperand (is n) tt
  quiet-reference (Int i) null go p is = tt
  quiet-reference (Long i) null go p is = tt

  quiet-index : (n : ℕ) (index : ℤ) (past : Throws) (go : ℕ → Step) → ((i : ℕ) → TellsNone (go i))
      → TellsNone (Steps.with_index set world n index past go)
  quiet-index n (pos i) past go is = quiet-if _ (go i) (Steps.throws set world past) (is i) tt
  quiet-index n (negsuc i) past go is = tt

  quiet-progress : (class : ℕ) (progress : Option Progress) (go : Step) → TellsNone go
      → TellsNone (Steps.with_progress set world t class progress go)
  quiet-progress class None go is = tt
  quiet-progress class (Some Untouched) go is = tt
  quiet-progress class (Some (BegunBy u)) go is = quiet-if (nat_eq u t) go _ is tt
  quiet-progress class (Some Finished) go is = is

  quiet-class : (class : ℕ) (go : Step) → TellsNone go → TellsNone (Steps.with_class set world t class go)
  quiet-class class go is = quiet-progress class (slice_get world.classes class) go is

  quiet-array : (shape : ℕ) (count : ℤ) → TellsNone (Steps.new_array set world shape count)
  quiet-array shape (pos count) = tt
  quiet-array shape (negsuc n) = tt

  quiet-compares : (same : Option Bool) → TellsNone (Steps.compares set world same)
  quiet-compares None = tt
  quiet-compares (Some same) = tt

  quiet-enters : (k : PlainKey) (m : Option Monitor) → TellsNone (Steps.enters_held set world t k m)
  quiet-enters k None = tt
  quiet-enters k (Some m) = quiet-if (nat_eq m.owner t) _ _ tt tt

  quiet-exits : (k : PlainKey) (m : Option Monitor) → TellsNone (Steps.exits_held set world t k m)
  quiet-exits k None = tt
  quiet-exits k (Some m) = quiet-if (nat_eq m.owner t) _ _ tt tt

  quiet-starts : (n : ℕ) (thread : Option (ℕ × Thread)) → TellsNone (Steps.starts_thread set world n thread)
  quiet-starts n None =
      quiet-if (nat_lt (length world.threads) most_threads)
      (Does (op.Start n (length world.threads)) reply.Done)
      (IsOver (fault.Full (record { which = which.Threads; need = 1; left = threads_left world.threads })))
      tt tt
  quiet-starts n (Some started) = tt

  quiet-joins : (n : ℕ) (thread : Option (ℕ × Thread)) → TellsNone (Steps.joins_thread set world n thread)
  quiet-joins n None = tt
  quiet-joins n (Some started) = quiet-if started.1.ended _ _ tt tt

  quiet-ends : (depth : ℕ) → TellsNone (Steps.ends_region set world depth)
  quiet-ends zero = tt
  quiet-ends (suc depth) = tt

  quiet : (taken : ℕ) (request : PlainRequest) → IsOther request → TellsNone (step set world t taken request)
  unfolding step
  quiet taken ask.Pause asked = tt
  quiet taken (ask.Broken f) asked = absurd asked
  quiet taken (ask.New from class) asked = quiet-class class _ tt
  quiet taken (ask.NewArray from shape count) asked = quiet-array shape count
  quiet taken (ask.NewText from count) asked = quiet-array _ count
  quiet taken (ask.GetStatic from field) asked = quiet-class field.class _ tt
  quiet taken (ask.PutStatic from field value) asked = quiet-class field.class _ tt
  quiet taken (ask.GetField from holder field) asked = quiet-object holder _ _ (λ n. tt)
  quiet taken (ask.PutField from holder field value) asked = quiet-object holder _ _ (λ n. tt)
  quiet taken (ask.GetElement from array index kind) asked =
      quiet-object array _ _ (λ n. quiet-index n index _ _ (λ i. tt))
  quiet taken (ask.PutElement from array index kind value) asked =
      quiet-object array _ _ (λ n. quiet-index n index _ _
      (λ i. quiet-if (Steps.may_store set world kind n value) _ _ tt tt))
  quiet taken (ask.Length from array) asked = quiet-object array _ _ (λ n. tt)
  quiet taken (ask.ClassOf from object within) asked = quiet-object object _ _ (λ n. tt)
  quiet taken (ask.Cast from object target) asked =
      quiet-reference object _ _ tt (λ n. quiet-if (Steps.is_of set world target n) _ _ tt tt)
  quiet taken (ask.IsA from object target) asked = quiet-reference object _ _ tt (λ n. tt)
  quiet taken (ask.Same from left right) asked = quiet-compares _
  quiet taken (ask.Enter from (key.Object object)) asked =
      quiet-object object _ _ (λ n. quiet-enters (ObjectKey n) (held world.monitors (ObjectKey n)))
  quiet taken (ask.Enter from (key.Class class)) asked =
      quiet-enters (ClassKey class) (held world.monitors (ClassKey class))
  quiet taken (ask.Exit from (key.Object object)) asked =
      quiet-object object _ _ (λ n. quiet-exits (ObjectKey n) (held world.monitors (ObjectKey n)))
  quiet taken (ask.Exit from (key.Class class)) asked =
      quiet-exits (ClassKey class) (held world.monitors (ClassKey class))
  quiet taken (ask.Start from thread) asked =
      quiet-object thread _ _ (λ n. quiet-starts n (Steps.thread_of world n))
  quiet taken (ask.Join from thread) asked =
      quiet-object thread _ _ (λ n. quiet-joins n (Steps.thread_of world n))
  quiet taken (ask.Init from class) asked = quiet-class class _ tt
  quiet taken (ask.InitDone from class) asked = tt
  quiet taken (ask.Print from piece) asked =
      quiet-if (nat_lt 0 taken && nat_le taken (length piece)) _ _ tt tt
  quiet taken (ask.Raise from class) asked = tt
  quiet taken (ask.Begin from) asked = tt
  quiet taken (ask.End from) asked = quiet-ends (depth_of world t)
  quiet taken (ask.Leave uncaught) asked = tt

  asked_itself : (f g : StepFault) → IsOver f ≡ IsOver g → ◌≡◌ {A = PlainRequest} (ask.Broken f) (ask.Broken g)
  asked_itself f g e = let same : f ≡ g = cc in ap (λ h. ask.Broken h) same

  broken : (taken : ℕ) (f g : StepFault) → step set world t taken (ask.Broken f) ≡ IsOver g
      → ◌≡◌ {A = PlainRequest} (ask.Broken f) (ask.Broken g)
  unfolding step
  broken taken f g e = asked_itself f g e

  told : (taken : ℕ) (request : PlainRequest) (kind : LinkKind) (class index : ℕ)
      → step set world t taken request ≡ IsOver (fault.LinkFault kind class index)
      → request ≡ ask.Broken (fault.LinkFault kind class index)
  told taken (ask.Broken f) kind class index e = broken taken f (fault.LinkFault kind class index) e
  told taken request kind class index e = absurd (subst TellsNone e (quiet taken request tt))

pub steps_tell : StepsTellWhatIsAsked
steps_tell set world t taken request kind class index e = told set world t taken request kind class index e
