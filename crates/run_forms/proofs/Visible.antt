-- No step does an operation of persistence, only a print's step prints, and no step finds that the outside
-- failed.
use Rattle.std.proofs.Common.{◌≡◌, ℕ, zero, suc, ℤ, pos, negsuc, ◌&&◌, Bool, true, false, List, length, take, nat_eq, nat_lt}
use Rattle.std.proofs.Common.{nat_le, Option, Some, None, refl, if◌then◌else◌, subst}
use Rattle.std.specs.Prelude.{slice_get}
use Rattle.run_types.specs.declared.key.Key.TheVariants as key
use Rattle.graph_model.specs.declared.types.Value.{Value}
use Rattle.graph_model.specs.declared.types.Value.TheVariants.{Int, Long, Null, Obj as Object}
use Rattle.natives.specs.declared.requests.Request.TheVariants as ask
use Rattle.natives.specs.declared.requests.Reply.TheVariants as reply
use Rattle.run_history.specs.declared.act.Op.{Op}
use Rattle.run_history.specs.declared.act.Op.TheVariants as op
use Rattle.run_types.specs.declared.fault.RunFault.{RunFault}
use Rattle.run_types.specs.declared.fault.RunFault.TheVariants as fault
use Rattle.run_types.specs.declared.fault.StepFault.{StepFault}
use Rattle.run_types.specs.declared.fault.StepFault.TheVariants as met
use Rattle.run_types.specs.Faults.{run_fault}
use Rattle.run_types.specs.declared.resolved.At.{At}
use Rattle.run_types.specs.declared.fault.Which.TheVariants as which
use Rattle.plain_model.specs.Limits.{most_threads, threads_left}
use Rattle.run_history.specs.declared.act.PlainKey.{PlainKey}
use Rattle.run_history.specs.declared.act.PlainKey.TheVariants.{Object as ObjectKey, Class as ClassKey}
use Rattle.run_history.specs.declared.plain.Monitor.{Monitor}
use Rattle.run_history.specs.declared.plain.Progress.{Progress}
use Rattle.run_history.specs.declared.plain.Progress.TheVariants.{Untouched, BegunBy, Finished}
use Rattle.run_history.specs.Worlds.{Thread, World, held, depth_of}
use Rattle.plain_model.specs.declared.throws.Throws.{Throws}
use Rattle.plain_model.specs.Facts.{SetFacts}
use Rattle.plain_model.specs.Requests.{PlainRequest, PlainReply}
use Rattle.plain_model.specs.Steps
use Rattle.plain_model.specs.Steps.{Step, Does, Waits, WrongOperand, IsOver, step}
use Rattle.plain_model.specs.Codes.{is_persistent}
use Rattle.plain_model.specs.Duties.{IsFaultOfTurn, IsFit}

-- faults of the sink and of the image
abbrev pub is_outside : RunFault → Bool
is_outside fault.SinkFault = true
is_outside fault.ImageFault = true
is_outside f = false

abbrev pub is_print : Op → Bool
is_print (op.Print bytes) = true
is_print o = false

abbrev pub prints : PlainRequest → Bool
prints (ask.Print from piece) = true
prints request = false

abbrev does_visible : Step → Type 0
does_visible (Does o r) = is_persistent o ≡ false
does_visible s = Unit {0}

module _ (set : SetFacts) (world : World) (t : ℕ) where
  -- a step that does something does what is visible, and doesn't print; a fault is none of the outside
  abbrev IsVisible : Step → Type 0
  IsVisible (Does o r) = (is_persistent o ≡ false) × (is_print o ≡ false)
  IsVisible (IsOver f) = is_outside (run_fault f) ≡ false
  IsVisible s = Unit {0}

  visible-if : (b : Bool) (y z : Step) → IsVisible y → IsVisible z → IsVisible (if b then y else z)
  visible-if true y z p q = p
  visible-if false y z p q = q

  visible-object : (value : Value) (test : ℕ → Bool) (go : ℕ → Step) → ((n : ℕ) → IsVisible (go n))
      → IsVisible (Steps.with_object set world value test go)
  visible-object Null test go is = (refl, refl)
  visible-object (Object n) test go is =
      visible-if (nat_lt n (length world.heap.objects) && test n) (go n) WrongOperand (is n) tt
  visible-object (Int i) test go is = tt
  visible-object (Long i) test go is = tt

  visible-reference : (value : Value) (null : Step) (go : ℕ → Step) → IsVisible null
      → ((n : ℕ) → IsVisible (go n)) → IsVisible (Steps.with_reference set world value null go)
  visible-reference Null null go p is = p
  visible-reference (Object n) null go p is =
      visible-if (nat_lt n (length world.heap.objects)) (go n) WrongOperand (is n) tt
  visible-reference (Int i) null go p is = tt
  visible-reference (Long i) null go p is = tt

  visible-index : (n : ℕ) (index : ℤ) (past : Throws) (go : ℕ → Step) → ((i : ℕ) → IsVisible (go i))
      → IsVisible (Steps.with_index set world n index past go)
  visible-index n (pos i) past go is = visible-if _ (go i) (Steps.throws set world past) (is i) (refl, refl)
  visible-index n (negsuc i) past go is = (refl, refl)

  visible-progress : (class : ℕ) (progress : Option Progress) (go : Step) → IsVisible go
      → IsVisible (Steps.with_progress set world t class progress go)
  visible-progress class None go is = tt
  visible-progress class (Some Untouched) go is = (refl, refl)
  visible-progress class (Some (BegunBy u)) go is = visible-if (nat_eq u t) go _ is tt
  visible-progress class (Some Finished) go is = is

  visible-class : (class : ℕ) (go : Step) → IsVisible go → IsVisible (Steps.with_class set world t class go)
  visible-class class go is = visible-progress class (slice_get world.classes class) go is

  visible-array : (shape : ℕ) (count : ℤ) → IsVisible (Steps.new_array set world shape count)
  visible-array shape (pos count) = (refl, refl)
  visible-array shape (negsuc n) = (refl, refl)

  visible-compares : (same : Option Bool) → IsVisible (Steps.compares set world same)
  visible-compares None = tt
  visible-compares (Some same) = (refl, refl)

  visible-enters : (k : PlainKey) (m : Option Monitor) → IsVisible (Steps.enters_held set world t k m)
  visible-enters k None = (refl, refl)
  visible-enters k (Some m) = visible-if (nat_eq m.owner t) _ _ (refl, refl) tt

  visible-exits : (k : PlainKey) (m : Option Monitor) → IsVisible (Steps.exits_held set world t k m)
  visible-exits k None = (refl, refl)
  visible-exits k (Some m) = visible-if (nat_eq m.owner t) _ _ (refl, refl) (refl, refl)

  visible-starts : (n : ℕ) (thread : Option (ℕ × Thread)) → IsVisible (Steps.starts_thread set world n thread)
  visible-starts n None =
      visible-if (nat_lt (length world.threads) most_threads)
      (Does (op.Start n (length world.threads)) reply.Done)
      (IsOver (met.Full (record { which = which.Threads; need = 1; left = threads_left world.threads })))
      (refl, refl) refl
  visible-starts n (Some started) = (refl, refl)

  visible-joins : (n : ℕ) (thread : Option (ℕ × Thread)) → IsVisible (Steps.joins_thread set world n thread)
  visible-joins n None = (refl, refl)
  visible-joins n (Some started) = visible-if started.1.ended _ _ (refl, refl) tt

  visible-ends : (depth : ℕ) → IsVisible (Steps.ends_region set world depth)
  visible-ends zero = (refl, refl)
  visible-ends (suc depth) = (refl, refl)

  no-print : {P : Type 0} → true ≡ false → P
  no-print e = absurd (let no : true ≡ false = e in cc)

  inside-turn : (f : StepFault) → IsFaultOfTurn f → is_outside (run_fault f) ≡ false
  inside-turn (met.BadCode from) h = refl
  inside-turn (met.RegionRace u v place) h = refl
  inside-turn (met.Full full) h = refl
  inside-turn met.SinkFault h = absurd h
  inside-turn met.ImageFault h = absurd h
  inside-turn (met.LinkFault kind class index) h = refl

  visible : (taken : ℕ) (request : PlainRequest) → IsFit set world t request → prints request ≡ false
      → IsVisible (step set world t taken request)
  unfolding step
  visible taken ask.Pause fit e = (refl, refl)
  visible taken (ask.Broken f) fit e = inside-turn f fit
  visible taken (ask.New from class) fit e = visible-class class _ (refl, refl)
  visible taken (ask.NewArray from shape count) fit e = visible-array shape count
  visible taken (ask.NewText from count) fit e = visible-array _ count
  visible taken (ask.GetStatic from field) fit e = visible-class field.class _ (refl, refl)
  visible taken (ask.PutStatic from field value) fit e = visible-class field.class _ (refl, refl)
  visible taken (ask.GetField from holder field) fit e = visible-object holder _ _ (λ n. (refl, refl))
  visible taken (ask.PutField from holder field value) fit e = visible-object holder _ _ (λ n. (refl, refl))
  visible taken (ask.GetElement from array index kind) fit e =
      visible-object array _ _ (λ n. visible-index n index _ _ (λ i. (refl, refl)))
  visible taken (ask.PutElement from array index kind value) fit e =
      visible-object array _ _ (λ n. visible-index n index _ _
      (λ i. visible-if (Steps.may_store set world kind n value) _ _ (refl, refl) (refl, refl)))
  visible taken (ask.Length from array) fit e = visible-object array _ _ (λ n. (refl, refl))
  visible taken (ask.ClassOf from object within) fit e = visible-object object _ _ (λ n. (refl, refl))
  visible taken (ask.Cast from object target) fit e =
      visible-reference object _ _ (refl, refl) (λ n. visible-if (Steps.is_of set world target n) _ _ (refl, refl) (refl, refl))
  visible taken (ask.IsA from object target) fit e = visible-reference object _ _ (refl, refl) (λ n. (refl, refl))
  visible taken (ask.Same from left right) fit e = visible-compares _
  visible taken (ask.Enter from (key.Object object)) fit e =
      visible-object object _ _ (λ n. visible-enters (ObjectKey n) (held world.monitors (ObjectKey n)))
  visible taken (ask.Enter from (key.Class class)) fit e =
      visible-enters (ClassKey class) (held world.monitors (ClassKey class))
  visible taken (ask.Exit from (key.Object object)) fit e =
      visible-object object _ _ (λ n. visible-exits (ObjectKey n) (held world.monitors (ObjectKey n)))
  visible taken (ask.Exit from (key.Class class)) fit e =
      visible-exits (ClassKey class) (held world.monitors (ClassKey class))
  visible taken (ask.Start from thread) fit e =
      visible-object thread _ _ (λ n. visible-starts n (Steps.thread_of world n))
  visible taken (ask.Join from thread) fit e =
      visible-object thread _ _ (λ n. visible-joins n (Steps.thread_of world n))
  visible taken (ask.Init from class) fit e = visible-class class _ (refl, refl)
  visible taken (ask.InitDone from class) fit e = (refl, refl)
  visible taken (ask.Print from piece) fit e = no-print e
  visible taken (ask.Raise from class) fit e = (refl, refl)
  visible taken (ask.Begin from) fit e = (refl, refl)
  visible taken (ask.End from) fit e = visible-ends (depth_of world t)
  visible taken (ask.Leave uncaught) fit e = (refl, refl)

  visible-print : (taken : ℕ) (from : At) (piece : List ℕ) (o : Op) (r : PlainReply)
      → step set world t taken (ask.Print from piece) ≡ Does o r → is_persistent o ≡ false
  unfolding step
  visible-print taken from piece o r e =
      by-test (nat_lt 0 taken && nat_le taken (length piece)) e
    where
      by-test : (b : Bool)
          → (if b then Does (op.Print (take taken piece)) (reply.Printed taken) else WrongOperand) ≡ Does o r
          → is_persistent o ≡ false
      by-test true e = let IsSo : Step → Type 0 = does_visible in subst IsSo e refl
      by-test false e = absurd (let no = e in cc)

  pub step-silent : (taken : ℕ) (request : PlainRequest) (o : Op) (r : PlainReply)
      → IsFit set world t request → prints request ≡ false
      → step set world t taken request ≡ Does o r → (is_persistent o ≡ false) × (is_print o ≡ false)
  step-silent taken request o r fit silent e = subst IsVisible e (visible taken request fit silent)

  pub step-visible : (taken : ℕ) (request : PlainRequest) (o : Op) (r : PlainReply)
      → IsFit set world t request → step set world t taken request ≡ Does o r → is_persistent o ≡ false
  step-visible taken (ask.Print from piece) o r fit e = visible-print taken from piece o r e
  step-visible taken request o r fit e = (step-silent taken request o r fit refl e).0

  print-inside : (taken : ℕ) (from : At) (piece : List ℕ) (f : StepFault)
      → step set world t taken (ask.Print from piece) ≡ IsOver f → is_outside (run_fault f) ≡ false
  unfolding step
  print-inside taken from piece f e = by-test (nat_lt 0 taken && nat_le taken (length piece)) e
    where
      by-test : (b : Bool)
          → (if b then Does (op.Print (take taken piece)) (reply.Printed taken) else WrongOperand) ≡ IsOver f
          → is_outside (run_fault f) ≡ false
      by-test true e = absurd (let no = e in cc)
      by-test false e = absurd (let no = e in cc)

  pub step-inside : (taken : ℕ) (request : PlainRequest) (f : StepFault)
      → IsFit set world t request → step set world t taken request ≡ IsOver f → is_outside (run_fault f) ≡ false
  step-inside taken (ask.Print from piece) f fit e = print-inside taken from piece f e
  step-inside taken request f fit e = subst IsVisible e (visible taken request fit refl)
