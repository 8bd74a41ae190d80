-- What is told of a step before it is made.
use Rattle.std.proofs.Common.{◌≡◌, ℕ, zero, suc, ◌<◌, ◌≤◌, Bool, true, false, nat_eq, List, [], length, Option, Some, None, refl, ap, sym, subst, ◌∙◌}
use Rattle.std.proofs.Common.{inl, inr, arith, if◌then◌else◌}
use Rattle.std.specs.Prelude.{slice_get, IfSome}
use Rattle.std.specs.Option.{is_some}
use Rattle.ap_base.specs.declared.reference.Ref.{Ref}
use Rattle.ap_base.specs.declared.reference.Item.{Item}
use Rattle.run_types.specs.declared.resolved.At.{At}
use Rattle.run_types.specs.declared.resolved.FieldAt.{FieldAt}
use Rattle.run_types.specs.declared.fault.Full.{Full}
use Rattle.run_types.specs.declared.fault.StepFault.{StepFault}
use Rattle.run_types.specs.declared.fault.StepFault.TheVariants as fault
use Rattle.run_types.specs.declared.fault.Which.{Which}
use Rattle.run_types.specs.declared.fault.Which.TheVariants as which
use Rattle.run_types.specs.declared.wait.On.TheVariants as on
use Rattle.ap_base.specs.declared.place.Place.TheVariants.{Slot}
use Rattle.graph_model.specs.declared.types.Root.{Root}
use Rattle.graph_model.specs.declared.types.Heap.{Heap}
use Rattle.natives.specs.declared.requests.Request.{Request}
use Rattle.natives.specs.declared.requests.Request.TheVariants as ask
use Rattle.natives.specs.declared.requests.Reply.{Reply}
use Rattle.run_history.specs.declared.act.Op.{Op}
use Rattle.run_history.specs.declared.act.Op.TheVariants as op
use Rattle.run_history.specs.declared.plain.Progress.{Progress}
use Rattle.run_history.specs.declared.plain.Progress.TheVariants.{Untouched, BegunBy, Finished}
use Rattle.run_history.specs.Worlds.{World, depth_of}
use Rattle.plain_model.specs.declared.throws.Throws.TheVariants as exception
use Rattle.plain_model.specs.Duties.{IsFit}
use Rattle.plain_model.specs.Facts.{SetFacts, classes_of}
use Rattle.plain_model.specs.Requests.{PlainRequest}
use Rattle.plain_model.specs.Runs.{op_given, request_after}
use Rattle.run_history.specs.Recorded.{Recorded}
use Rattle.run_forms.specs.Standing.{Launch, known_at, plain_code}
use Rattle.plain_model.specs.Steps
use Rattle.plain_model.specs.Steps.{Step, Does, Waits, WrongOperand, IsOver, op_of, step}
use Rattle.shared_objects.specs.declared.rest.Rest.{Rest}
use Rattle.shared_objects.specs.Shown.{Shown, item_value}
use Rattle.shared_objects.specs.Plain.{plain_request}
use Rattle.shared_objects.specs.Threads.{depth_at}
use Rattle.shared_objects.specs.Worlds.{KnowsMonitors, heap_of, world_of}
use Rattle.step_forms.specs.declared.stepped.Stepped.{Stepped}
use Rattle.step_forms.specs.declared.stepped.Stepped.TheVariants as stepped
use Rattle.step_forms.specs.Becomes.{IsNoStore, IsQuiet, Becomes, given}
use Rattle.step_forms.specs.Follows.{DoesPrint, IsFullOf, IsLimit, IsStep, words_of_step}
use Rattle.step_forms.proofs.Becoming.{quiet_no_store}
use Rattle.world_steps.proofs.Running.{depth_plain}
use Rattle.lasting_steps.proofs.Storing.{IsOther, NoStore, no-store}
use Rattle.object_steps.specs.declared.storing.Store.{Store}
use Rattle.object_steps.specs.declared.storing.Planned.{Planned}
use Rattle.object_steps.specs.declared.storing.Planned.TheVariants as planned
use Rattle.object_steps.specs.Stores.{IfEnds, IsPlan, IsStaticPlan, PlanBecomes}
use Rattle.plain_heap.specs.declared.heap.PlainHeap.{PlainHeap}
use Rattle.plain_heap.specs.Heaps.{shown_back, shown_of}
use Rattle.plain_machine.specs.Foreseeing.{op_begun, op_raised, step_in}
use Rattle.plain_machine.specs.Ops.{asks_print}
use Rattle.plain_machine.specs.Telling.{EndsUnstored, IfUndone, IsAwaited, MakesStore, PlansTo, awaited, begins_class, op_stored}
use Rattle.plain_machine.specs.Trying.{IsKept, with_left}
use Rattle.plain_machine.proofs.Possible.{HasOwnFault, IsOneOf, could, no-false, no-true, own-fault, possible, possible-if}
use Rattle.plain_machine.proofs.Possible.{possible-index, possible-object}
use Rattle.plain_machine.proofs.Keeping.{kept-both}
use Rattle.plain_machine.proofs.Making.{closed-kept}

none-some : {X P : Type 0} (v : X) → ◌≡◌ {A = Option X} None (Some v) → P
none-some v e = absurd (let no = e in cc)

-- ---- requests that store nothing and end no region

-- the request is no End
abbrev IsNoEnd : PlainRequest → Type 0
IsNoEnd (ask.End from) = ⊥
IsNoEnd q = Unit {0}

could-not-end : (q : PlainRequest) → IsNoEnd q → could q op.End ≡ false
could-not-end (ask.End from) other = absurd other
could-not-end q other = refl

silent-step : (s : Step) → NoStore s → (ok : Op → Bool) → ok op.End ≡ false → IsOneOf ok s → awaited (op_of s) ≡ None
silent-step (Does (op.Stored place value) r) none ok ends is = absurd (none tt)
silent-step (Does op.End r) none ok ends is = no-false (sym ends ∙ is)
silent-step (Does o r) none ok ends is = refl
silent-step (Waits on) none ok ends is = refl
silent-step WrongOperand none ok ends is = refl
silent-step (IsOver f) none ok ends is = refl

given-other : (number : Ref → Option ℕ) (q : Request Ref Item) → given q ≡ None → IsOther (plain_request number q)
given-other number (ask.PutStatic from field value) e = none-some value (sym e)
given-other number (ask.PutField from holder field value) e = none-some value (sym e)
given-other number (ask.PutElement from array index kind value) e = none-some value (sym e)
given-other number q e = tt

no-end : (number : Ref → Option ℕ) (q : Request Ref Item) → ((from : At) → q ≡ ask.End from → ⊥)
    → IsNoEnd (plain_request number q)
no-end number (ask.End from) other = other from refl
no-end number q other = tt

pub others-await : (set : SetFacts) (shown : Shown) (rest : Rest) (t : ℕ) (q : Request Ref Item)
    → IsFit set (world_of [] shown rest) t (plain_request shown.number q) → given q ≡ None
    → ((from : At) → q ≡ ask.End from → ⊥) → IsAwaited set shown rest t q None
others-await set shown rest t q fit none other roots =
    let p = plain_request shown.number q in
    let s = step_in set roots shown rest t 1 q in
    sym (silent-step s (no-store set (world_of roots shown rest) t 1 p (given-other shown.number q none)) (could p)
    (could-not-end p (no-end shown.number q other))
    (possible set (world_of roots shown rest) t 1 p (own-fault set (world_of [] shown rest) t p fit)))

-- ---- ends

raised-awaits : (set : SetFacts) (world : World) (depth : ℕ)
    → op_raised depth ≡ awaited (op_of (Steps.ends_region set world depth))
raised-awaits set world zero = refl
raised-awaits set world (suc depth) = refl

pub ends-await : (set : SetFacts) (shown : Shown) (rest : Rest) (t : ℕ) (from : At)
    → IsAwaited set shown rest t (ask.End from) (op_raised (depth_at rest.threads t))
unfolding step
ends-await set shown rest t from roots =
    subst (λ d. op_raised (depth_at rest.threads t) ≡ awaited (op_of (Steps.ends_region set (world_of roots shown rest) d)))
    (sym (depth_plain rest.threads t)) (raised-awaits set (world_of roots shown rest) (depth_at rest.threads t))

-- ---- a class that is begun first

begun-awaits : (set : SetFacts) (world : World) (t class : ℕ) (progress : Option Progress) (go : Step)
    → is_some (op_begun class progress) ≡ true → awaited (op_of (Steps.with_progress set world t class progress go)) ≡ None
begun-awaits set world t class None go e = refl
begun-awaits set world t class (Some Untouched) go e = refl
begun-awaits set world t class (Some (BegunBy u)) go e = no-false e
begun-awaits set world t class (Some Finished) go e = no-false e

pub class-awaits : (set : SetFacts) (shown : Shown) (rest : Rest) (t : ℕ) (q : Request Ref Item)
    → begins_class rest.classes.items q ≡ true → IsAwaited set shown rest t q None
unfolding step
class-awaits set shown rest t (ask.PutStatic from field value) e roots =
    sym (begun-awaits set (world_of roots shown rest) t field.class (slice_get rest.classes.items field.class) _ e)
class-awaits set shown rest t q e roots = no-false e

-- ---- requests that store

-- a store, or a throwable
abbrev puts : Op → Bool
puts (op.Stored place value) = true
puts (op.Throw n class) = true
puts o = false

past-class : (set : SetFacts) (world : World) (t class : ℕ) (progress : Option Progress) (go : Step)
    → is_some (op_begun class progress) ≡ false → IsOneOf puts go
    → IsOneOf puts (Steps.with_progress set world t class progress go)
past-class set world t class None go e is = tt
past-class set world t class (Some Untouched) go e is = no-true e
past-class set world t class (Some (BegunBy u)) go e is =
    possible-if set world t puts (λ n c. refl) (nat_eq u t) go (Waits (on.Init u)) is tt
past-class set world t class (Some Finished) go e is = is

pub puts-or-throws : (set : SetFacts) (shown : Shown) (rest : Rest) (t : ℕ) (q : Request Ref Item) → (given q ≡ None → ⊥)
    → begins_class rest.classes.items q ≡ false
    → (roots : List Root) (taken : ℕ) → IsOneOf puts (step_in set roots shown rest t taken q)
unfolding step
puts-or-throws set shown rest t (ask.PutStatic from field value) some begun roots taken =
    past-class set (world_of roots shown rest) t field.class (slice_get rest.classes.items field.class) _ begun refl
puts-or-throws set shown rest t (ask.PutField from holder field value) some begun roots taken =
    possible-object set (world_of roots shown rest) t puts (λ n c. refl) _ _ _ (λ n. refl)
puts-or-throws set shown rest t (ask.PutElement from array index kind value) some begun roots taken =
    possible-object set (world_of roots shown rest) t puts (λ n c. refl) _ _ _
    (λ n. possible-index set (world_of roots shown rest) t puts (λ m c. refl) n _ _ _
    (λ i. by-test (Steps.may_store set (world_of roots shown rest) kind n (item_value shown.number value))
    (Steps.stores set (world_of roots shown rest) (Steps.own_kind set (world_of roots shown rest) kind n) (Slot n i)
    (item_value shown.number value)) (Steps.throws set (world_of roots shown rest) exception.ArrayStore) refl refl))
  where
    by-test : (b : Bool) (y z : Step) → IsOneOf puts y → IsOneOf puts z → IsOneOf puts (if b then y else z)
    by-test true y z p r = p
    by-test false y z p r = r
puts-or-throws set shown rest t q some begun roots taken = absurd (some refl)

-- ---- steps that are over

words-await : (heap : Heap) (plain : Step) (n : ℕ) → words_of_step heap plain ≡ Some n → awaited (op_of plain) ≡ None
words-await heap (Does (op.Alloc n shape count) r) m e = refl
words-await heap (Does (op.Throw n class) r) m e = refl
words-await heap (Does o r) m e = none-some m e
words-await heap (Waits on) m e = none-some m e
words-await heap WrongOperand m e = none-some m e
words-await heap (IsOver f) m e = none-some m e

print-awaits : (plain : Step) → DoesPrint plain → awaited (op_of plain) ≡ None
print-awaits (Does (op.Print bytes) r) is = refl
print-awaits (Does o r) is = absurd is
print-awaits (Waits on) is = absurd is
print-awaits WrongOperand is = absurd is
print-awaits (IsOver f) is = absurd is

full-awaits : (world : World) (left : ℕ) (plain : Step) (full : Full) (w : Which) → IsFullOf world left plain full w
    → awaited (op_of plain) ≡ None
full-awaits world left plain full which.VolatileWords h = words-await world.heap plain full.need h.need
full-awaits world left plain full which.Monitors h = ap (λ s. awaited (op_of s)) h.takes.1
full-awaits world left plain full w h = absurd h

limit-awaits : (world : World) (left : ℕ) (plain : Step) (f : StepFault) → IsLimit world left plain f
    → awaited (op_of plain) ≡ None
limit-awaits world left plain (fault.Full full) h = full-awaits world left plain full full.which h
limit-awaits world left plain fault.SinkFault h = print-awaits plain h
limit-awaits world left plain f h = absurd h

-- what is left of a step that is over, in a heap without room
module _ (set : SetFacts) (t : ℕ) (q : Request Ref Item) (before : Shown) (rest : Rest) (now : Shown) (rest_now : Rest)
    (full : before.left ≡ 0)
    (does : (roots : List Root) (taken : ℕ) → IsOneOf puts (step_in set roots before rest t taken q)) where
  undone : (o : Op) (r : Reply Ref Item) → IsStep set t q before rest (stepped.Did o r) now rest_now
      → IsNoStore (stepped.Did o r) → puts o ≡ true → ⊥
  undone (op.Stored place value) r is none p = none
  undone (op.Throw n class) r is none p = omega (arith, is.words.0, full)
  undone o r is none p = no-false p

  over-kept : now ≡ before → ((roots : List Root) → world_of roots now rest_now ≡ world_of roots before rest)
      → KnowsMonitors now rest_now → IsKept before rest now rest_now
  over-kept same world monitors = record {
    shown = ap (λ (s : Shown). with_left s now.left) same;
    world = world;
    monitors = monitors;
  }

  pub over : (result : Stepped) → EndsUnstored set t q before rest result now rest_now
      → IsKept before rest now rest_now × IsAwaited set before rest t q None
  over (stepped.Did o r) h =
      let e = (h.step.follows []).0 in
      absurd (undone o r h.step h.no_store (subst (IsOneOf puts) e (does [] _)))
  over (stepped.Waits on) h = (
    over-kept h.same_heap (λ roots. (h.step.follows roots).1) h.step.monitors,
    λ roots. sym (ap (λ s. awaited (op_of s)) ((h.step.follows roots).0 1)),
  )
  over stepped.Wrong h = (
    over-kept h.same_heap (λ roots. (h.step.follows roots).1) h.step.monitors,
    λ roots. sym (ap (λ s. awaited (op_of s)) ((h.step.follows roots).0 1)),
  )
  over (stepped.Over f) h = (
    over-kept h.same_heap (λ roots. (h.step.follows roots).1) h.step.monitors,
    λ roots. sym (elim ((h.step.follows roots).0) [
      | inl limit ↦ limit-awaits (world_of roots before rest) before.left (step_in set roots before rest t 1 q) f limit
      | inr is ↦ ap (λ s. awaited (op_of s)) (is 1)
    ]),
  )

-- ---- plans

undone-becomes : (before now : PlainHeap) (result : Stepped)
    → Becomes shown_of (λ (h : PlainHeap) place item (n : PlainHeap). shown_back n ≡ shown_of h)
    (λ (h n : PlainHeap). shown_back n ≡ shown_of h) before result now
    → IfUndone result (shown_of now ≡ shown_of before)
undone-becomes before now (stepped.Did o r) h = tt
undone-becomes before now (stepped.Waits on) h = ap shown_of h
undone-becomes before now stepped.Wrong h = ap shown_of h
undone-becomes before now (stepped.Over f) h = ap shown_of h

undone-same : (shown : Shown) (result : Stepped) → IfUndone result (shown ≡ shown)
undone-same shown (stepped.Did o r) = tt
undone-same shown (stepped.Waits on) = refl
undone-same shown stepped.Wrong = refl
undone-same shown (stepped.Over f) = refl

module _ (set : SetFacts) (t : ℕ) (asked : Request Ref Item) (request : At → Request Ref Item) (from : At)
    (is : asked ≡ request from) where
  pub plans-slot : (before now : PlainHeap) (rest : Rest) (plan : Planned) → KnowsMonitors (shown_of before) rest
      → IsPlan set request (shown_of before) plan (shown_of now)
      → PlanBecomes shown_of (λ (h : PlainHeap) place item (n : PlainHeap). shown_back n ≡ shown_of h)
      (λ (h n : PlainHeap). shown_back n ≡ shown_of h) before plan now
      → IfEnds plan IsNoStore → PlansTo set t asked (shown_of before) rest (shown_of now) rest plan
  plans-slot before now rest plan known is_plan becomes none = subst (λ (q : Request Ref Item).
      PlansTo set t q (shown_of before) rest (shown_of now) rest plan) (sym is) (own plan is_plan becomes none)
    where
      own : (p : Planned) → IsPlan set request (shown_of before) p (shown_of now)
          → PlanBecomes shown_of (λ (h : PlainHeap) place item (n : PlainHeap). shown_back n ≡ shown_of h)
          (λ (h n : PlainHeap). shown_back n ≡ shown_of h) before p now
          → IfEnds p IsNoStore → PlansTo set t (request from) (shown_of before) rest (shown_of now) rest p
      own (planned.Stores store) pl b n = record {
        same_heap = ap shown_of b;
        same_rest = refl;
        known = pl.1.known;
        does = λ roots. ap op_of (pl.0 t 1 roots rest from);
      }
      own (planned.Ends result) pl b n =
          record { step = pl t rest from known; no_store = n; same_heap = undone-becomes before now result b }

  pub plans-static : (before : Shown) (rest rest_now : Rest) (plan : Planned) → KnowsMonitors before rest
      → IsStaticPlan t request before rest plan rest_now → IfEnds plan IsQuiet
      → PlansTo set t asked before rest before rest_now plan
  plans-static before rest rest_now plan known is_plan quiet = subst (λ (q : Request Ref Item).
      PlansTo set t q before rest before rest_now plan) (sym is) (own plan is_plan quiet)
    where
      own : (p : Planned) → IsStaticPlan t request before rest p rest_now → IfEnds p IsQuiet
          → PlansTo set t (request from) before rest before rest_now p
      own (planned.Stores store) pl h = record {
        same_heap = refl;
        same_rest = pl.2;
        known = pl.1.known;
        does = λ roots. ap op_of (pl.0 set 1 roots from);
      }
      own (planned.Ends result) pl h = record {
        step = pl set from known;
        no_store = quiet_no_store result h;
        same_heap = undone-same before result;
      }

-- the class of a static field is there
pub class-there : (set : SetFacts) (shown : Shown) (rest : Rest) (t : ℕ) (q : Request Ref Item)
    → IsFit set (world_of [] shown rest) t (plain_request shown.number q) → length rest.classes.items ≡ length (classes_of set)
    → (from : At) (field : FieldAt) (value : Item) → q ≡ ask.PutStatic from field value → field.class < length rest.classes.items
class-there set shown rest t q fit long from field value is =
    let f = subst (λ (r : Request Ref Item). IsFit set (world_of [] shown rest) t (plain_request shown.number r)) is fit in
    let below = f.0.0 in
    omega (arith, below, long)

-- a thread that asks nothing does nothing
pub none-awaits : (launch : Launch) (acts : List Recorded) (t : ℕ)
    → request_after launch.set launch.main launch.opening (plain_code launch) acts t ≡ None
    → None ≡ awaited (op_given launch.set (known_at launch acts).world t 1
    (request_after launch.set launch.main launch.opening (plain_code launch) acts t))
none-awaits launch acts t none =
    sym (ap (λ (r : Option PlainRequest). awaited (op_given launch.set (known_at launch acts).world t 1 r)) none)

-- ---- from a heap that has no room any more

module _ (set : SetFacts) (t : ℕ) (q : Request Ref Item) (before : Shown) (rest : Rest) (start : Shown)
    (closed : start ≡ with_left before 0) (monitors : KnowsMonitors before rest) where
  awaited-before : (told : Option Op) → IsAwaited set start rest t q told → IsAwaited set before rest t q told
  awaited-before told is roots = subst (λ (s : Shown). IsAwaited set s rest t q told) closed is roots

  kept-start : IsKept before rest start rest
  kept-start = closed-kept before rest start closed monitors

  pub store-awaited : (store : Store) (now : Shown) (rest_now : Rest) (told : Op) → MakesStore set t q start rest store now rest_now
      → told ≡ op_stored now store → IsKept before rest now rest_now × IsAwaited set before rest t q (Some told)
  store-awaited store now rest_now told makes is = (
    subst (λ (s : Shown). IsKept before rest s rest_now) (sym makes.same_heap)
        (subst (λ (r : Rest). IsKept before rest start r) (sym makes.same_rest) kept-start),
    awaited-before (Some told) (λ roots. ap Some (is ∙ ap (λ (s : Shown). op_stored s store) makes.same_heap)
        ∙ ap awaited (sym (makes.does roots))),
  )

  pub end-awaited : (result : Stepped) (now : Shown) (rest_now : Rest) → EndsUnstored set t q start rest result now rest_now
      → (given q ≡ None → ⊥) → begins_class rest.classes.items q ≡ false
      → IsKept before rest now rest_now × IsAwaited set before rest t q None
  end-awaited result now rest_now ends some begun =
      let both = over set t q start rest now rest_now (ap (λ (s : Shown). s.left) closed)
      (puts-or-throws set start rest t q some begun) result ends in
      (kept-both before rest start rest now rest_now kept-start both.0, awaited-before None both.1)
