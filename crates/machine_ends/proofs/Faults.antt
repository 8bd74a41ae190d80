-- The fault of a step is that by which the event ends the plain run, and a step that does an operation met
-- none; of a thread that owes no fence.
use Rattle.std.proofs.Common.{◌≡◌, ℕ, ◌<◌, ◌≤◌, Bool, true, false, List, length, nat_le}
use Rattle.std.proofs.Common.{Option, Some, None, inl, inr, refl, ap, sym, subst, ◌∙◌, arith, if◌then◌else◌}
use Rattle.std.proofs.lemmas.Bool.Decides.{nat_tests}
use Rattle.ap_base.specs.declared.place.Place.{Place}
use Rattle.ap_base.specs.declared.reference.Ref.{Ref}
use Rattle.ap_base.specs.declared.reference.Item.{Item}
use Rattle.run_types.specs.declared.fault.RunFault.{RunFault}
use Rattle.run_types.specs.declared.fault.RunFault.TheVariants as fault
use Rattle.run_types.specs.declared.fault.StepFault.{StepFault}
use Rattle.run_types.specs.declared.fault.StepFault.TheVariants as met
use Rattle.run_types.specs.Faults.{run_fault}
use Rattle.run_types.specs.declared.fault.Which.{Which}
use Rattle.run_types.specs.declared.fault.Which.TheVariants as which
use Rattle.graph_model.specs.declared.types.Root.{Root}
use Rattle.graph_model.specs.declared.types.Value.{Value}
use Rattle.natives.specs.declared.requests.Request.{Request}
use Rattle.natives.specs.declared.requests.Reply.{Reply}
use Rattle.natives.specs.declared.requests.Reply.TheVariants as reply
use Rattle.run_history.specs.declared.act.Op.{Op}
use Rattle.run_history.specs.declared.act.Op.TheVariants as op
use Rattle.run_history.specs.declared.plain.Monitor.{Monitor}
use Rattle.run_history.specs.Recorded.{Recorded}
use Rattle.run_history.specs.Worlds.{World, held}
use Rattle.run_history.specs.Knowing.{Knowledge, owes_fence}
use Rattle.plain_model.specs.Requests.{PlainRequest}
use Rattle.plain_model.specs.Limits.{words_made, words_left, monitors_left}
use Rattle.plain_model.specs.Steps.{Step, Does, Waits, WrongOperand, IsOver, step}
use Rattle.plain_model.specs.Codes.{taken_by}
use Rattle.plain_model.specs.Duties.{IsFit}
use Rattle.plain_model.specs.Ends.{full, full_unless, bad_code, fault_of_op}
use Rattle.plain_model.specs.Ends.{fault_of_words, fault_of_enter, fault_of_store, Prints}
use Rattle.shared_objects.specs.declared.rest.Rest.{Rest}
use Rattle.shared_objects.specs.Shown.{Shown}
use Rattle.shared_objects.specs.Plain.{plain_request, plain_reply}
use Rattle.shared_objects.specs.Worlds.{world_of}
use Rattle.step_forms.specs.declared.stepped.Stepped.{Stepped}
use Rattle.step_forms.specs.declared.stepped.Stepped.TheVariants as stepped
use Rattle.step_forms.specs.Follows.{FindsMonitor, IsStep, IsFullOf, IsLimit, DoesPrint, TakesWords, words_of_step}
use Rattle.run_forms.specs.Standing.{Launch, IsAsked, known_at}
use Rattle.run_forms.specs.Ends.{IsEndedBy, Ends, MeetsNoFault}
use Rattle.run_forms.proofs.Visible.{is_outside, prints, step-silent, step-inside}
use Rattle.machine_ends.proofs.Rooms.{requests as asked_after, fault_here, fault_so, has-room, paid-steps}
use Rattle.machine_ends.proofs.Steps.{no-false, none-some, wrong-asks, printing, print-does, taken-one}

-- What the faults of thread t's steps depend on: the thread owes no fence, heap and rest show the plain run's
-- world, and what is left of the words is what the limits leave.
pub record ShowsRun (launch : Launch) (acts : List Recorded) (shown : Shown) (rest : Rest) (t : ℕ)
    : Type 0 where
  pub roots : List Root
  pub world : (known_at launch acts).world ≡ world_of roots shown rest
  pub words : words_left launch.limits launch.opening (known_at launch acts).world.heap ≡ shown.left
  pub paid : owes_fence (known_at launch acts).unfenced t ≡ false

-- it is no store, or one that meets no fault by what is known
abbrev pub MeetsNone : Launch → List Recorded → ℕ → Op → Type 0
MeetsNone launch acts t (op.Stored place value) = fault_of_store launch.set launch.opening launch.limits
    (known_at launch acts) t place value ≡ None
MeetsNone launch acts t o = Unit {0}

if-none : {X : Type 0} (b : Bool) (x : Option X) → x ≡ None → (if b then None else x) ≡ None
if-none true x e = refl
if-none false x e = e

module _ (launch : Launch) (acts : List Recorded) (shown : Shown) (rest : Rest) (lines t : ℕ)
    (q : Request Ref Item) (asked : IsAsked launch acts shown rest t q)
    (here : ShowsRun launch acts shown rest t) (room : length acts < launch.limits.acts) where
  abbrev known : Knowledge
  known = known_at launch acts

  abbrev requests : ℕ → Option PlainRequest
  requests = asked_after launch acts lines t

  abbrev pq : PlainRequest
  pq = plain_request shown.number q

  abbrev fault_now : Option RunFault
  fault_now = fault_here launch acts lines t

  abbrev fault_by : Step → Option RunFault
  fault_by s = fault_so launch acts lines t pq s

  abbrev world : World
  world = world_of here.roots shown rest

  -- what is fit doesn't depend on the durable roots
  fit-shown : IsFit launch.set world t pq
  fit-shown = asked.fit

  step-here : step launch.set known.world t 1 pq ≡ step launch.set world t 1 pq
  step-here = ap (λ w. step launch.set w t 1 pq) here.world

  tells-of : (s : Step) → step launch.set world t 1 pq ≡ s → fault_now ≡ fault_by s
  tells-of s e = paid-steps launch acts lines t room pq asked.plain here.paid ∙ ap fault_by (step-here ∙ e)

  comes : (f : RunFault) → is_outside f ≡ false → fault_now ≡ Some f → IsEndedBy launch lines acts t f
  comes (fault.BadCode from) inside e = inl e
  comes (fault.RegionRace u v place) inside e = inl e
  comes (fault.Full it) inside e = inl e
  comes fault.SinkFault inside e = no-false inside
  comes fault.ImageFault inside e = no-false inside
  comes (fault.Stuck waits) inside e = inl e
  comes (fault.LinkFault kind class index) inside e = inl e

  -- ---- limits

  unless-fewer : (w : Which) (need there : ℕ) → there < need
      → full_unless w need there ≡ Some (full w need there)
  unless-fewer w need there short =
      let so : nat_le need there ≡ false = grind (arith, nat_tests) in
      ap (λ b. if b then None else Some (full w need there)) so

  words-fault : (o : Op) (need : ℕ) → words_made known.world.heap o ≡ Some need
      → fault_of_op launch.set launch.opening launch.limits known t o
      ≡ fault_of_words launch.set launch.opening launch.limits known (Some need)
  words-fault (op.Stored place v) need e = none-some need e
  words-fault (op.Enter key) need e = none-some need e
  words-fault o need e = ap (fault_of_words launch.set launch.opening launch.limits known) e

  full-words : (s : Step) → step launch.set world t 1 pq ≡ s → (need there : ℕ)
      → words_of_step world.heap s ≡ Some need → there ≡ shown.left → shown.left < need
      → fault_now ≡ Some (full which.VolatileWords need there)
  full-words (Does o r) e need there made is_left short =
      tells-of (Does o r) e
      ∙ words-fault o need (ap (λ (w : World). words_made w.heap o) here.world ∙ made)
      ∙ ap (full_unless which.VolatileWords need) here.words
      ∙ unless-fewer which.VolatileWords need shown.left short
      ∙ ap (λ n. Some (full which.VolatileWords need n)) (sym is_left)
  full-words (Waits on) e need there made is_left short = none-some need made
  full-words WrongOperand e need there made is_left short = none-some need made
  full-words (IsOver f) e need there made is_left short = none-some need made

  full-of : (w : Which) (need there : ℕ)
      → IsFullOf world shown.left (step launch.set world t 1 pq)
      (record { which = w; need = need; left = there }) w
      → fault_now ≡ Some (full w need there)
  full-of which.VolatileWords need there h =
      full-words (step launch.set world t 1 pq) refl need there h.need h.left h.short
  full-of which.Monitors need there h =
      let (k, does, free) = h.takes in
      tells-of (Does (op.Enter k) _) does
      ∙ ap (λ (w : World). fault_of_enter launch.set launch.opening launch.limits known
      (held w.monitors k)) here.world
      ∙ ap (fault_of_enter launch.set launch.opening launch.limits known) free
      ∙ ap (λ (w : World). full_unless which.Monitors 1 (monitors_left w.monitors)) here.world
      ∙ unless-fewer which.Monitors 1 (monitors_left world.monitors)
      (omega (arith, h.short, h.need, h.left))
      ∙ (λ i. Some (full which.Monitors (sym h.need i) (sym h.left i)))
  full-of which.ImageLines need there h = absurd h
  full-of which.LogEntries need there h = absurd h
  full-of which.Threads need there h = absurd h
  full-of which.FrameSlots need there h = absurd h
  full-of which.Acts need there h = absurd h
  full-of which.DirectoryWords need there h = absurd h
  full-of which.Roots need there h = absurd h
  full-of which.Files need there h = absurd h
  full-of which.FileBytes need there h = absurd h

  -- only a print prints
  prints-it : (s : Step) → step launch.set world t 1 pq ≡ s → DoesPrint s → prints pq ≡ true
  prints-it (Does (op.Print bytes) r) e is_print_step = by-test (prints pq) refl
    where
      by-test : (b : Bool) → prints pq ≡ b → b ≡ true
      by-test true p = refl
      by-test false p =
          absurd (let no : true ≡ false =
          (step-silent launch.set world t 1 pq (op.Print bytes) r fit-shown p e).1 in cc)
  prints-it (Waits on) e h = absurd h
  prints-it WrongOperand e h = absurd h
  prints-it (IsOver f) e h = absurd h
  prints-it (Does o r) e h = absurd h

  print-faultless : (s : Step) → DoesPrint s → fault_by s ≡ None
  print-faultless (Does (op.Print bytes) r) h = refl
  print-faultless (Waits on) h = absurd h
  print-faultless WrongOperand h = absurd h
  print-faultless (IsOver f) h = absurd h
  print-faultless (Does o r) h = absurd h

  limit-comes : (f : StepFault) → IsLimit world shown.left (step launch.set world t 1 pq) f
      → IsEndedBy launch lines acts t (run_fault f)
  limit-comes (met.Full it) h = inl (full-of it.which it.need it.left h)
  limit-comes met.SinkFault h = (
    subst Prints (sym asked.plain) (printing pq (prints-it (step launch.set world t 1 pq) refl h)),
    tells-of (step launch.set world t 1 pq) refl ∙ print-faultless (step launch.set world t 1 pq) h,
    here.paid,
  )
  limit-comes (met.BadCode from) h = absurd h
  limit-comes (met.RegionRace u v place) h = absurd h
  limit-comes met.ImageFault h = absurd h
  limit-comes (met.LinkFault kind class index) h = absurd h

  -- ---- steps

  pub step-ends : (result : Stepped) (now : Shown) (rest_now : Rest)
      → IsStep launch.set t q shown rest result now rest_now
      → Ends launch lines acts t q result
  step-ends (stepped.Did o r) now rest_now steps = tt
  step-ends stepped.Wrong now rest_now steps =
      let wrong = (steps.follows here.roots).0 1 in
      let (from, own, seen) = wrong-asks launch.set world t _ _ q wrong in
      (from, own, comes (fault.BadCode from) refl (tells-of WrongOperand wrong ∙ ap bad_code seen))
  step-ends (stepped.Over f) now rest_now steps =
      elim (steps.follows here.roots).0 [
        | inl limit ↦ limit-comes f limit
        | inr over ↦
            comes (run_fault f) (step-inside launch.set world t 1 pq f fit-shown (over 1)) (tells-of (IsOver f) (over 1))
      ]
  step-ends (stepped.Waits on) now rest_now steps = tt

  -- ---- no fault

  -- the fault of a store
  pub store-ends : (place : Place) (value : Value) (f : RunFault) → is_outside f ≡ false
      → step launch.set world t 1 pq ≡ Does (op.Stored place value) reply.Done
      → fault_of_store launch.set launch.opening launch.limits known t place value ≡ Some f
      → IsEndedBy launch lines acts t f
  store-ends place value f inside does met =
      comes f inside (tells-of (Does (op.Stored place value) reply.Done) does ∙ met)

  pub store-meets-none : (place : Place) (value : Value)
      → step launch.set world t 1 pq ≡ Does (op.Stored place value) reply.Done
      → MeetsNone launch acts t (op.Stored place value) → MeetsNoFault launch lines acts t
  store-meets-none place value does met =
      (has-room launch acts lines t room, tells-of (Does (op.Stored place value) reply.Done) does ∙ met)

  pub end-meets-none : step launch.set world t 1 pq ≡ Does op.End reply.Done
      → MeetsNoFault launch lines acts t
  end-meets-none does = (has-room launch acts lines t room, tells-of (Does op.End reply.Done) does)

  enough : (w : Which) (need there : ℕ) → need ≤ there → full_unless w need there ≡ None
  enough w need there fit =
      let so : nat_le need there ≡ true = grind (arith, nat_tests) in
      ap (λ b. if b then None else Some (full w need there)) so

  words-none : (made : Option ℕ) (left_now : ℕ) → TakesWords made shown.left left_now
      → fault_of_words launch.set launch.opening launch.limits known made ≡ None
  words-none None left_now takes = refl
  words-none (Some need) left_now takes =
      ap (full_unless which.VolatileWords need) here.words
      ∙ enough which.VolatileWords need shown.left takes.0

  enter-met : (m : Option Monitor) → (m ≡ None → 0 < monitors_left world.monitors)
      → fault_of_enter launch.set launch.opening launch.limits known m ≡ None
  enter-met (Some m) found = refl
  enter-met None found =
      ap (λ (w : World). full_unless which.Monitors 1 (monitors_left w.monitors)) here.world
      ∙ enough which.Monitors 1 (monitors_left world.monitors) (found refl)

  op-met : (o : Op) (r : Reply Ref Item) (left_now : ℕ) → MeetsNone launch acts t o
      → TakesWords (words_made world.heap o) shown.left left_now → FindsMonitor world (stepped.Did o r)
      → fault_of_op launch.set launch.opening launch.limits known t o ≡ None
  op-met (op.Stored place value) r left_now met takes found = met
  op-met (op.Enter key) r left_now met takes found =
      ap (λ (w : World). fault_of_enter launch.set launch.opening launch.limits known (held w.monitors key))
      here.world
      ∙ enter-met (held world.monitors key) found
  op-met o r left_now met takes found =
      ap (λ (w : World). fault_of_words launch.set launch.opening launch.limits known (words_made w.heap o))
      here.world
      ∙ words-none (words_made world.heap o) left_now takes

  module _ (o : Op) (r : Reply Ref Item) (now : Shown) (rest_now : Rest)
      (steps : IsStep launch.set t q shown rest (stepped.Did o r) now rest_now)
      (met : MeetsNone launch acts t o) where
    does : step launch.set world t (taken_by o) pq ≡ Does o (plain_reply now.number r)
    does = (steps.follows here.roots).0

    no-fault : (b : Bool) → prints pq ≡ b → fault_now ≡ None
    no-fault true is =
        tells-of (step launch.set world t 1 pq) refl ∙ print-faultless (step launch.set world t 1 pq)
        (print-does launch.set world t (taken_by o) pq o (plain_reply now.number r) is does)
    no-fault false is =
        let one : taken_by o ≡ 1 = taken-one o (step-silent launch.set world t (taken_by o) pq o
        (plain_reply now.number r) fit-shown is does).1 in
        let so : fault_now ≡ fault_of_op launch.set launch.opening launch.limits known t o =
        tells-of (Does o (plain_reply now.number r)) (subst (λ n. step launch.set world t n pq
        ≡ Does o (plain_reply now.number r)) one does) in
        so ∙ op-met o r now.left met steps.words steps.monitor

    pub step-meets-none : MeetsNoFault launch lines acts t
    step-meets-none = (has-room launch acts lines t room, no-fault (prints pq) refl)
