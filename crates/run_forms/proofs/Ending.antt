-- The fault of a step is that by which the event ends the plain run, and a step that does an operation met none.
use Rattle.std.proofs.Common.{◌≡◌, ℕ, zero, suc, ◌-◌, ◌<◌, ◌≤◌, ◌&&◌, Bool, true, false, List, [], ◌∷◌, length}
use Rattle.std.proofs.Common.{drop, take, nat_le, nat_lt, sum_by, Option, Some, None, inl, inr, refl, ap}
use Rattle.std.proofs.Common.{sym, subst, ◌∙◌, arith, if◌then◌else◌}
use Rattle.std.proofs.lemmas.Bool.Decides.{nat_tests}
use Rattle.ap_base.specs.declared.reference.Ref.{Ref}
use Rattle.ap_base.specs.declared.reference.Item.{Item}
use Rattle.run_types.specs.declared.fault.RunFault.{RunFault}
use Rattle.run_types.specs.declared.fault.RunFault.TheVariants as fault
use Rattle.run_types.specs.declared.fault.StepFault.{StepFault}
use Rattle.run_types.specs.declared.fault.StepFault.TheVariants as met
use Rattle.run_types.specs.Faults.{run_fault}
use Rattle.run_types.specs.declared.fault.Which.{Which}
use Rattle.run_types.specs.declared.fault.Which.TheVariants as which
use Rattle.run_types.specs.declared.resolved.At.{At}
use Rattle.graph_model.specs.declared.types.Value.{Value}
use Rattle.natives.specs.declared.requests.Request.{Request}
use Rattle.natives.specs.declared.requests.Request.TheVariants as ask
use Rattle.natives.specs.declared.requests.Reply.{Reply}
use Rattle.natives.specs.declared.requests.Reply.TheVariants as reply
use Rattle.run_history.specs.declared.act.Op.{Op}
use Rattle.run_history.specs.declared.act.Op.TheVariants as op
use Rattle.run_history.specs.declared.plain.Monitor.{Monitor}
use Rattle.run_history.specs.Recorded.{Recorded}
use Rattle.run_history.specs.Worlds.{World, held}
use Rattle.run_history.specs.Knowing.{Knowledge, guard_of, owes_fence}
use Rattle.plain_model.specs.Facts.{SetFacts}
use Rattle.plain_model.specs.First.{first_known}
use Rattle.plain_model.specs.Requests.{PlainReply, PlainRequest, from_of}
use Rattle.plain_model.specs.Limits.{words_of, words_made, words_left, acts_left, monitors_left}
use Rattle.plain_model.specs.Steps.{Step, Does, Waits, WrongOperand, IsOver, step}
use Rattle.plain_model.specs.Codes.{taken_by}
use Rattle.plain_model.specs.Runs.{request_after}
use Rattle.plain_model.specs.Duties.{IsFit}
use Rattle.plain_model.specs.Ends.{full, full_unless, bad_code, fault_of_op}
use Rattle.plain_model.specs.Ends.{fault_of_words, fault_of_enter, fault_of_durable_store, fault_of_step, fault_of_request}
use Rattle.plain_model.specs.Ends.{fault_after, Prints}
use Rattle.plain_model.proofs.Within.{each_act_leaves_a_mark}
use Rattle.frames.specs.Maps.{map_request}
use Rattle.shared_objects.specs.declared.rest.Rest.{Rest}
use Rattle.shared_objects.specs.Shown.{Shown}
use Rattle.shared_objects.specs.Plain.{plain_request, plain_reply}
use Rattle.shared_objects.specs.Worlds.{world_of}
use Rattle.step_forms.specs.declared.stepped.Stepped.{Stepped}
use Rattle.step_forms.specs.declared.stepped.Stepped.TheVariants as stepped
use Rattle.step_forms.specs.Follows.{FindsMonitor, IsStep, IsFullOf, IsLimit, DoesPrint, TakesWords, words_of_step}
use Rattle.run_forms.specs.Views.{ThreadFrames}
use Rattle.run_forms.specs.Standing.{Launch, IsLaunch, IsAsking, plain_code, known_at}
use Rattle.run_forms.specs.Volatile.{IsVolatile}
use Rattle.run_forms.specs.Ends.{IsEndedBy, Ends, MeetsNoFault, from_in}
use Rattle.run_forms.proofs.Asked.{BuiltIns, asked, fit-here}
use Rattle.run_forms.proofs.Visible.{is_outside, is_print, prints, step-silent, step-inside}
use Rattle.run_forms.proofs.Volatile.{not-durable}

no-false : {P : Type 0} → true ≡ false → P
no-false e = absurd (let no : true ≡ false = e in cc)

none-some : {X : Type 0} (v : X) {P : Type 0} → ◌≡◌ {A = Option X} None (Some v) → P
none-some v e = absurd (let no = e in cc)

-- an instruction that finds a wrong operand asks
wrong-from : (set : SetFacts) (world : World) (t : ℕ) (f : Ref → Value) (h : Item → Value) (q : Request Ref Item)
    → step set world t 1 (map_request f h q) ≡ WrongOperand
    → (from : At) × (from_in q ≡ Some from) × (from_of (map_request f h q) ≡ Some from)
unfolding step
wrong-from set world t f h ask.Pause e = absurd (let no = e in cc)
wrong-from set world t f h (ask.Broken b) e = absurd (let no = e in cc)
wrong-from set world t f h (ask.Leave uncaught) e = absurd (let no = e in cc)
wrong-from set world t f h (ask.New from class) e = (from, refl, refl)
wrong-from set world t f h (ask.NewArray from shape count) e = (from, refl, refl)
wrong-from set world t f h (ask.NewText from count) e = (from, refl, refl)
wrong-from set world t f h (ask.GetStatic from field) e = (from, refl, refl)
wrong-from set world t f h (ask.PutStatic from field v) e = (from, refl, refl)
wrong-from set world t f h (ask.GetField from r field) e = (from, refl, refl)
wrong-from set world t f h (ask.PutField from r field v) e = (from, refl, refl)
wrong-from set world t f h (ask.GetElement from r index k) e = (from, refl, refl)
wrong-from set world t f h (ask.PutElement from r index k v) e = (from, refl, refl)
wrong-from set world t f h (ask.Length from r) e = (from, refl, refl)
wrong-from set world t f h (ask.ClassOf from r within) e = (from, refl, refl)
wrong-from set world t f h (ask.Cast from r target) e = (from, refl, refl)
wrong-from set world t f h (ask.IsA from r target) e = (from, refl, refl)
wrong-from set world t f h (ask.Same from l r) e = (from, refl, refl)
wrong-from set world t f h (ask.Enter from k) e = (from, refl, refl)
wrong-from set world t f h (ask.Exit from k) e = (from, refl, refl)
wrong-from set world t f h (ask.Start from r) e = (from, refl, refl)
wrong-from set world t f h (ask.Join from r) e = (from, refl, refl)
wrong-from set world t f h (ask.Init from class) e = (from, refl, refl)
wrong-from set world t f h (ask.InitDone from class) e = (from, refl, refl)
wrong-from set world t f h (ask.Print from piece) e = (from, refl, refl)
wrong-from set world t f h (ask.Raise from class) e = (from, refl, refl)
wrong-from set world t f h (ask.Begin from) e = (from, refl, refl)
wrong-from set world t f h (ask.End from) e = (from, refl, refl)

printing : (q : PlainRequest) → prints q ≡ true → Prints (Some q)
printing (ask.Print from piece) e = (from, piece, refl)
printing q e = absurd (let no : false ≡ true = e in cc)

-- where a print does anything, one of a single byte does
print-does : (set : SetFacts) (world : World) (t taken : ℕ) (q : PlainRequest) (o : Op) (r : PlainReply)
    → prints q ≡ true → step set world t taken q ≡ Does o r → DoesPrint (step set world t 1 q)
unfolding step
print-does set world t zero (ask.Print from []) o r is e = absurd (let no = e in cc)
print-does set world t (suc taken) (ask.Print from []) o r is e =
    let below : nat_lt 0 (suc taken) ≡ true = grind (arith, nat_tests) in
    let none : nat_le (suc taken) 0 ≡ false = grind (arith, nat_tests) in
    absurd (let no : WrongOperand ≡ Does o r =
    sym (λ i. if below i && none i then Does (op.Print (take (suc taken) [])) (reply.Printed (suc taken))
    else WrongOperand) ∙ e in cc)
print-does set world t taken (ask.Print from (byte ∷ bytes)) o r is e =
    let one : nat_le 1 (suc (length bytes)) ≡ true = grind (arith, nat_tests) in
    subst (λ b. DoesPrint (if b then Does (op.Print (byte ∷ [])) (reply.Printed 1) else WrongOperand)) (sym one) tt
print-does set world t taken q o r is e = absurd (let no : false ≡ true = is in cc)

taken-one : (o : Op) → is_print o ≡ false → taken_by o ≡ 1
taken-one (op.Print bytes) e = no-false e
taken-one o e = refl

module _ (laws : BuiltIns) (launch : Launch) (calls : ℕ) (acts : List Recorded) (shown : Shown) (rest : Rest)
    (threads : List ThreadFrames) (is : IsLaunch launch)
    (here : IsVolatile launch calls acts shown rest threads)
    (lines t : ℕ) (fs : ThreadFrames) (q : Request Ref Item) (asking : IsAsking launch rest threads t fs q) where
  abbrev known : Knowledge
  known = known_at launch acts

  abbrev requests : ℕ → Option PlainRequest
  requests = request_after launch.set launch.main launch.opening (plain_code launch) acts

  abbrev pq : PlainRequest
  pq = plain_request shown.number q

  abbrev left : ℕ
  left = acts_left launch.limits known

  abbrev fault_here : Option RunFault
  fault_here = fault_after launch.set launch.main launch.opening (plain_code launch) launch.limits lines acts t

  abbrev fault_so : Step → Option RunFault
  fault_so s = fault_of_step launch.set launch.opening launch.limits known requests t pq s

  asks-here : requests t ≡ Some pq
  asks-here = (asked laws launch acts shown rest threads is here.stands t fs q asking).plain

  fits : IsFit launch.set known.world t pq
  fits = fit-here laws launch acts shown rest threads is here.stands t fs q asking

  marks-are : length known.marks ≡ length acts
  marks-are =
      let e = each_act_leaves_a_mark (first_known launch.set launch.opening) acts in omega (arith, e)

  owes-none : owes_fence known.unfenced t ≡ false
  owes-none = ap (λ us. owes_fence us t) here.nothing.unfenced

  opens : fault_here ≡ (if nat_le 1 left then (if owes_fence known.unfenced t then None
      else fault_so (step launch.set known.world t 1 pq)) else Some (full which.Acts 1 left))
  opens = ap (fault_of_request launch.set launch.opening launch.limits known requests t) asks-here

  pub full-history : launch.limits.acts ≤ length acts
      → IsEndedBy launch lines acts t (full which.Acts 1 0)
  full-history enough =
      let none : left ≡ 0 = omega (arith, enough, marks-are) in
      inl (opens ∙ ap (λ n. if nat_le 1 n then (if owes_fence known.unfenced t then None
      else fault_so (step launch.set known.world t 1 pq)) else Some (full which.Acts 1 n)) none)

  module _ (room : length acts < launch.limits.acts) where
    tells : fault_here ≡ fault_so (step launch.set known.world t 1 pq)
    tells =
        let some : 1 ≤ left = omega (arith, room, marks-are) in
        let so : nat_le 1 left ≡ true = grind (arith, nat_tests) in
        opens ∙ ap (λ b. if b then (if owes_fence known.unfenced t then None
        else fault_so (step launch.set known.world t 1 pq)) else Some (full which.Acts 1 left)) so
        ∙ ap (λ b. if b then None else fault_so (step launch.set known.world t 1 pq)) owes-none

    comes : (f : RunFault) → is_outside f ≡ false → fault_here ≡ Some f → IsEndedBy launch lines acts t f
    comes (fault.BadCode from) inside e = inl e
    comes (fault.RegionRace u v place) inside e = inl e
    comes (fault.Full it) inside e = inl e
    comes fault.SinkFault inside e = no-false inside
    comes fault.ImageFault inside e = no-false inside
    comes (fault.Stuck waits) inside e = inl e
    comes (fault.LinkFault kind class index) inside e = inl e

    -- ---- limits

    unless-fewer : (w : Which) (need there : ℕ) → there < need → full_unless w need there ≡ Some (full w need there)
    unless-fewer w need there short =
        let so : nat_le need there ≡ false = grind (arith, nat_tests) in
        ap (λ b. if b then None else Some (full w need there)) so

    words-fault : (o : Op) (need : ℕ) → words_made known.world.heap o ≡ Some need
        → fault_of_op launch.set launch.opening launch.limits known t o
        ≡ fault_of_words launch.set launch.opening launch.limits known (Some need)
    words-fault (op.Stored place v) need e = none-some need e
    words-fault (op.Enter key) need e = none-some need e
    words-fault o need e = ap (fault_of_words launch.set launch.opening launch.limits known) e

    words-there : words_left launch.limits launch.opening known.world.heap ≡ shown.left
    words-there =
        ap (λ (w : World). words_left launch.limits launch.opening w.heap) here.stands.world
        ∙ ap (λ nodes. launch.limits.heap_words
        - sum_by words_of (drop (length nodes) shown.objects)) here.nodes
        ∙ sym here.words

    abbrev world : World
    world = world_of here.stands.roots shown rest

    step-here : step launch.set known.world t 1 pq ≡ step launch.set world t 1 pq
    step-here = ap (λ w. step launch.set w t 1 pq) here.stands.world

    tells-of : (s : Step) → step launch.set world t 1 pq ≡ s → fault_here ≡ fault_so s
    tells-of s e = tells ∙ ap fault_so (step-here ∙ e)

    full-words : (s : Step) → step launch.set world t 1 pq ≡ s → (need there : ℕ)
        → words_of_step world.heap s ≡ Some need → there ≡ shown.left → shown.left < need
        → fault_here ≡ Some (full which.VolatileWords need there)
    full-words (Does o r) e need there made is_left short =
        tells-of (Does o r) e
        ∙ words-fault o need (ap (λ (w : World). words_made w.heap o) here.stands.world ∙ made)
        ∙ ap (full_unless which.VolatileWords need) words-there
        ∙ unless-fewer which.VolatileWords need shown.left short
        ∙ ap (λ n. Some (full which.VolatileWords need n)) (sym is_left)
    full-words (Waits on) e need there made is_left short = none-some need made
    full-words WrongOperand e need there made is_left short = none-some need made
    full-words (IsOver f) e need there made is_left short = none-some need made

    full-of : (w : Which) (need there : ℕ)
        → IsFullOf world shown.left (step launch.set world t 1 pq)
        (record { which = w; need = need; left = there }) w
        → fault_here ≡ Some (full w need there)
    full-of which.VolatileWords need there h =
        full-words (step launch.set world t 1 pq) refl need there h.need h.left h.short
    full-of which.Monitors need there h =
        let (k, does, free) = h.takes in
        tells-of (Does (op.Enter k) _) does
        ∙ ap (λ (w : World). fault_of_enter launch.set launch.opening launch.limits known (held w.monitors k))
        here.stands.world
        ∙ ap (fault_of_enter launch.set launch.opening launch.limits known) free
        ∙ ap (λ (w : World). full_unless which.Monitors 1 (monitors_left w.monitors)) here.stands.world
        ∙ unless-fewer which.Monitors 1 (monitors_left world.monitors)
        (omega (arith, h.short, h.need, h.left))
        ∙ (λ i. Some (full which.Monitors (sym h.need i) (sym h.left i)))
    full-of which.ImageLines need there h = absurd h
    full-of which.LogEntries need there h = absurd h
    full-of which.Threads need there h = absurd h
    full-of which.FrameSlots need there h = absurd h
    full-of which.Acts need there h = absurd h
    full-of which.DirectoryWords need there h = absurd h
    full-of which.Roots need there h = absurd h
    full-of which.Files need there h = absurd h
    full-of which.FileBytes need there h = absurd h

    -- only a print prints
    prints-it : (s : Step) → step launch.set known.world t 1 pq ≡ s → DoesPrint s → prints pq ≡ true
    prints-it (Does (op.Print bytes) r) e is_print_step = by-test (prints pq) refl
      where
        by-test : (b : Bool) → prints pq ≡ b → b ≡ true
        by-test true p = refl
        by-test false p =
            absurd (let no : true ≡ false = (step-silent launch.set known.world t 1 pq (op.Print bytes) r fits p e).1
            in cc)
    prints-it (Waits on) e h = absurd h
    prints-it WrongOperand e h = absurd h
    prints-it (IsOver f) e h = absurd h
    prints-it (Does o r) e h = absurd h

    print-faultless : (s : Step) → DoesPrint s → fault_so s ≡ None
    print-faultless (Does (op.Print bytes) r) h = refl
    print-faultless (Waits on) h = absurd h
    print-faultless WrongOperand h = absurd h
    print-faultless (IsOver f) h = absurd h
    print-faultless (Does o r) h = absurd h

    limit-comes : (f : StepFault) → IsLimit world shown.left (step launch.set world t 1 pq) f
        → IsEndedBy launch lines acts t (run_fault f)
    limit-comes (met.Full it) h = inl (full-of it.which it.need it.left h)
    limit-comes met.SinkFault h =
        let does : DoesPrint (step launch.set known.world t 1 pq) = subst DoesPrint (sym step-here) h in (
          subst Prints (sym asks-here) (printing pq (prints-it (step launch.set known.world t 1 pq) refl does)),
          tells ∙ print-faultless (step launch.set known.world t 1 pq) does,
          owes-none,
        )
    limit-comes (met.BadCode from) h = absurd h
    limit-comes (met.RegionRace u v place) h = absurd h
    limit-comes met.ImageFault h = absurd h
    limit-comes (met.LinkFault kind class index) h = absurd h

    -- ---- steps

    pub step-ends : (result : Stepped) (now : Shown) (rest_now : Rest)
        → IsStep launch.set t q shown rest result now rest_now
        → Ends launch lines acts t q result
    step-ends (stepped.Did o r) now rest_now steps = tt
    step-ends stepped.Wrong now rest_now steps =
        let wrong = (steps.follows here.stands.roots).0 1 in
        let (from, own, seen) = wrong-from launch.set world t _ _ q wrong in
        (from, own, comes (fault.BadCode from) refl (tells-of WrongOperand wrong ∙ ap bad_code seen))
    step-ends (stepped.Over f) now rest_now steps =
        elim (steps.follows here.stands.roots).0 [
          | inl limit ↦ limit-comes f limit
          | inr over ↦
              comes (run_fault f) (step-inside launch.set known.world t 1 pq f fits (step-here ∙ over 1))
              (tells-of (IsOver f) (over 1))
        ]
    step-ends (stepped.Waits on) now rest_now steps = tt

    -- ---- no fault

    enough : (w : Which) (need there : ℕ) → need ≤ there → full_unless w need there ≡ None
    enough w need there fit =
        let so : nat_le need there ≡ true = grind (arith, nat_tests) in
        ap (λ b. if b then None else Some (full w need there)) so

    words-none : (made : Option ℕ) (left_now : ℕ) → TakesWords made shown.left left_now
        → fault_of_words launch.set launch.opening launch.limits known made ≡ None
    words-none None left_now takes = refl
    words-none (Some need) left_now takes =
        ap (full_unless which.VolatileWords need) words-there
        ∙ enough which.VolatileWords need shown.left takes.0

    enter-met : (m : Option Monitor) → (m ≡ None → 0 < monitors_left world.monitors)
        → fault_of_enter launch.set launch.opening launch.limits known m ≡ None
    enter-met (Some m) found = refl
    enter-met None found =
        ap (λ (w : World). full_unless which.Monitors 1 (monitors_left w.monitors)) here.stands.world
        ∙ enough which.Monitors 1 (monitors_left world.monitors) (found refl)

    op-met : (o : Op) (r : Reply Ref Item) (left_now : ℕ) → TakesWords (words_made world.heap o) shown.left left_now
        → FindsMonitor world (stepped.Did o r)
        → fault_of_op launch.set launch.opening launch.limits known t o ≡ None
    op-met (op.Stored place value) r left_now takes found =
        ap (λ b. if b then fault_of_durable_store launch.set launch.opening launch.limits known t place value
        (guard_of known.guards place) else None) (not-durable known here.nothing place)
    op-met (op.Enter key) r left_now takes found =
        ap (λ (w : World). fault_of_enter launch.set launch.opening launch.limits known (held w.monitors key))
        here.stands.world
        ∙ enter-met (held world.monitors key) found
    op-met o r left_now takes found =
        ap (λ (w : World). fault_of_words launch.set launch.opening launch.limits known (words_made w.heap o))
        here.stands.world
        ∙ words-none (words_made world.heap o) left_now takes

    module _ (o : Op) (r : Reply Ref Item) (now : Shown) (rest_now : Rest)
        (steps : IsStep launch.set t q shown rest (stepped.Did o r) now rest_now) where
      does : step launch.set known.world t (taken_by o) pq ≡ Does o (plain_reply now.number r)
      does = ap (λ w. step launch.set w t (taken_by o) pq) here.stands.world
          ∙ (steps.follows here.stands.roots).0

      no-fault : (b : Bool) → prints pq ≡ b → fault_here ≡ None
      no-fault true is = tells ∙ print-faultless (step launch.set known.world t 1 pq)
          (print-does launch.set known.world t (taken_by o) pq o (plain_reply now.number r) is does)
      no-fault false is =
          let one : taken_by o ≡ 1 = taken-one o (step-silent launch.set known.world t (taken_by o) pq o
          (plain_reply now.number r) fits is does).1 in
          let so : fault_here ≡ fault_of_op launch.set launch.opening launch.limits known t o =
          tells
          ∙ ap fault_so (subst (λ n. step launch.set known.world t n pq ≡ Does o (plain_reply now.number r))
          one does) in
          so ∙ op-met o r now.left steps.words steps.monitor

      pub meets-none : MeetsNoFault launch lines acts t
      meets-none = (omega (arith, room, marks-are), no-fault (prints pq) refl)
