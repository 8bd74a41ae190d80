-- What a plain run tells of its next act.
use Rattle.std.proofs.Common.{◌≡◌, ◌⊎◌, ◌↔◌, ℕ, suc, ◌<◌, ◌≤◌, ◌-◌, ◌^◌, Bool, true, false, IsTrue, List, [], ◌∷◌, ◌++◌, map, length, length-append, length-set, refl, sym, ◌∙◌, ap, subst, arith, inl, inr}
use Rattle.std.specs.Prelude.{Option, Some, None, slice_get, Result, Ok, Err, IfOk}
use Rattle.ap_base.specs.declared.place.Place.{Place}
use Rattle.ap_base.specs.declared.place.Place.TheVariants.{Static, Slot}
use Rattle.ap_base.specs.declared.reference.Ref.{Ref}
use Rattle.ap_base.specs.declared.reference.Item.{Item}
use Rattle.graph_model.specs.declared.types.Heap.{Heap}
use Rattle.graph_model.specs.Heaps.{fresh_values, object_at, shape_at, with_slot}
use Rattle.natives.specs.declared.methods.Native.{Native}
use Rattle.natives.specs.declared.states.NativeState.{NativeState}
use Rattle.frames.specs.Settings.{Setting}
use Rattle.run_history.specs.declared.act.Act.{Act}
use Rattle.run_history.specs.declared.act.Op.{Op}
use Rattle.run_history.specs.declared.act.Op.TheVariants as op
use Rattle.run_history.specs.Recorded.{Recorded}
use Rattle.run_history.specs.Knowing.{Knowledge}
use Rattle.run_history.specs.Wanted.{NoWish, WantsAfter}
use Rattle.run_history.specs.Worlds.{World, depth_of, fits, heap_after_op}
use Rattle.plain_model.specs.Codes.{is_persistent, taken_by}
use Rattle.plain_model.specs.Duties.{IsFit}
use Rattle.plain_model.specs.Facts.{SetFacts}
use Rattle.plain_model.specs.First.{first_known}
use Rattle.plain_model.specs.Requests.{PlainRequest}
use Rattle.plain_model.specs.Runs.{IsAbout, first_frames, op_given, request_after}
use Rattle.plain_model.specs.Steps.{step}
use Rattle.plain_model.specs.TypeLaws.{IsOfSet}
use Rattle.plain_model.specs.Consistent.{IsConsistent}
use Rattle.plain_model.proofs.Appended.{GoesOn-push, GoesOn-pushed}
use Rattle.plain_model.proofs.RunSound.{replies}
use Rattle.plain_model.proofs.StepFits.{step_fits}
use Rattle.plain_model.proofs.TypedRuns.{heap_is_of_set}
use Rattle.plain_model.proofs.Visible.{about_from_rule}
use Rattle.plain_frames.specs.Machines.{BuiltInProgramsAskWhatIsFit}
use Rattle.shared_objects.specs.declared.rest.Rest.{Rest}
use Rattle.shared_objects.specs.Shown.{Shown}
use Rattle.shared_objects.specs.Threads.{depth_at}
use Rattle.world_steps.proofs.Running.{depth_plain}
use Rattle.run_forms.specs.Standing.{IsRun, Launch, known_at, plain_code}
use Rattle.plain_machine.specs.declared.lanes.Lane.{Lane}
use Rattle.plain_machine.specs.Standing.{IsNext, Stands, recorded}
use Rattle.plain_machine.specs.Telling.{awaited}
use Rattle.audit_rules.specs.Rules.{ends_next, stored_next}
use Rattle.audit_acts.specs.declared.kept.Kept.{Kept}
use Rattle.audit_acts.specs.Keeps.{HasKept, IsTold, Judges, MayCome}

-- ---- what is awaited is what the tests read

stored-awaited : (x : Option Op) (place : Place) → stored_next (awaited x) place ≡ stored_next x place
stored-awaited None place = refl
stored-awaited (Some (op.Stored p value)) place = refl
stored-awaited (Some op.End) place = refl
stored-awaited (Some o) place = refl

ends-awaited : (x : Option Op) → ends_next (awaited x) ≡ ends_next x
ends-awaited None = refl
ends-awaited (Some (op.Stored p value)) = refl
ends-awaited (Some op.End) = refl
ends-awaited (Some o) = refl

-- ---- what a fit request does fits

one-more : (h : Heap) (o : Op) → length (heap_after_op h o).objects ≤ suc (length h.objects)
one-more h (op.Alloc n shape count) =
    omega (arith, length-append h.objects (record { shape = shape; values = fresh_values (shape_at h shape) count } ∷ []))
one-more h (op.Throw n class) =
    omega (arith, length-append h.objects (record { shape = class; values = fresh_values (shape_at h class) 0 } ∷ []))
one-more h (op.Stored (Static n) value) = omega arith
one-more h (op.Stored (Slot n i) value) = omega (arith, length-set h.objects n (with_slot (object_at h n) i value))
one-more h o = omega arith

about-fits : (set : SetFacts) (world : World) (t : ℕ) (o : Op) (request : Option PlainRequest) → IsConsistent set → IsOfSet set world.heap
    → ((q : PlainRequest) → request ≡ Some q → IsFit set world t q) → op_given set world t (taken_by o) request ≡ Some o
    → length world.heap.objects < 2 ^ 32 - 1 → fits world.heap o ≡ true
about-fits set world t o None consistent of fit is few = absurd (let no : ◌≡◌ {A = Option Op} None (Some o) = is in cc)
about-fits set world t o (Some q) consistent of fit is few =
    let (r, does) = replies (step set world t (taken_by o) q) o is in
    let more = one-more world.heap o in
    step_fits set world consistent of t (taken_by o) q o r (fit q refl) does (omega (arith, more, few))

-- ---- the plain run of a launch

module _ (duties : BuiltInProgramsAskWhatIsFit) (launch : Launch) (acts : List Recorded) (set : SetFacts)
    (x : Setting Native Ref (NativeState Ref) Item) (shown : Shown) (rest : Rest) (steps : ℕ) (lanes : List Lane)
    (h : Stands launch acts set x shown rest steps lanes) (act : Act) where
  abbrev pub request : Option PlainRequest
  request = request_after launch.set launch.main launch.opening (plain_code launch) acts act.thread

  abbrev pub first : Knowledge
  first = first_known launch.set launch.opening

  fit-act : (o : Op) → IsAbout launch.set (known_at launch acts) request act.thread o
      → length (known_at launch acts).world.heap.objects < 2 ^ 32 - 1 → fits (known_at launch acts).world.heap o ≡ true
  fit-act o is few = about-fits launch.set (known_at launch acts).world act.thread o request h.launched.consistent
      (heap_is_of_set launch.set launch.main launch.opening (plain_code launch) h.launched.consistent.complete h.launched.opening acts
      h.stands.run)
      (duties launch.set launch.opening launch.program launch.method launch.main h.launched.consistent h.launched.opening h.launched.names
      h.launched.main acts h.stands.run act.thread) is few

  pub is-told : (ahead : Option Op) (about : Bool) (depth : ℕ)
      → ahead ≡ awaited (op_given launch.set (known_at launch acts).world act.thread 1 request)
      → IsTrue about ↔ IsNext launch acts act → depth ≡ depth_at rest.threads act.thread
      → IsTold launch.set first acts request act ahead about depth
  is-told ahead about depth told next deep = record {
    stores = λ place. ap (λ y. stored_next y place) told
        ∙ stored-awaited (op_given launch.set (known_at launch acts).world act.thread 1 request) place;
    ends = ap ends_next told ∙ ends-awaited (op_given launch.set (known_at launch acts).world act.thread 1 request);
    is_about = λ visible. (
      λ is. elim (next.0 is) [ inl persists ↦ absurd (let no : true ≡ false = sym persists ∙ visible in cc) | inr it ↦ it ],
      λ it. next.1 (inr it),
    );
    deep = deep ∙ sym (depth_plain rest.threads act.thread) ∙ ap (λ (w : World). depth_of w act.thread) (sym h.stands.world);
    fit = λ few o is. fit-act o is few;
  }

  -- an act that may come next is one that the machine follows
  pub followed : (named : List ℕ) → MayCome launch.set first acts request act named → IsNext launch acts act
  followed named may = elim (is_persistent act.op) as (λ b. is_persistent act.op ≡ b → IsNext launch acts act) [
    | true ↦ λ e. inl e
    | false ↦ λ e. inr (about_from_rule launch.set (known_at launch acts) (WantsAfter first NoWish acts) request act.thread named act.op
        may.rule e)
  ] refl

  -- it may come next exactly where the acts with it are a run
  pub run-more : (named : List ℕ) → MayCome launch.set first acts request act named ↔ IsRun launch (acts ++ recorded act named ∷ [])
  run-more named = (
    λ may. GoesOn-push launch.set launch.main launch.opening (plain_code launch) first
        (first_frames launch.set launch.main launch.opening (plain_code launch)) NoWish acts (recorded act named) (h.stands.run, may),
    λ run. (GoesOn-pushed launch.set launch.main launch.opening (plain_code launch) first
        (first_frames launch.set launch.main launch.opening (plain_code launch)) NoWish acts (recorded act named) run).1,
  )

  -- a judgement of an act, by what is kept of these acts and what is told of it
  module _ (named : List ℕ) (k : Kept) (kept : HasKept first acts k) (ahead : Option Op) (about : Bool) (depth : ℕ)
      (told : IsTold launch.set first acts request act ahead about depth) where
    pub judged : {E : Type 0} (result : Result Bool E) → IfOk result (Judges k act named ahead about depth)
        → IfOk result (λ answer. IsTrue answer ↔ IsRun launch (acts ++ recorded act named ∷ []))
    judged (Ok answer) judges = (
      λ is. (run-more named).0 ((judges launch.set first acts request kept told).0 is),
      λ run. (judges launch.set first acts request kept told).1 ((run-more named).1 run),
    )
    judged (Err e) judges = tt

    pub may : {E : Type 0} (result : Result Bool E) → IfOk result (Judges k act named ahead about depth) → result ≡ Ok true
        → MayCome launch.set first acts request act named
    may (Ok answer) judges e =
        let is : answer ≡ true = cc in (judges launch.set first acts request kept told).0 is
    may (Err e) judges is = absurd (let no = is in cc)

-- a machine that follows an act says so
pub says-yes : {E : Type 0} (launch : Launch) (acts : List Recorded) (act : Act) (result : Result Bool E)
    (answer : Bool) → result ≡ Ok answer → IfOk result (λ about. IsTrue about ↔ IsNext launch acts act) → IsNext launch acts act
    → result ≡ Ok true
says-yes launch acts act (Ok b) answer e exact next = ap Ok (exact.1 next)
says-yes launch acts act (Err b) answer e exact next = absurd (let no = e in cc)

pub told-yes : {E : Type 0} (launch : Launch) (acts : List Recorded) (act : Act) (result : Result Bool E)
    (answer : Bool) → result ≡ Ok answer → IfOk result (λ about. IsTrue about ↔ IsNext launch acts act) → IsTrue answer ↔ IsNext launch acts act
told-yes launch acts act result answer e exact =
    subst (λ r. IfOk r (λ about. IsTrue about ↔ IsNext launch acts act)) e exact
