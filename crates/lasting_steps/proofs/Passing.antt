-- A class is begun only where nobody has touched it, and is finished where its thread says so: a class that is passed stays so.
use Rattle.std.proofs.Common.{◌≡◌, inl, inr, ℕ, ◌<◌, ◌++◌, Bool, true, false, List, [], ◌∷◌, refl, sym, ◌∙◌, ap, subst, length}
use Rattle.std.proofs.Common.{if◌then◌else◌}
use Rattle.std.specs.Prelude.{Option, Some, None, slice_get, slice_set}
use Rattle.std.proofs.lemmas.Option.{slice_get_within}
use Rattle.std.proofs.lemmas.Bool.Decides.{eqb_tells}
use Rattle.graph_model.specs.declared.types.Graph.{Graph}
use Rattle.run_history.specs.declared.act.Op.{Op}
use Rattle.run_history.specs.declared.act.Op.TheVariants as op
use Rattle.run_history.specs.declared.act.Stage.TheVariants as stage
use Rattle.run_history.specs.declared.plain.Progress.{Progress}
use Rattle.run_history.specs.declared.plain.Progress.TheVariants.{Untouched, BegunBy, Finished}
use Rattle.run_history.specs.Recorded.{Recorded}
use Rattle.run_history.specs.Worlds.{World, after, classes_after_op}
use Rattle.run_history.specs.Knowing.{Knowledge, next_known, known_after}
use Rattle.run_history.specs.Wanted.{Wishes, NoWish}
use Rattle.plain_model.specs.First.{first_known}
use Rattle.plain_model.specs.Facts.{SetFacts}
use Rattle.plain_model.specs.Requests.{PlainRequest, PlainReply}
use Rattle.plain_model.specs.Steps.{Step, Does, Waits, WrongOperand, IsOver, step, op_of}
use Rattle.plain_model.specs.Codes.{Code, is_persistent, taken_by}
use Rattle.plain_model.specs.Runs.{IsAbout, MayAct, Rule, GoesOn, first_frames, known_of, wants_of, request_after}
use Rattle.plain_model.proofs.Durable.{world-known_after_op}
use Rattle.plain_frames.proofs.Progressing.{get-set_same, get-set_other, step-progresses}
use Rattle.lasting_steps.specs.Passing.{HasPassed, Passes, ClassesStayPassed, ClassesStayPassedBy}

-- ---- a list of classes of which one changes

touched : (t : ℕ) (at : Option Progress) → at ≡ Some Untouched → HasPassed t at → ⊥
touched t at is passed = subst (HasPassed t) is passed

module _ (classes : List Progress) (t class n : ℕ) (passed : HasPassed t (slice_get classes class)) where
  -- where it is another one, or was passed and is done now
  pub after-begun : (u : ℕ) → slice_get classes n ≡ Some Untouched
      → HasPassed t (slice_get (slice_set classes n (BegunBy u)) class)
  after-begun u untouched = elim (eqb_tells n class) [
    | inl same ↦ absurd (touched t (slice_get classes class) (ap (slice_get classes) (sym same.1) ∙ untouched) passed)
    | inr other ↦ subst (HasPassed t) (sym (get-set_other classes n class (BegunBy u) other.1)) passed
  ]

  some : (at : Option Progress) → slice_get classes class ≡ at → HasPassed t at → class < length classes
  some None is there = absurd there
  some (Some p) is there = slice_get_within classes class p is

  pub after-done : HasPassed t (slice_get (slice_set classes n Finished) class)
  after-done = elim (eqb_tells n class) [
    | inl same ↦ subst (λ k. HasPassed t (slice_get (slice_set classes k Finished) class)) (sym same.1)
        (subst (HasPassed t) (sym (get-set_same classes class Finished (some (slice_get classes class) refl passed))) tt)
    | inr other ↦ subst (HasPassed t) (sym (get-set_other classes n class Finished other.1)) passed
  ]

-- ---- the act of a request

does-given : (s : Step) (o : Op) → op_of s ≡ Some o → (r : PlainReply) × (s ≡ Does o r)
does-given (Does p r) o is = (r, (let e : ◌≡◌ {A = Option Op} (Some p) (Some o) = is in cc))
does-given (Waits on) o is = absurd (let e : ◌≡◌ {A = Option Op} None (Some o) = is in cc)
does-given WrongOperand o is = absurd (let e : ◌≡◌ {A = Option Op} None (Some o) = is in cc)
does-given (IsOver f) o is = absurd (let e : ◌≡◌ {A = Option Op} None (Some o) = is in cc)

-- a class that is begun was untouched
was-untouched : (set : SetFacts) (known : Knowledge) (request : Option PlainRequest) (u n : ℕ)
    → IsAbout set known request u (op.Init n stage.Begun) → slice_get known.world.classes n ≡ Some Untouched
was-untouched set known None u n about = absurd (let e : ◌≡◌ {A = Option Op} None (Some (op.Init n stage.Begun)) = about in cc)
was-untouched set known (Some request) u n about =
    let o = op.Init n stage.Begun in
    let does = does-given (step set known.world u (taken_by o) request) o about in
    (step-progresses set known.world u (taken_by o) request o does.0 does.1).1

classes-stay : (set : SetFacts) (known : Knowledge) (now : Wishes) (request : Option PlainRequest) (u : ℕ) (named : List ℕ)
    (o : Op) (t class : ℕ)
    → Rule set known now request u named o → Passes known.world t class
    → HasPassed t (slice_get (classes_after_op known.world.classes u o) class)
classes-stay set known now request u named (op.Init n stage.Begun) t class rule passed =
    after-begun known.world.classes t class n passed u (was-untouched set known request u n rule)
classes-stay set known now request u named (op.Init n stage.Done) t class rule passed =
    after-done known.world.classes t class n passed
classes-stay set known now request u named o t class rule passed = passed

by-case : (known : Knowledge) (u : ℕ) (o : Op) (t class : ℕ) (b : Bool) → Passes known.world t class
    → HasPassed t (slice_get (classes_after_op known.world.classes u o) class)
    → Passes (if b then known.world else after known.world u o) t class
by-case known u o t class true same new = same
by-case known u o t class false same new = new

-- by any act, whatever is wanted
pub act-stays : (set : SetFacts) (known : Knowledge) (now : Wishes) (request : Option PlainRequest) (a : Recorded) (t class : ℕ)
    → MayAct set known now request a → Passes known.world t class → Passes (next_known known a).world t class
act-stays set known now request a t class may passed =
    let u = a.act.thread in
    let o = a.act.op in
    subst (λ (w : World). Passes w t class) (sym (world-known_after_op known u a.named o))
    (by-case known u o t class (is_persistent o) passed
    (classes-stay set known now request u a.named o t class may.rule passed))

pub classes_stay_passed : {Frames : Type 0} → ClassesStayPassed Frames
classes_stay_passed set main opening code acts a t class may passed =
    act-stays set (known_of set main opening code acts) (wants_of set main opening code acts)
    (request_after set main opening code acts a.act.thread) a t class may passed

module _ (set : SetFacts) (main : ℕ) (opening : Graph) {Frames : Type 0} (code : Code set main opening Frames)
    (t class : ℕ) where
  -- what goes on from here
  run-stays : (known : Knowledge) (frames : List Frames) (now : Wishes) (acts : List Recorded)
      → GoesOn set main opening code known frames now acts → Passes known.world t class
      → Passes (known_after known acts).world t class
  run-stays known frames now [] goes passed = passed
  run-stays known frames now (a ∷ acts) goes passed =
      run-stays (next_known known a) _ _ acts goes.1 (act-stays set known now _ a t class goes.0 passed)

  later-stays : (known : Knowledge) (frames : List Frames) (now : Wishes) (acts more : List Recorded)
      → GoesOn set main opening code known frames now (acts ++ more) → Passes (known_after known acts).world t class
      → Passes (known_after known (acts ++ more)).world t class
  later-stays known frames now [] more goes passed = run-stays known frames now more goes passed
  later-stays known frames now (a ∷ acts) more goes passed = later-stays (next_known known a) _ _ acts more goes.1 passed

pub classes_stay_passed_by : {Frames : Type 0} → ClassesStayPassedBy Frames
classes_stay_passed_by set main opening code acts more t class run passed =
    later-stays set main opening code t class (first_known set opening) (first_frames set main opening code) NoWish acts more
    run passed
