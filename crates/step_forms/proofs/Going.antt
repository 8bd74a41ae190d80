-- How what a step comes to follows the plain step.
use Rattle.std.proofs.Common.{◌≡◌, ℕ, List, [], Option, None, refl, sym, subst, inl, inr}
use Rattle.std.proofs.Math.Path.{fun_ext}
use Rattle.run_types.specs.declared.fault.StepFault.{StepFault}
use Rattle.run_types.specs.declared.wait.On.{On}
use Rattle.run_types.specs.declared.resolved.At.{At}
use Rattle.ap_base.specs.declared.reference.Ref.{Ref}
use Rattle.ap_base.specs.declared.reference.Item.{Item}
use Rattle.graph_model.specs.declared.types.Root.{Root}
use Rattle.natives.specs.declared.requests.Reply.{Reply}
use Rattle.natives.specs.declared.requests.Request.{Request}
use Rattle.run_history.specs.declared.act.Op.{Op}
use Rattle.run_history.specs.Worlds.{World, after}
use Rattle.plain_model.specs.Facts.{SetFacts}
use Rattle.plain_model.specs.Limits.{words_made}
use Rattle.plain_model.specs.Steps.{Step, Does, Waits, WrongOperand, IsOver, step}
use Rattle.plain_model.specs.Codes.{taken_by}
use Rattle.shared_objects.specs.declared.rest.Rest.{Rest}
use Rattle.shared_objects.specs.Shown.{Shown}
use Rattle.shared_objects.specs.Changes.{GoesOn}
use Rattle.shared_objects.specs.Plain.{plain_request, plain_reply, KnowsReply}
use Rattle.shared_objects.specs.Worlds.{heap_of, world_of, KnowsMonitors}
use Rattle.step_forms.specs.declared.stepped.Stepped.{Stepped}
use Rattle.step_forms.specs.declared.stepped.Stepped.TheVariants as stepped
use Rattle.step_forms.specs.Follows.{Goes, IsStep, IsLimit, TakesWords, HeapGoes, IsHeapStep, FindsMonitor}

-- the same by another name of the plain step
pub same_goes : {p q : List Root → ℕ → Step} {t : ℕ} {before now : Shown} {rest rest_now : Rest} {result :
    Stepped}
    → ((roots : List Root) (taken : ℕ) → p roots taken ≡ q roots taken)
    → Goes q t before rest result now rest_now
    → Goes p t before rest result now rest_now
same_goes {p} {q} {t} {before} {now} {rest} {rest_now} {result} same goes =
    let is : q ≡ p = fun_ext (λ roots. fun_ext (λ taken. sym (same roots taken))) in
    subst (λ (f : List Root → ℕ → Step). Goes f t before rest result now rest_now) is goes

pub goes_on_itself : (shown : Shown) → GoesOn shown shown
goes_on_itself shown = record { shapes = refl; keeps = λ r n e. e; keys = λ r e. e }

pub wrong_goes : {p : List Root → ℕ → Step} {t : ℕ} {shown : Shown} {rest : Rest}
    → ((roots : List Root) (taken : ℕ) → p roots taken ≡ WrongOperand) → KnowsMonitors shown rest
    → Goes p t shown rest stepped.Wrong shown rest
wrong_goes {p} {t} {shown} {rest} is known =
    record {
      follows = λ roots. (is roots, refl);
      words = refl;
      monitor = tt;
      goes_on = goes_on_itself shown;
      monitors =
          known;
    }

pub waits_goes : {p : List Root → ℕ → Step} {t : ℕ} {shown : Shown} {rest : Rest} (on : On)
    → ((roots : List Root) (taken : ℕ) → p roots taken ≡ Waits on) → KnowsMonitors shown rest
    → Goes p t shown rest (stepped.Waits on) shown rest
waits_goes {p} {t} {shown} {rest} on is known =
    record {
      follows = λ roots. (is roots, refl);
      words = refl;
      monitor = tt;
      goes_on = goes_on_itself shown;
      monitors =
          known;
    }

-- a fault that the plain step has too
pub over_goes : {p : List Root → ℕ → Step} {t : ℕ} {shown : Shown} {rest : Rest} (f : StepFault)
    → ((roots : List Root) (taken : ℕ) → p roots taken ≡ IsOver f) → KnowsMonitors shown rest
    → Goes p t shown rest (stepped.Over f) shown rest
over_goes {p} {t} {shown} {rest} f is known = record {
  follows = λ roots. (inr (is roots), refl);
  words = refl;
  monitor = tt;
  goes_on = goes_on_itself shown;
  monitors = known;
}

-- a limit that is met
pub limit_goes : {p : List Root → ℕ → Step} {t : ℕ} {before now : Shown} {rest : Rest} (f : StepFault)
    → ((roots : List Root) → IsLimit (world_of roots before rest) before.left (p roots 1) f) → now ≡ before
    → KnowsMonitors before rest → Goes p t before rest (stepped.Over f) now rest
limit_goes {p} {t} {before} {now} {rest} f limit same known =
    subst (λ (s : Shown). Goes p t before rest (stepped.Over f) s rest) (sym same) (record {
      follows = λ roots. (inl (limit roots), refl);
      words = refl;
      monitor = tt;
      goes_on = goes_on_itself before;
      monitors = known;
    })

pub takes_none : (made : Option ℕ) (left : ℕ) → made ≡ None → TakesWords made left left
takes_none made left is = subst (λ (o : Option ℕ). TakesWords o left left) (sym is) refl

-- an operation that leaves the heap of objects as it is
pub did_goes : {p : List Root → ℕ → Step} {t : ℕ} {shown : Shown} {rest rest_now : Rest} (o : Op) (r : Reply
    Ref Item)
    → ((roots : List Root) → p roots (taken_by o) ≡ Does o (plain_reply shown.number r))
    → KnowsReply shown.number r
    → words_made (heap_of [] shown) o ≡ None → FindsMonitor (world_of [] shown rest) (stepped.Did o r)
    → ((roots : List Root) → world_of roots shown rest_now ≡ after (world_of roots shown rest) t o)
    → KnowsMonitors shown rest_now → Goes p t shown rest (stepped.Did o r) shown rest_now
did_goes {p} {t} {shown} o r is reply none found world known = record {
  follows = λ roots. (is roots, reply, world roots);
  words = takes_none (words_made (heap_of [] shown) o) shown.left none;
  monitor = found;
  goes_on = goes_on_itself shown;
  monitors = known;
}

-- the same of a request that is this one
pub asked : {q r : Request Ref Item} (set : SetFacts) (t : ℕ) {before now : Shown} {rest rest_now : Rest}
    {result : Stepped}
    → q ≡ r → IsStep set t r before rest result now rest_now → IsStep set t q before rest result now rest_now
asked {q} {r} set t {before} {now} {rest} {rest_now} {result} is goes =
    subst (λ (x : Request Ref Item). IsStep set t x before rest result now rest_now) (sym is) goes

-- ---- steps that look at the heap alone

pub heap_same : (p q : World → Step) {before now : Shown} {result : Stepped}
    → ((roots : List Root) (rest : Rest) → p (world_of roots before rest) ≡ q (world_of roots before rest))
    → HeapGoes q before result now → HeapGoes p before result now
heap_same p q same goes t rest known = same_goes (λ roots taken. same roots rest) (goes t rest known)

-- the step of a request by a part of the plain step
pub heap_step : (p : World → Step) {before now : Shown} {result : Stepped} (set : SetFacts) (request : At
    → Request Ref Item)
    → ((roots : List Root) (rest : Rest) (t taken : ℕ) (from : At)
    → step set (world_of roots before rest) t taken (plain_request before.number (request from)) ≡ p
    (world_of roots before rest))
    → HeapGoes p before result now → IsHeapStep set request before result now
heap_step p set request same goes t rest from known =
    same_goes (λ roots taken. same roots rest t taken from) (goes t rest known)

pub heap_wrong : (p : World → Step) {shown : Shown}
    → ((roots : List Root) (rest : Rest) → p (world_of roots shown rest) ≡ WrongOperand)
    → HeapGoes p shown stepped.Wrong shown
heap_wrong p is t rest known = wrong_goes (λ roots taken. is roots rest) known

-- an operation that changes nothing
pub heap_did : (p : World → Step) {shown : Shown} (o : Op) (r : Reply Ref Item)
    → ((roots : List Root) (rest : Rest) → p (world_of roots shown rest) ≡ Does o (plain_reply shown.number
    r))
    → KnowsReply shown.number r → words_made (heap_of [] shown) o ≡ None
    → ((world : World) → FindsMonitor world (stepped.Did o r))
    → ((world : World) (t : ℕ) → world ≡ after world t o) → HeapGoes p shown (stepped.Did o r) shown
heap_did p {shown} o r is reply none found quiet t rest known =
    did_goes o r (λ roots. is roots rest) reply none (found (world_of [] shown rest)) (λ roots. quiet (world_of roots shown rest) t) known
