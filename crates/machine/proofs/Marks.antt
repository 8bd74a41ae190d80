-- The steps of requests that begin and end a region.
use Rattle.std.proofs.Common.{◌≡◌, inl, inr, ℕ, zero, suc, ◌<◌, List, [], Option, None, refl, sym, ◌∙◌, ap, subst, arith}
use Rattle.ap_base.specs.declared.place.Place.{Place}
use Rattle.ap_base.specs.declared.reference.Ref.{Ref}
use Rattle.ap_base.specs.declared.reference.Item.{Item}
use Rattle.graph_model.specs.declared.types.Value.{Value}
use Rattle.graph_model.specs.declared.types.Root.{Root}
use Rattle.run_types.specs.declared.fault.Full.{Full}
use Rattle.run_types.specs.declared.fault.StepFault.{StepFault}
use Rattle.run_types.specs.declared.fault.StepFault.TheVariants as fault
use Rattle.run_types.specs.declared.fault.Which.{Which}
use Rattle.run_types.specs.declared.fault.Which.TheVariants as which
use Rattle.run_types.specs.declared.resolved.At.{At}
use Rattle.natives.specs.declared.requests.Request.{Request}
use Rattle.natives.specs.declared.requests.Request.TheVariants as ask
use Rattle.natives.specs.declared.requests.Reply.{Reply}
use Rattle.natives.specs.declared.requests.Reply.TheVariants as reply
use Rattle.run_history.specs.declared.act.Op.{Op}
use Rattle.run_history.specs.declared.act.Op.TheVariants as op
use Rattle.run_history.specs.Worlds.{World, depth_of}
use Rattle.plain_model.specs.Codes.{taken_by}
use Rattle.plain_model.specs.Duties.{IsFit}
use Rattle.plain_model.specs.Facts.{SetFacts}
use Rattle.plain_model.specs.Steps
use Rattle.plain_model.specs.Steps.{Step, Does, Waits, WrongOperand, IsOver, step}
use Rattle.shared_objects.specs.declared.rest.Rest.{Rest}
use Rattle.shared_objects.specs.Shown.{Numbers, Shown}
use Rattle.shared_objects.specs.Plain.{KnowsRequest, plain_request, plain_reply}
use Rattle.shared_objects.specs.Worlds.{world_of}
use Rattle.shared_heap.specs.Passed.{FaultsGo, OutputGoes}
use Rattle.step_forms.specs.declared.stepped.Stepped.{Stepped}
use Rattle.step_forms.specs.declared.stepped.Stepped.TheVariants as stepped
use Rattle.step_forms.specs.Becomes.{given}
use Rattle.step_forms.specs.Follows.{IsFullOf, IsLimit, IsStep, stored_as}
use Rattle.machine.specs.Events.{IsBroken}
use Rattle.machine.proofs.Basics.{no-some}

-- ---- operations that mark a region

abbrev pub IsMark : Op → Type 0
IsMark op.Begin = Unit {0}
IsMark op.End = Unit {0}
IsMark o = ⊥

no-full : (world : World) (left : ℕ) (o : Op) (full : Full) (w : Which) → IsMark o
    → IsFullOf world left (Does o reply.Done) full w → ⊥
no-full world left op.Begin full which.VolatileWords mark is = no-some full.need is.need
no-full world left op.End full which.VolatileWords mark is = no-some full.need is.need
no-full world left o full which.VolatileWords mark is = absurd mark
no-full world left op.Begin full which.Monitors mark is = let no = is.takes.1 in cc
no-full world left op.End full which.Monitors mark is = let no = is.takes.1 in cc
no-full world left o full which.Monitors mark is = absurd mark
no-full world left o full w mark is = is

no-limit : (world : World) (left : ℕ) (o : Op) (f : StepFault) → IsMark o
    → IsLimit world left (Does o reply.Done) f → ⊥
no-limit world left o (fault.Full full) mark is = no-full world left o full full.which mark is
no-limit world left op.Begin fault.SinkFault mark is = is
no-limit world left op.End fault.SinkFault mark is = is
no-limit world left o fault.SinkFault mark is = absurd mark
no-limit world left o f mark is = is

-- a step of which the plain step marks a region does that
module _ (set : SetFacts) (t : ℕ) (request : Request Ref Item) (before : Shown) (rest : Rest) (now : Shown)
    (rest_now : Rest) (o : Op) (mark : IsMark o)
    (plain : (roots : List Root) (taken : ℕ)
    → step set (world_of roots before rest) t taken (plain_request before.number request) ≡ Does o reply.Done)
  where
    pub marks : (result : Stepped) → IsStep set t request before rest result now rest_now
        → (r : Reply Ref Item) × (result ≡ stepped.Did o r)
    marks (stepped.Did o' r) s =
        let does : Does o reply.Done ≡ Does o' (plain_reply now.number r)
        = sym (plain [] (taken_by o')) ∙ (s.follows []).0 in
        let same : o ≡ o' = cc in
        (r, ap (λ (x : Op). stepped.Did x r) (sym same))
    marks (stepped.Waits on) s =
        absurd (let no : ◌≡◌ {A = Step} (Does o reply.Done) (Waits on)
        = sym (plain [] 0) ∙ (s.follows []).0 0 in cc)
    marks stepped.Wrong s =
        absurd (let no : ◌≡◌ {A = Step} (Does o reply.Done) WrongOperand
        = sym (plain [] 0) ∙ (s.follows []).0 0 in cc)
    marks (stepped.Over f) s = absurd (elim (s.follows []).0 [
      | inl limit ↦ no-limit (world_of [] before rest) before.left o f mark
          (subst (λ (x : Step). IsLimit (world_of [] before rest) before.left x f) (plain [] 1) limit)
      | inr over ↦ (let no : ◌≡◌ {A = Step} (Does o reply.Done) (IsOver f) = sym (plain [] 0) ∙ over 0 in cc)
    ])

-- ---- what the plain steps are

pub begins : (set : SetFacts) (world : World) (t taken : ℕ) (number : Numbers) (request : Request Ref Item)
    (from : At) → request ≡ ask.Begin from
    → step set world t taken (plain_request number request) ≡ Does op.Begin reply.Done
unfolding step
begins set world t taken number request from is =
    ap (λ (q : Request Ref Item). step set world t taken (plain_request number q)) is

-- an open region is ended
open-ends : (set : SetFacts) (world : World) (depth : ℕ) → 0 < depth
    → Steps.ends_region set world depth ≡ Does op.End reply.Done
open-ends set world zero is_open = absurd (omega (arith, is_open))
open-ends set world (suc depth) is_open = refl

pub ends : (set : SetFacts) (world : World) (t taken : ℕ) (number : Numbers) (request : Request Ref Item)
    (from : At) → request ≡ ask.End from → 0 < depth_of world t
    → step set world t taken (plain_request number request) ≡ Does op.End reply.Done
unfolding step
ends set world t taken number request from is is_open =
    ap (λ (q : Request Ref Item). step set world t taken (plain_request number q)) is
    ∙ open-ends set world (depth_of world t) is_open

-- ---- what such a request is

pub end-stores-none : (set : SetFacts) (world : World) (t taken : ℕ) (number : Numbers)
    (request : Request Ref Item) (from : At) → request ≡ ask.End from → 0 < depth_of world t
    → (place : Place) (value : Value) → step set world t taken (plain_request number request)
    ≡ stored_as place value → ⊥
end-stores-none set world t taken number request from is is_open place value e =
    let no : Does op.End reply.Done ≡ stored_as place value
    = sym (ends set world t taken number request from is is_open) ∙ e in cc

abbrev pub IsRegional : Request Ref Item → Type 0
IsRegional (ask.Begin from) = Unit {0}
IsRegional (ask.End from) = Unit {0}
IsRegional request = ⊥

pub regional-fits : (set : SetFacts) (world : World) (t : ℕ) (number : Numbers) (q : Request Ref Item)
    → IsRegional q → IsFit set world t (plain_request number q)
regional-fits set world t number (ask.Begin from) is = tt
regional-fits set world t number (ask.End from) is = tt
regional-fits set world t number q is = absurd is

pub regional-known : (number : Numbers) (q : Request Ref Item) → IsRegional q → KnowsRequest number q
regional-known number (ask.Begin from) is = tt
regional-known number (ask.End from) is = tt
regional-known number q is = absurd is

pub regional-gives : (q : Request Ref Item) → IsRegional q → given q ≡ None
regional-gives (ask.Begin from) is = refl
regional-gives (ask.End from) is = refl
regional-gives q is = absurd is

pub regional-whole : (q : Request Ref Item) → IsRegional q → IsBroken q → ⊥
regional-whole (ask.Begin from) is broken = broken
regional-whole (ask.End from) is broken = broken
regional-whole q is broken = absurd is

-- it has no part in the sink
pub regional-output : (q : Request Ref Item) → IsRegional q → (before now : Option (List ℕ)) (result : Stepped)
    → OutputGoes q before result now → now ≡ before
regional-output (ask.Begin from) is before now result put = put
regional-output (ask.End from) is before now result put = put
regional-output q is before now result put = absurd is

pub regional-faults : (q : Request Ref Item) → IsRegional q → (before now : ℕ) (result : Stepped)
    → FaultsGo q before result now → now ≡ before
regional-faults (ask.Begin from) is before now result go = go
regional-faults (ask.End from) is before now result go = go
regional-faults q is before now result go = absurd is
