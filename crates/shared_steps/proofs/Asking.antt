-- What a request needs, by what it is, and what it comes to.
use Rattle.std.proofs.Common.{◌≡◌, ℕ, ◌<◌, List, length, refl, sym, subst, arith, ap, ◌∙◌, Option, Some, None}
use Rattle.std.specs.Prelude.{IfSome}
use Rattle.ap_base.specs.declared.reference.Ref.{Ref}
use Rattle.ap_base.specs.declared.reference.Item.{Item}
use Rattle.ap_base.specs.declared.place.Place.{Place}
use Rattle.run_types.specs.declared.resolved.At.{At}
use Rattle.run_types.specs.declared.resolved.FieldAt.{FieldAt}
use Rattle.run_types.specs.declared.fault.StepFault.{StepFault}
use Rattle.natives.specs.declared.requests.Request.{Request}
use Rattle.natives.specs.declared.requests.Request.TheVariants as ask
use Rattle.run_history.specs.Worlds.{World}
use Rattle.plain_model.specs.Facts.{SetFacts}
use Rattle.plain_model.specs.Kinds.{HasKind}
use Rattle.plain_model.specs.Duties.{IsClass, IsStaticField}
use Rattle.plain_model.specs.Steps.{IsOver, step, throwing}
use Rattle.plain_model.proofs.SetHeaps.{static_there, static_kind_is}
use Rattle.shared_objects.specs.declared.rest.Rest.{Rest}
use Rattle.shared_objects.specs.Shown.{Shown, static_in}
use Rattle.shared_objects.specs.Worlds.{world_of, KnowsMonitors}
use Rattle.step_forms.specs.declared.stepped.Stepped.{Stepped}
use Rattle.step_forms.specs.declared.stepped.Stepped.TheVariants as stepped
use Rattle.step_forms.specs.Becomes.{MayBeStored, MayKeep, AsksStore, given}
use Rattle.step_forms.specs.Follows.{Agrees, IsStep}
use Rattle.step_forms.specs.Needs.{Here, IsAskable}
use Rattle.step_forms.proofs.Going.{over_goes}
use Rattle.shared_steps.specs.Output.{BehindGoes, OutputGoes, FaultsGo, SharesGo}

-- what may be stored, by what the request is
pub may_is : (set : SetFacts) (shown : Shown) (rest : Rest) (t : ℕ) {may : Place → Item → Type 0}
    {q r : Request Ref Item} {item : Item} → q ≡ r → MayBeStored may set shown rest t q → given r ≡ Some item
    → MayKeep may item (AsksStore set shown rest t r)
may_is set shown rest t {may} {q} {r} {item} is holds gives =
    subst (λ (x : Request Ref Item). MayBeStored may set shown rest t x) is holds item gives

module _ {set : SetFacts} {shown : Shown} {rest : Rest} where
  pub asks_is : {here : Here} {static_here : ℕ → Type 0} {t : ℕ} {q r : Request Ref Item} → q ≡ r
      → IsAskable set here static_here shown rest t q → IsAskable set here static_here shown rest t r
  asks_is {here} {static_here} {t} is asks =
      subst (λ (x : Request Ref Item). IsAskable set here static_here shown rest t x) is asks

  pub class_there : Agrees set shown rest → (class : ℕ) → IsClass set class
      → class < length rest.classes.items
  class_there agrees class there = subst (λ (n : ℕ). class < n) (sym agrees.classes) there

  pub field_there : Agrees set shown rest → (field : FieldAt) → IsStaticField set field
      → field.at < length shown.statics
  field_there agrees field is = omega (arith, static_there set field is, agrees.heap.of_set.statics)

  pub held_kind : Agrees set shown rest → (field : FieldAt) → IsStaticField set field
      → HasKind field.kind (static_in shown field.at)
  held_kind agrees field is =
      subst (λ k. HasKind k (static_in shown field.at)) (static_kind_is set field is)
      (agrees.heap.typed.statics field.at (field_there agrees field is)).form

step_broken : (set : SetFacts) (world : World) (t taken : ℕ) (f : StepFault)
    → step set world t taken (ask.Broken f) ≡ IsOver f
unfolding step
step_broken set world t taken f = refl

pub broken_goes : (set : SetFacts) (t : ℕ) (shown : Shown) (rest : Rest) (f : StepFault)
    → KnowsMonitors shown rest
    → IsStep set t (ask.Broken f) shown rest (stepped.Over f) shown rest
broken_goes set t shown rest f known =
    over_goes f (λ roots taken. step_broken set (world_of roots shown rest) t taken f) known

pub step_raise : (set : SetFacts) (world : World) (t taken : ℕ) (from : At) (class : ℕ)
    → step set world t taken (ask.Raise from class) ≡ throwing set world class
unfolding step
step_raise set world t taken from class = refl

-- ---- the sink

pub output_is : (q r : Request Ref Item) (before : Option (List ℕ)) (result : Stepped) (now : Option (List
    ℕ)) → q ≡ r
    → OutputGoes r before result now → OutputGoes q before result now
output_is q r before result now is goes = subst (λ (x : Request Ref Item). OutputGoes x before result now)
    (sym is) goes

pub quiet_output : (q r : Request Ref Item) (before : Option (List ℕ)) (result : Stepped) → q ≡ r
    → OutputGoes r before result before → OutputGoes q before result before
quiet_output q r before result is goes = output_is q r before result before is goes

pub faults_are : (q r : Request Ref Item) (before : ℕ) (result : Stepped) (now : ℕ) → q ≡ r
    → FaultsGo r before result now → FaultsGo q before result now
faults_are q r before result now is goes = subst (λ (x : Request Ref Item). FaultsGo x before result now)
    (sym is) goes

pub quiet_faults : (q r : Request Ref Item) (before : ℕ) (result : Stepped) → q ≡ r
    → FaultsGo r before result before → FaultsGo q before result before
quiet_faults q r before result is goes = faults_are q r before result before is goes

pub share_is : (q r : Request Ref Item) (takes : ℕ → Option ℕ) (result : Stepped) → q ≡ r
    → SharesGo r takes result → SharesGo q takes result
share_is q r takes result is goes = subst (λ (x : Request Ref Item). SharesGo x takes result) (sym is) goes

pub behind_is : (q r : Request Ref Item) (before : ℕ → ℕ → Option ℕ) (result : Stepped) (now : ℕ → ℕ → Option ℕ) → q ≡ r
    → BehindGoes r before result now → BehindGoes q before result now
behind_is q r before result now is goes = subst (λ (x : Request Ref Item). BehindGoes x before result now)
    (sym is) goes

pub quiet_behind : (q r : Request Ref Item) (before : ℕ → ℕ → Option ℕ) (result : Stepped) → q ≡ r
    → BehindGoes r before result before → BehindGoes q before result before
quiet_behind q r before result is goes = behind_is q r before result before is goes

-- a request that gives nothing, and one that gives an item
pub given_none : {q r : Request Ref Item} (P : Item → Type 0) → q ≡ r → given r ≡ None → IfSome (given q) P
given_none {q} {r} P is none = subst (λ (o : Option Item). IfSome o P) (sym (ap given is ∙ none)) tt

pub given_some : {q r : Request Ref Item} (P : Item → Type 0) (item : Item) → q ≡ r → given r ≡ Some item → P item
    → IfSome (given q) P
given_some {q} {r} P item is gives holds =
    subst (λ (o : Option Item). IfSome o P) (sym (ap given is ∙ gives)) holds
