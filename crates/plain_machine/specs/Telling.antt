-- What is told of a step before it is made: the store or the End that it does, if it does one.
use Rattle.std.specs.Prelude.{◌≡◌, ℕ, Bool, true, false, List, Option, Some, None, slice_get}
use Rattle.std.specs.Option.{is_some}
use Rattle.ap_base.specs.declared.reference.Ref.{Ref}
use Rattle.ap_base.specs.declared.reference.Item.{Item}
use Rattle.graph_model.specs.declared.types.Root.{Root}
use Rattle.natives.specs.declared.requests.Request.{Request}
use Rattle.natives.specs.declared.requests.Request.TheVariants as ask
use Rattle.run_history.specs.declared.act.Op.{Op}
use Rattle.run_history.specs.declared.act.Op.TheVariants as op
use Rattle.run_history.specs.declared.plain.Progress.{Progress}
use Rattle.plain_model.specs.Facts.{SetFacts}
use Rattle.plain_model.specs.Steps.{op_of}
use Rattle.shared_objects.specs.declared.rest.Rest.{Rest}
use Rattle.shared_objects.specs.Shown.{IsKnownItem, Shown, item_value}
use Rattle.step_forms.specs.declared.stepped.Stepped.{Stepped}
use Rattle.step_forms.specs.declared.stepped.Stepped.TheVariants as stepped
use Rattle.step_forms.specs.Becomes.{IsNoStore}
use Rattle.step_forms.specs.Follows.{IsStep}
use Rattle.object_steps.specs.declared.storing.Planned.{Planned}
use Rattle.object_steps.specs.declared.storing.Planned.TheVariants as planned
use Rattle.object_steps.specs.declared.storing.Store.{Store}
use Rattle.object_steps.specs.Stores.{place_of}
use Rattle.plain_machine.specs.Foreseeing.{op_begun, step_in}

-- the operation, where it is a store or an End
abbrev pub awaited : Option Op → Option Op
awaited None = None
awaited (Some (op.Stored place value)) = Some (op.Stored place value)
awaited (Some op.End) = Some op.End
awaited (Some o) = None

-- the store or the End that the step of the request does, whatever the durable roots are
abbrev pub IsAwaited : SetFacts → Shown → Rest → ℕ → Request Ref Item → Option Op → Type 0
IsAwaited set shown rest t q told = (roots : List Root) → told ≡ awaited (op_of (step_in set roots shown rest t 1 q))

-- ---- how it is told

-- whether a store to a static field begins the initialisation of its class first
abbrev pub begins_class : List Progress → Request Ref Item → Bool
begins_class classes (ask.PutStatic from field value) = is_some (op_begun field.class (slice_get classes field.class))
begins_class classes q = false

-- the operation of a store
abbrev pub op_stored : Shown → Store → Op
op_stored shown store = op.Stored (place_of store.target) (item_value shown.number store.kept)

abbrev pub IfUndone : Stepped → Type 0 → Type 0
IfUndone (stepped.Did o r) P = Unit {0}
IfUndone result P = P

-- The step makes this store, and nothing has changed.
pub record MakesStore (set : SetFacts) (t : ℕ) (q : Request Ref Item) (before : Shown) (rest : Rest) (store : Store)
    (now : Shown) (rest_now : Rest) : Type 0 where
  pub same_heap : now ≡ before
  pub same_rest : rest_now ≡ rest
  pub known : IsKnownItem before.number store.kept
  pub does : (roots : List Root) → op_of (step_in set roots before rest t 1 q) ≡ Some (op_stored before store)

-- The step is over without a store.
pub record EndsUnstored (set : SetFacts) (t : ℕ) (q : Request Ref Item) (before : Shown) (rest : Rest) (result : Stepped)
    (now : Shown) (rest_now : Rest) : Type 0 where
  pub step : IsStep set t q before rest result now rest_now
  pub no_store : IsNoStore result
  pub same_heap : IfUndone result (now ≡ before)

-- what the tests of a request that stores come to
abbrev pub PlansTo : SetFacts → ℕ → Request Ref Item → Shown → Rest → Shown → Rest → Planned → Type 0
PlansTo set t q before rest now rest_now (planned.Stores store) = MakesStore set t q before rest store now rest_now
PlansTo set t q before rest now rest_now (planned.Ends result) = EndsUnstored set t q before rest result now rest_now
