-- How tries go.
use Rattle.std.specs.Prelude.{◌≡◌, ℕ, Bool, true, false, Option, Some, None}
use Rattle.ap_base.specs.declared.reference.Ref.{Ref}
use Rattle.ap_base.specs.declared.reference.Item.{Item}
use Rattle.run_types.specs.declared.fault.Full.{Full}
use Rattle.run_types.specs.declared.fault.StepFault.{StepFault}
use Rattle.run_types.specs.declared.fault.StepFault.TheVariants as fault
use Rattle.run_types.specs.declared.fault.Which.{Which}
use Rattle.run_types.specs.declared.fault.Which.TheVariants as which
use Rattle.natives.specs.declared.requests.Request.{Request}
use Rattle.plain_model.specs.Facts.{SetFacts}
use Rattle.shared_objects.specs.declared.rest.Rest.{Rest}
use Rattle.shared_objects.specs.Shown.{Shown}
use Rattle.step_forms.specs.declared.stepped.Stepped.{Stepped}
use Rattle.step_forms.specs.declared.stepped.Stepped.TheVariants as stepped
use Rattle.step_forms.specs.Follows.{IsStep}
use Rattle.plain_machine.specs.declared.trying.Did.{Did}
use Rattle.plain_machine.specs.declared.trying.Tried.{Tried}
use Rattle.plain_machine.specs.declared.trying.Tried.TheVariants as tried
use Rattle.plain_machine.specs.Trying.{IsBack}

abbrev pub lacking_of : Full → Which → Tried
lacking_of full which.VolatileWords = tried.Words full.need
lacking_of full which.Monitors = tried.Monitors
lacking_of full w = tried.Idle

abbrev pub lacking : StepFault → Tried
lacking (fault.Full full) = lacking_of full full.which
lacking f = tried.Idle

-- what a step comes to, as a try
abbrev pub tried_of : Stepped → Tried
tried_of (stepped.Did o r) = tried.Made (record { op = o; reply = r })
tried_of (stepped.Waits on) = tried.Idle
tried_of stepped.Wrong = tried.Idle
tried_of (stepped.Over f) = lacking f

-- the heap before the step, if it changed it
abbrev pub IsBackOf : Stepped → (before now back : Shown) → Type 0
IsBackOf (stepped.Did o r) before now back = IsBack o before now back
IsBackOf other before now back = now ≡ before

-- The step was made, and the try is what it comes to.
pub record TriesTo (set : SetFacts) (t : ℕ) (q : Request Ref Item) (before : Shown) (rest : Rest) (result :
    Tried)
    (now back : Shown) (rest_now : Rest) : Type 0 where
  pub stepped : Stepped
  pub is : IsStep set t q before rest stepped now rest_now
  pub outcome : result ≡ tried_of stepped
  pub heap : IsBackOf stepped before now back

-- what a try made, if it made something
abbrev pub tried_as : Option Did → Tried
tried_as None = tried.Idle
tried_as (Some did) = tried.Made did

abbrev pub is_short : Tried → Bool
is_short (tried.Words words) = true
is_short tried.Monitors = true
is_short other = false
