-- Steps that leave the heap of objects alone.
use Rattle.std.specs.Prelude.{ℕ, Bool, true, false}
use Rattle.ap_base.specs.declared.reference.Ref.{Ref}
use Rattle.ap_base.specs.declared.reference.Item.{Item}
use Rattle.run_types.specs.declared.resolved.At.{At}
use Rattle.run_types.specs.declared.wait.On.TheVariants as on
use Rattle.natives.specs.declared.requests.Request.{Request}
use Rattle.natives.specs.declared.requests.Reply.TheVariants as reply
use Rattle.run_history.specs.declared.act.Op.TheVariants as op
use Rattle.plain_model.specs.Facts.{SetFacts}
use Rattle.shared_objects.specs.declared.rest.Rest.{Rest}
use Rattle.shared_objects.specs.Shown.{Shown}
use Rattle.shared_objects.specs.Worlds.{KnowsMonitors}
use Rattle.step_forms.specs.declared.stepped.Stepped.{Stepped}
use Rattle.step_forms.specs.declared.stepped.Stepped.TheVariants as stepped
use Rattle.step_forms.specs.Follows.{IsStep}

-- Whatever the heap shows, and wherever the request comes from.
abbrev pub IsRestStep : SetFacts → ℕ → (At → Request Ref Item) → Rest → Stepped → Rest → Type 0
IsRestStep set t request before result now = (shown : Shown) (from : At) → KnowsMonitors shown before
    → IsStep set t (request from) shown before result shown now

-- the thread has ended, or there is none
abbrev pub waited_for : ℕ → Stepped
waited_for object = stepped.Did (op.Join object) reply.Done

-- a thread that was started is waited for until it has ended
abbrev pub awaited : ℕ → ℕ → Bool → Stepped
awaited object t true = waited_for object
awaited object t false = stepped.Waits (on.Join t)
