-- What holds of each step of a request.
use Rattle.std.specs.Prelude.{◌≡◌, ℕ, [], ◌∷◌, ◌++◌}
use Rattle.ap_base.specs.declared.reference.Ref.{Ref}
use Rattle.ap_base.specs.declared.reference.Item.{Item}
use Rattle.natives.specs.declared.requests.Request.{Request}
use Rattle.natives.specs.declared.requests.Reply.{Reply}
use Rattle.run_history.specs.declared.act.Op.{Op}
use Rattle.plain_model.specs.Facts.{SetFacts}
use Rattle.step_forms.specs.declared.stepped.Stepped.TheVariants as stepped
use Rattle.store_barrier.specs.Passed.{act_in}
use Rattle.shared_heap.specs.Shared.{Shared}
use Rattle.shared_heap.specs.Requests.{StepsTo}

-- A step that did something adds one act, which names nothing, whatever is named for the next act that makes
-- objects durable.
abbrev pub StepsNameNothing : Type 0
StepsNameNothing = (set : SetFacts) (t : ℕ) (request : Request Ref Item) (old new : Shared) (o : Op)
    (r : Reply Ref Item) → old.machine.acts ≡ old.history.acts
    → StepsTo set t request (stepped.Did o r) old new
    → new.machine.acts ≡ old.machine.acts ++ act_in old.machine t o [] ∷ []
