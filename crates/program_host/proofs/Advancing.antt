-- What comes of a reply to a built-in method.
use Rattle.std.proofs.Common.{◌≡◌, ◌∙◌, refl, ap}
use Rattle.ap_base.specs.declared.reference.Ref.{Ref}
use Rattle.ap_base.specs.declared.reference.Item.{Item}
use Rattle.natives.specs.declared.positions.Moved.{Moved}
use Rattle.natives.specs.declared.positions.Moved.TheVariants.{Asks, Calls, Gives}
use Rattle.natives.specs.declared.requests.Reply.{Reply}
use Rattle.natives.specs.declared.states.NativeState.{NativeState}
use Rattle.natives.specs.declared.states.NativeStep.{NativeStep as Step}
use Rattle.natives.specs.States.{moved_of, step_of, state_after}
use Rattle.natives.specs.Coded.{items}
use Rattle.frames.specs.Settings.{NativeStep}
use Rattle.plain_frames.specs.Methods.{step, next}
use Rattle.plain_frames.specs.Coded.{item_given}
use Rattle.program_host.specs.Steps.{step_in}

moved : (s : NativeState Ref) (m : Moved Ref Item)
    → step_in (state_after s m) (step_of items s m) ≡ step items item_given s m
moved s (Asks p) = refl
moved s (Calls p called class receiver) = refl
moved s (Gives value) = refl

pub advanced : (s after : NativeState Ref) (reply : Reply Ref Item) (taken : Step Ref Item)
    (result : NativeStep Ref (NativeState Ref))
    → taken ≡ step_of items s (moved_of items s reply) → after ≡ state_after s (moved_of items s reply)
    → result ≡ step_in after taken → result ≡ next items item_given s reply
advanced s after reply taken result is_taken is_after is =
    is ∙ ap (λ (x : NativeState Ref). step_in x taken) is_after
    ∙ ap (λ (x : Step Ref Item). step_in (state_after s (moved_of items s reply)) x) is_taken
    ∙ moved s (moved_of items s reply)
