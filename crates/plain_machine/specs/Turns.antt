-- What a turn made ahead comes to.
use Rattle.std.specs.Prelude.{◌≡◌, Option, Some, None}
use Rattle.ap_base.specs.declared.reference.Ref.{Ref}
use Rattle.ap_base.specs.declared.reference.Item.{Item}
use Rattle.natives.specs.declared.methods.Native.{Native}
use Rattle.natives.specs.declared.requests.Request.{Request}
use Rattle.natives.specs.declared.states.NativeState.{NativeState}
use Rattle.frames.specs.Settings.{Setting}
use Rattle.frames.specs.Turns.{turn}
use Rattle.private_steps.specs.Waits.{WaitsAfter}
use Rattle.run_forms.specs.Views.{ThreadFrames}

-- The request of a thread's turn, and its frames then: the turn was made before, or is made now.
abbrev pub TurnsFrom : Setting Native Ref (NativeState Ref) Item → Option (Request Ref Item) → ThreadFrames
    → Request Ref Item → ThreadFrames → Type 0
TurnsFrom x (Some q) fs request now = (request ≡ q) × (now ≡ fs)
TurnsFrom x None fs request now =
    (now ≡ (turn x fs).frames) × (Some request ≡ (turn x fs).asks) × WaitsAfter request now
