-- The threads of a machine once a thread may have begun.
use Rattle.std.specs.Prelude.{Bool, true, false, List, [], ◌∷◌, Option, Some, None}
use Rattle.ap_base.specs.declared.reference.Ref.{Ref}
use Rattle.ap_base.specs.declared.reference.Item.{Item}
use Rattle.natives.specs.declared.requests.Request.{Request}
use Rattle.natives.specs.declared.requests.Request.TheVariants as ask
use Rattle.frames.specs.Turns.{begun_thread}
use Rattle.run_forms.specs.Views.{ThreadFrames}
use Rattle.plain_machine.specs.declared.lanes.Lane.{Lane}

abbrev pub has_frames : Option ThreadFrames → Bool
has_frames None = false
has_frames (Some fs) = true

-- the thread that a request starts, in frames that were made for it
abbrev pub begun_of : Option ThreadFrames → Request Ref Item → List Lane
begun_of None q = []
begun_of (Some fs) (ask.Start from thread) = record { frames = begun_thread thread; asked = None } ∷ []
begun_of (Some fs) q = []
