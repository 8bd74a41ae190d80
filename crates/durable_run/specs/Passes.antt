-- What a pass over the threads leaves of a run.
use Rattle.std.specs.Prelude.{◌≡◌, ◌⊎◌, ℕ, ◌<◌, true, List, length, All, Option, Some, None}
use Rattle.ap_base.specs.declared.reference.Ref.{Ref}
use Rattle.ap_base.specs.declared.reference.Item.{Item}
use Rattle.run_types.specs.declared.fault.RunFault.{RunFault}
use Rattle.natives.specs.declared.methods.Native.{Native}
use Rattle.natives.specs.declared.states.NativeState.{NativeState}
use Rattle.plain_model.specs.Facts.{SetFacts}
use Rattle.frames.specs.Settings.{Setting}
use Rattle.shared_objects.specs.declared.threads.ThreadState.{ThreadState}
use Rattle.run_forms.specs.Views.{ThreadFrames}
use Rattle.machine.specs.Passed.{Opening}
use Rattle.machine.specs.Passed.{Shared, measure}
use Rattle.machine.specs.Halts.{fault_of_halt}
use Rattle.durable_run.specs.Turning.{EndsBy, IsReady}
use Rattle.durable_run.specs.declared.passes.Pass.{Pass}
use Rattle.durable_run.specs.declared.passes.Pass.TheVariants.{Went, Ended, Over}
use Rattle.durable_run.specs.declared.runs.RunEnd.TheVariants as ends

-- Further events may come; or all threads have ended; or the run is over.
abbrev pub PassesTo : Opening → ℕ → SetFacts → Setting Native Ref (NativeState Ref) Item → Pass → Shared
    → List ThreadFrames → Type 0
PassesTo o first set x Went s frames = IsReady o first set x s frames
PassesTo o first set x Ended s frames = IsReady o first set x s frames
    × All (λ (state : ThreadState). state.ended ≡ true) s.machine.rest.threads
PassesTo o first set x (Over halt) s frames = EndsBy o first (ends.Over (fault_of_halt s halt)) s

-- Less is left to do: acts were added, or without one there is less work.
abbrev pub IsLess : Shared → Shared → Type 0
IsLess old new = (length old.history.acts < length new.history.acts)
    ⊎ ((new.history.acts ≡ old.history.acts) × (measure new.machine < measure old.machine))

abbrev pub fault_of_pass : Shared → Pass → Option RunFault
fault_of_pass s (Over halt) = Some (fault_of_halt s halt)
fault_of_pass s other = None
