-- How a run ends: where it is stuck, the fault tells a wait or none of each of the 64 threads.
use Rattle.std.proofs.Common.{◌≡◌, ℕ, List, length, Option, inl, inr, ap, sym, subst, ◌∙◌}
use Rattle.run_types.specs.declared.fault.RunFault.TheVariants as fault
use Rattle.run_types.specs.declared.fault.StepFault.{StepFault}
use Rattle.run_types.specs.declared.fault.StepFault.TheVariants as met
use Rattle.run_types.specs.declared.wait.On.{On}
use Rattle.run_types.specs.Faults.{run_fault}
use Rattle.ap_base.specs.declared.reference.Ref.{Ref}
use Rattle.ap_base.specs.declared.reference.Item.{Item}
use Rattle.natives.specs.declared.methods.Native.{Native}
use Rattle.natives.specs.declared.states.NativeState.{NativeState}
use Rattle.run_history.specs.Recorded.{Recorded}
use Rattle.plain_model.specs.Facts.{SetFacts}
use Rattle.frames.specs.Settings.{Setting}
use Rattle.plain_model.specs.Causes.{HasCause}
use Rattle.plain_model.specs.Runs.{known_of, request_after}
use Rattle.plain_model.proofs.Causes.{faults_have_causes}
use Rattle.run_forms.specs.Standing.{Launch, plain_code}
use Rattle.run_forms.specs.Ends.{IsEndedBy}
use Rattle.run_forms.specs.Views.{ThreadFrames}
use Rattle.machine.specs.Passed.{Opening, memory_of}
use Rattle.machine.specs.Passed.{Shared}
use Rattle.machine.specs.declared.events.Halt.{Halt}
use Rattle.machine.specs.declared.events.Halt.TheVariants.{Stuck}
use Rattle.machine.specs.Halts.{fault_of_halt}
use Rattle.durable_run.specs.Turning.{EndsBy, HasRun, IsReady}
use Rattle.durable_run.specs.declared.runs.RunEnd.TheVariants as ends

-- a step isn't stuck
no-stuck : (ws : List (Option On)) (m : StepFault) → fault.Stuck ws ≡ run_fault m → ⊥
no-stuck ws (met.BadCode at) e = cc
no-stuck ws (met.RegionRace t other place) e = cc
no-stuck ws (met.Full full) e = cc
no-stuck ws met.SinkFault e = cc
no-stuck ws met.ImageFault e = cc
no-stuck ws (met.LinkFault kind class index) e = cc

same-waits : (ws vs : List (Option On)) → fault.Stuck ws ≡ fault.Stuck vs → ws ≡ vs
same-waits ws vs e = cc

module _ (launch : Launch) (acts : List Recorded) (t : ℕ) (ws : List (Option On)) where
  by-cause : HasCause launch.set launch.opening launch.limits
      (known_of launch.set launch.main launch.opening (plain_code launch) acts)
      (request_after launch.set launch.main launch.opening (plain_code launch) acts) t (fault.Stuck ws) → length ws ≡ 64
  by-cause (inl full) = absurd (let e = full.names in cc)
  by-cause (inr (owes, inl wrong)) = absurd (let e = wrong.names.2 in cc)
  by-cause (inr (owes, inr (inl over))) = absurd (no-stuck ws over.met over.names)
  by-cause (inr (owes, inr (inr (inl race)))) = absurd (let e = race.names in cc)
  by-cause (inr (owes, inr (inr (inr (inl stuck))))) =
      ap (λ (vs : List (Option On)). length vs) (same-waits ws stuck.named stuck.names) ∙ stuck.sixty_four
  by-cause (inr (owes, inr (inr (inr (inr (inl heap)))))) = absurd (let e = heap.4.names in cc)
  by-cause (inr (owes, inr (inr (inr (inr (inr (inl log))))))) = absurd (let e = log.7.names in cc)
  by-cause (inr (owes, inr (inr (inr (inr (inr (inr monitors))))))) = absurd (let e = monitors.3.names in cc)

  stuck-long : (lines : ℕ) → IsEndedBy launch lines acts t (fault.Stuck ws) → length ws ≡ 64
  stuck-long lines (inl is) = by-cause (faults_have_causes launch.set launch.main launch.opening (plain_code launch)
      launch.limits lines acts t (fault.Stuck ws) is)
  stuck-long lines (inr fills) = absurd (let e = fills.1.names in cc)

pub waits-long : (o : Opening) (first : ℕ) (halt : Halt) (s : Shared)
    → EndsBy o first (ends.Over (fault_of_halt s halt)) s → halt ≡ Stuck → length s.notes.waits ≡ 64
waits-long o first halt s over is =
    let ended = subst (λ (h : Halt). EndsBy o first (ends.Over (fault_of_halt s h)) s) is over in
    stuck-long o.launch s.machine.acts ended.1.0 s.notes.waits _ ended.1.1

-- the image keeps its size
pub size-same : (o : Opening) (first : ℕ) (set : SetFacts) (x : Setting Native Ref (NativeState Ref) Item) (old new : Shared)
    (frames : List ThreadFrames) → IsReady o first set x old frames → HasRun o new
    → (memory_of new.machine).size ≡ (memory_of old.machine).size
size-same o first set x old new frames ready run =
    run.keeps.heap.size ∙ sym ready.running.runs.keeps.heap.size
