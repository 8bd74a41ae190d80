-- What an audit is in the midst of: the acts so far are a plain run.
use Rattle.std.specs.Prelude.{ℕ, suc, ◌<◌, List, length, take}
use Rattle.ap_base.specs.declared.reference.Ref.{Ref}
use Rattle.ap_base.specs.declared.reference.Item.{Item}
use Rattle.natives.specs.declared.methods.Native.{Native}
use Rattle.natives.specs.declared.states.NativeState.{NativeState}
use Rattle.frames.specs.Settings.{Setting}
use Rattle.run_history.specs.Recorded.{Recorded}
use Rattle.plain_model.specs.Facts.{SetFacts}
use Rattle.plain_model.specs.First.{first_known}
use Rattle.plain_heap.specs.Heaps.{shown_of}
use Rattle.plain_machine.specs.Standing.{Stands}
use Rattle.run_forms.specs.Standing.{IsRun, Launch}
use Rattle.audit_steps.specs.declared.steps.Audit.{Audit}
use Rattle.audit_acts.specs.Keeps.{HasKept}

-- The audit has followed these acts of a launch, which are a plain run of it, by its class set and its setting.
pub record IsAt (launch : Launch) (acts : List Recorded) (set : SetFacts)
    (x : Setting Native Ref (NativeState Ref) Item) (audit : Audit) : Type 0 where
  pub stands : Stands launch acts set x (shown_of audit.plain.world.heap) audit.plain.world.rest
      audit.plain.world.steps audit.plain.lanes.items
  pub kept : HasKept (first_known launch.set launch.opening) acts audit.kept

-- the acts before this one are a plain run, and with it they aren't
pub record StopsAt (launch : Launch) (acts : List Recorded) (n : ℕ) : Type 0 where
  pub there : n < length acts
  pub run : IsRun launch (take n acts)
  pub no_run : IsRun launch (take (suc n) acts) → ⊥
