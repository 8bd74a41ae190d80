-- A plain run whose acts are followed one after another.
use Rattle.std.specs.Prelude.{◌≡◌, ℕ, ◌≤◌, List, [], length}
use Rattle.ap_base.specs.declared.place.Place.TheVariants.{Static, Slot}
use Rattle.run_history.specs.declared.act.Op.{Op}
use Rattle.run_history.specs.declared.act.Op.TheVariants as op
use Rattle.run_history.specs.Recorded.{Recorded}
use Rattle.run_history.specs.Knowing.{Knowledge}
use Rattle.plain_model.specs.Facts.{SetFacts}
use Rattle.plain_model.specs.First.{numbers_to}
use Rattle.plain_heap.specs.Heaps.{shown_of}
use Rattle.plain_machine.specs.Standing.{Stands}
use Rattle.program_host.specs.Hosts.{setting_in}
use Rattle.run_forms.specs.Standing.{Launch, known_at}
use Rattle.plain_launch.specs.declared.launches.PlainRun.{PlainRun}

-- At most object 0 is durable; no region has guarded a place, no store is to be fenced, and no image call was
-- made.
pub record IsCalm (known : Knowledge) : Type 0 where
  pub count : ℕ
  pub durable : known.durable ≡ numbers_to count
  pub few : count ≤ 1
  pub there : count ≤ length known.world.heap.objects
  pub guards : known.guards ≡ []
  pub unfenced : known.unfenced ≡ []
  pub early : known.at ≡ 0

-- The run stands for some acts of a launch, after which nothing is open.
pub record IsPlaying (set : SetFacts) (run : PlainRun) : Type 0 where
  pub launch : Launch
  pub acts : List Recorded
  pub stands : Stands launch acts set (setting_in run.host) (shown_of run.plain.world.heap)
      run.plain.world.rest run.plain.world.steps run.plain.lanes.items
  pub calm : IsCalm (known_at launch acts)

-- it is no operation of persistence, and stores to slots of objects past the first alone
abbrev pub IsCalmOp : Op → Type 0
IsCalmOp (op.Asked place value) = ⊥
IsCalmOp op.Joined = ⊥
IsCalmOp (op.Guarded place) = ⊥
IsCalmOp op.Closing = ⊥
IsCalmOp op.Fenced = ⊥
IsCalmOp (op.Stored (Static n) value) = ⊥
IsCalmOp (op.Stored (Slot n i) value) = 1 ≤ n
IsCalmOp o = Unit {0}
