-- What a plain machine stands for: the acts that it has followed so far.
use Rattle.std.specs.Prelude.{◌≡◌, ◌⊎◌, ℕ, true, List, [], ◌∷◌, Option, Some, None}
use Rattle.std.specs.List.{AllByRecursion}
use Rattle.ap_base.specs.declared.reference.Ref.{Ref}
use Rattle.ap_base.specs.declared.reference.Item.{Item}
use Rattle.natives.specs.declared.methods.Native.{Native}
use Rattle.natives.specs.declared.requests.Request.{Request}
use Rattle.natives.specs.declared.states.NativeState.{NativeState}
use Rattle.run_history.specs.declared.act.Op.{Op}
use Rattle.run_history.specs.declared.act.Op.TheVariants as op
use Rattle.run_history.specs.declared.act.Act.{Act}
use Rattle.run_history.specs.declared.act.PlainKey.{PlainKey}
use Rattle.run_history.specs.Recorded.{Recorded}
use Rattle.run_history.specs.Worlds.{held}
use Rattle.frames.specs.Settings.{Setting}
use Rattle.frames.specs.Turns.{turn}
use Rattle.frame_steps.specs.Sized.{AreOf}
use Rattle.private_steps.specs.Waits.{WaitsAfter}
use Rattle.plain_model.specs.Facts.{SetFacts}
use Rattle.plain_model.specs.Codes.{is_persistent}
use Rattle.plain_model.specs.Limits.{monitors_left}
use Rattle.plain_model.specs.Runs.{IsAbout, op_given, request_after}
use Rattle.shared_objects.specs.declared.rest.Rest.{Rest}
use Rattle.shared_objects.specs.Shown.{Shown}
use Rattle.run_forms.specs.Views.{ThreadFrames}
use Rattle.run_forms.specs.Standing.{Launch, IsLaunch, StandsFor, known_at, plain_code, setting_of}
use Rattle.plain_machine.specs.declared.lanes.Lane.{Lane}
use Rattle.plain_machine.specs.Ops.{is_start}
use Rattle.plain_machine.specs.Trying.{IsReady, MakesObject}

-- The turn of frames asked this, and left these, which wait for the reply.
pub record IsTurned (launch : Launch) (fs : ThreadFrames) (q : Request Ref Item)
    (now : ThreadFrames) : Type 0 where
  pub asks : (turn (setting_of launch) fs).asks ≡ Some q
  pub frames : now ≡ (turn (setting_of launch) fs).frames
  pub waits : WaitsAfter q now

-- These are the frames of a thread, whether or not its next turn was made ahead.
abbrev pub IsAhead : Launch → ThreadFrames → Option (Request Ref Item) → ThreadFrames → Type 0
IsAhead launch fs None now = now ≡ fs
IsAhead launch fs (Some q) now = IsTurned launch fs q now

-- the threads have these frames, in their order
abbrev pub AreAhead : Launch → List ThreadFrames → List Lane → Type 0
AreAhead launch [] [] = Unit {0}
AreAhead launch (fs ∷ threads) (lane ∷ lanes) =
    IsAhead launch fs lane.asked lane.frames × AreAhead launch threads lanes
AreAhead launch threads lanes = ⊥

-- the frames of each thread are of this program
abbrev pub AreOfProgram : Launch → List Lane → Type 0
AreOfProgram launch lanes = AllByRecursion (λ (lane : Lane). AreOf launch.program lane.frames.frames) lanes

-- A plain machine of a launch stands for these acts, by its class set and its setting: they are a plain
-- run, and
-- what it has is the world after them and the frames of the threads that were started. `steps` bounds the
-- counts
-- of monitors and regions.
pub record Stands (launch : Launch) (acts : List Recorded) (set : SetFacts)
    (x : Setting Native Ref (NativeState Ref) Item) (shown : Shown) (rest : Rest) (steps : ℕ)
    (lanes : List Lane) : Type 0 where
  pub launched : IsLaunch launch
  pub facts : set ≡ launch.set
  pub setting : x ≡ setting_of launch
  pub threads : List ThreadFrames
  pub stands : StandsFor launch acts shown rest threads
  pub ahead : AreAhead launch threads lanes
  pub of : AreOfProgram launch lanes
  pub ready : IsReady launch.set shown rest steps

-- ---- which act may come next

-- The operation is one of persistence, or that of the plain step for its thread, with the request that the
-- turn of its frames gives.
abbrev pub IsNext : Launch → List Recorded → Act → Type 0
IsNext launch acts act =
    (is_persistent act.op ≡ true)
    ⊎ IsAbout launch.set (known_at launch acts)
    (request_after launch.set launch.main launch.opening (plain_code launch) acts act.thread) act.thread
    act.op

-- the operation of the plain step of the act's thread, where a print takes one byte
abbrev pub next_op : Launch → List Recorded → Act → Option Op
next_op launch acts act = op_given launch.set (known_at launch acts).world act.thread 1
    (request_after launch.set launch.main launch.opening (plain_code launch) acts act.thread)

-- the plain step of the act's thread takes a monitor that nobody holds, and as many are held as may be
pub record LacksMonitors (launch : Launch) (acts : List Recorded) (act : Act) : Type 0 where
  pub takes : (key : PlainKey) × (next_op launch acts act ≡ Some (op.Enter key))
      × (held (known_at launch acts).world.monitors key ≡ None)
  pub none_left : monitors_left (known_at launch acts).world.monitors ≡ 0

-- Why an act can't be followed: memory is wanted, for the frames of the thread that it starts or for the
-- object that
-- the plain step of its thread makes; or there are too many monitors or steps.
pub data MayLack (launch : Launch) (acts : List Recorded) (act : Act) (steps : ℕ) : Type 0 where
  NoFrames : is_start act.op ≡ true → MayLack launch acts act steps
  NoObject : (o : Op) → next_op launch acts act ≡ Some o → MakesObject o → MayLack launch acts act steps
  NoMonitors : LacksMonitors launch acts act → MayLack launch acts act steps
  NoSteps : steps ≡ 18446744073709551613 → MayLack launch acts act steps

-- the act, with the objects that it names
abbrev pub recorded : Act → List ℕ → Recorded
recorded act named = record { act = act; named = named }
