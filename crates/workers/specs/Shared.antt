-- A run that host threads share: the frames of its threads lie apart.
use Rattle.std.specs.Prelude.{◌≡◌, ℕ, ltb, if◌then◌else◌, true, List, [], ◌∷◌, drop, length, map, slice_get, slice_set}
use Rattle.std.specs.Prelude.{Option, Some, None, IsSome}
use Rattle.std.specs.declared.snapshot.Snapshot.{Snapshot}
use Rattle.ap_base.specs.declared.reference.Ref.{Ref}
use Rattle.ap_base.specs.declared.reference.Item.{Item}
use Rattle.natives.specs.declared.methods.Native.{Native}
use Rattle.natives.specs.declared.requests.Request.{Request}
use Rattle.natives.specs.declared.states.NativeState.{NativeState}
use Rattle.run_history.specs.declared.act.Act.{Act}
use Rattle.run_history.specs.Recorded.{Recorded}
use Rattle.plain_model.specs.Facts.{SetFacts}
use Rattle.frames.specs.Settings.{Setting}
use Rattle.run_forms.specs.Views.{ThreadFrames}
use Rattle.durable_run.specs.Apart.{StretchesTo, begun_as}
use Rattle.durable_run.specs.Passed.{AreOf, Opening, Shared, asked_by, started_as}
use Rattle.durable_run.specs.Turning.{IsReady, is_live}
use Rattle.durable_run.specs.declared.apart.Stretch.{Stretch}
use Rattle.durable_run.specs.declared.steps.Stepped.{Stepped}
use Rattle.durable_run.specs.declared.steps.Stepped.TheVariants.{Acted}
use Rattle.workers.specs.Held.{Began, Held}

-- ---- the frames of all threads

abbrev pub values_of : List (Snapshot ThreadFrames) → List ThreadFrames
values_of notes = map (λ (s : Snapshot ThreadFrames). s.value) notes

-- The frames of all threads: of one that was started and hasn't begun yet those with which it begins, else those that were noted.
abbrev pub all_frames : (begins : List (Option Ref)) → (noted : List ThreadFrames) → List ThreadFrames
all_frames [] noted = []
all_frames (thread ∷ begins) [] = []
all_frames (thread ∷ begins) (fs ∷ noted) = begun_as thread fs ∷ all_frames begins noted

-- who begins, with the thread behind so many if it was started
abbrev pub with_start : List (Option Ref) → ℕ → Option Ref → List (Option Ref)
with_start begins child None = begins
with_start begins child (Some thread) = slice_set begins child (Some thread)

-- who begins after an event, before which so many were started
abbrev pub begins_after : Stepped → ℕ → Shared → List (Option Ref) → List (Option Ref)
begins_after Acted count new begins = if ltb count (length new.machine.rest.threads) then
    with_start begins count (started_as new.notes count) else begins
begins_after went count new begins = begins

-- ---- what lies in the turnstile

-- the acts behind so many, without the objects that they name
abbrev pub entries_from : ℕ → List Recorded → List Act
entries_from from acts = map (λ (a : Recorded). a.act) (drop from acts)

-- The run, the frames that each thread left, and the acts since host threads share it.
pub record Desked : Type 0 where
  pub run : Held
  pub noted : List ThreadFrames
  pub entries : List Act

abbrev pub desked : Held → List ThreadFrames → List Act → Desked
desked run noted entries = record { run = run; noted = noted; entries = entries }

-- ---- an event that is next

-- How the frames that a thread left have come to those of now: turns of them have begun so; or nothing was done, since its last turn isn't
-- answered yet.
abbrev pub ComesSo : Setting Native Ref (NativeState Ref) Item → Option Stretch → (before now : ThreadFrames) → Type 0
ComesSo x (Some stretch) before now = StretchesTo x stretch before now × AreOf x.program now.frames
ComesSo x None before now = now ≡ before

-- how many turns paused before the last one that began
abbrev pub pauses_of : Option Stretch → ℕ
pauses_of None = 0
pauses_of (Some stretch) = stretch.pauses

-- what is asked, where a turn has begun or not
abbrev pub IsAskedAs : Option Stretch → Option (Request Ref Item) → Type 0
IsAskedAs (Some stretch) asked = asked ≡ None
IsAskedAs None asked = IsSome asked

-- Thread t's event is next: an event might come of the frames that it left, and with them it has come so to those of now.
pub record IsNext (o : Opening) (first : ℕ) (set : SetFacts) (x : Setting Native Ref (NativeState Ref) Item)
    (s : Shared) (all : List ThreadFrames) (t : ℕ) (begun : Option Stretch) (before now : ThreadFrames) : Type 0 where
  pub ready : IsReady o first set x s all
  pub there : slice_get all t ≡ Some before
  pub live : is_live s.machine.rest.threads t ≡ true
  pub asked : IsAskedAs begun (asked_by s.notes t)
  pub comes : ComesSo x begun before now

-- the frames are of the program of the run that began so
abbrev pub IsOfRun : Option Began → ThreadFrames → Type 0
IsOfRun entry fs = (e : Began) × (entry ≡ Some e) × AreOf e.setting.program fs.frames
