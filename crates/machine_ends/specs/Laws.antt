-- How an event ends the plain run of a machine over a shared heap, and how the run finishes; and that the
-- events of its acts met no fault.
use Rattle.std.specs.Prelude.{◌≡◌, ◌≢◌, ◌⊎◌, ℕ, ◌<◌, ◌≤◌, true, false, List, map, length, slice_get, All, Some}
use Rattle.ap_base.specs.declared.place.Place.{Place}
use Rattle.ap_base.specs.declared.reference.Ref.{Ref}
use Rattle.ap_base.specs.declared.reference.Item.{Item}
use Rattle.run_types.specs.declared.fault.RunFault.TheVariants as fault
use Rattle.run_types.specs.declared.fault.Which.TheVariants as which
use Rattle.natives.specs.declared.requests.Request.{Request}
use Rattle.natives.specs.declared.requests.Reply.{Reply}
use Rattle.run_history.specs.declared.act.Op.{Op}
use Rattle.run_history.specs.Knowing.{guard_of}
use Rattle.plain_model.specs.Ends.{EndsAs, first_uncaught, full}
use Rattle.shared_objects.specs.declared.rest.Rest.{Rest}
use Rattle.shared_objects.specs.declared.threads.ThreadState.{ThreadState}
use Rattle.shared_objects.specs.Shown.{Shown}
use Rattle.shared_objects.specs.Worlds.{plain_thread}
use Rattle.step_forms.specs.declared.stepped.Stepped.{Stepped}
use Rattle.step_forms.specs.declared.stepped.Stepped.TheVariants as stepped
use Rattle.step_forms.specs.Follows.{IsStep}
use Rattle.run_forms.specs.Views.{ThreadFrames}
use Rattle.run_forms.specs.Standing.{plain_code}
use Rattle.run_forms.specs.Ends.{IsEndedBy, Ends, MeetsNoFault}
use Rattle.machine_laws.specs.Passed.{Doing}
use Rattle.machine_laws.specs.Passed.{Writing, Fencing}
use Rattle.machine_laws.specs.Passed.{Machine, doing_of, known_in, shown_in}
use Rattle.machine_laws.specs.Passed.{IsStoreOf, AsksEnd, value_in}
use Rattle.machine_laws.specs.Frames.{OfPlain, Asks, IsReady}
use Rattle.machine_ends.specs.Stores.{StoresFreely, IsFreeOp, FillsLogOf}

-- ---- threads

-- Thread t hasn't ended, and its own frames are these, whatever they ask.
pub record Lives (m : Machine) (threads : List ThreadFrames) (t : ℕ) (fs : ThreadFrames) : Type 0 where
  pub state : ThreadState
  pub thread : slice_get m.rest.threads t ≡ Some state
  pub lives : state.ended ≡ false
  pub frames : slice_get threads t ≡ Some fs

-- a thread whose durable store isn't fenced
abbrev pub OwesFence : Doing → Type 0
OwesFence d = ((line : ℕ) × (d ≡ Writing line)) ⊎ (d ≡ Fencing)

-- ---- faults

-- A history that has as many acts as it may have ends the run before all else, whatever the thread is about.
abbrev pub FullHistoriesEnd : Type 0
FullHistoriesEnd = OfPlain (λ o m es threads. (lines t : ℕ) (fs : ThreadFrames) → Lives m threads t fs
    → o.launch.limits.acts ≤ length m.acts → IsEndedBy o.launch lines m.acts t (full which.Acts 1 0))

-- While there is room for an act, the step's fault is that by which the event ends the run.
abbrev pub StepsEnd : Type 0
StepsEnd = OfPlain (λ o m es threads. (lines t : ℕ) (fs : ThreadFrames) (request : Request Ref Item)
    (result : Stepped) (now : Shown) (rest_now : Rest) → IsReady (doing_of m t)
    → Asks o m threads t fs request
    → IsStep o.launch.set t request (shown_in m) m.rest result now rest_now
    → length m.acts < o.launch.limits.acts → Ends o.launch lines m.acts t request result)

-- While there is room for an act, the image may fail in each event, whatever the thread is about.
abbrev pub ImageFaultsEnd : Type 0
ImageFaultsEnd = OfPlain (λ o m es threads. (lines t : ℕ) (fs : ThreadFrames) → Lives m threads t fs
    → length m.acts < o.launch.limits.acts → IsEndedBy o.launch lines m.acts t fault.ImageFault)

-- While there is room for an act, a thread whose region would guard a further place and whose log is full ends
-- the run by that.
abbrev pub FullLogsEnd : Type 0
FullLogsEnd = OfPlain (λ o m es threads. (lines t : ℕ) (fs : ThreadFrames) (request : Request Ref Item)
    (place : Place) (item : Item) → IsReady (doing_of m t) → Asks o m threads t fs request
    → IsStoreOf o m t request place item → FillsLogOf o m t place (value_in m item)
    → length m.acts < o.launch.limits.acts → IsEndedBy o.launch lines m.acts t (full which.LogEntries 1 0))

-- So does one whose store is to a place that the open region of another thread has guarded.
abbrev pub RacesEnd : Type 0
RacesEnd = OfPlain (λ o m es threads. (lines t other : ℕ) (fs : ThreadFrames) (request : Request Ref Item)
    (place : Place) (item : Item) → IsReady (doing_of m t) → Asks o m threads t fs request
    → IsStoreOf o m t request place item → guard_of (known_in o m).guards place ≡ Some other → other ≢ t
    → length m.acts < o.launch.limits.acts
    → IsEndedBy o.launch lines m.acts t (fault.RegionRace t other place))

-- ---- no fault

-- The event of a step that does an operation meets none, while there is room for its act; where it stores, no
-- guard is in its way, and none is lacking.
abbrev pub StepsMeetNoFault : Type 0
StepsMeetNoFault = OfPlain (λ o m es threads. (lines t : ℕ) (fs : ThreadFrames) (request : Request Ref Item)
    (operation : Op) (r : Reply Ref Item) (now : Shown) (rest_now : Rest) → IsReady (doing_of m t)
    → Asks o m threads t fs request
    → IsStep o.launch.set t request (shown_in m) m.rest (stepped.Did operation r) now rest_now
    → IsFreeOp o m t operation → length m.acts < o.launch.limits.acts
    → MeetsNoFault o.launch lines m.acts t)

-- Nor does an event of a thread that owes a fence.
abbrev pub FencesMeetNoFault : Type 0
FencesMeetNoFault = OfPlain (λ o m es threads. (lines t : ℕ) → OwesFence (doing_of m t)
    → length m.acts < o.launch.limits.acts → MeetsNoFault o.launch lines m.acts t)

-- Nor one of a thread whose request is such a store: what is asked for it, the seal of a group, the place that
-- is guarded for it, or the store.
abbrev pub StoresMeetNoFault : Type 0
StoresMeetNoFault = OfPlain (λ o m es threads. (lines t : ℕ) (fs : ThreadFrames)
    (request : Request Ref Item) (place : Place) (item : Item) → IsReady (doing_of m t)
    → Asks o m threads t fs request → IsStoreOf o m t request place item
    → StoresFreely o m t place (value_in m item) → length m.acts < o.launch.limits.acts
    → MeetsNoFault o.launch lines m.acts t)

-- Nor one of a thread that asks to end a region: its closing, or its end.
abbrev pub EndsMeetNoFault : Type 0
EndsMeetNoFault = OfPlain (λ o m es threads. (lines t : ℕ) (fs : ThreadFrames)
    (request : Request Ref Item) → Asks o m threads t fs request → AsksEnd o m t request
    → length m.acts < o.launch.limits.acts → MeetsNoFault o.launch lines m.acts t)

-- ---- the end of a run

-- Where all threads have ended, the run ends by the least one that a throwable ended, or has finished.
abbrev pub RunsFinish : Type 0
RunsFinish = OfPlain (λ o m es threads. (lines : ℕ)
    → All (λ (state : ThreadState). state.ended ≡ true) m.rest.threads
    → EndsAs o.launch.set o.launch.main o.launch.opening (plain_code o.launch) o.launch.limits lines m.acts
    (first_uncaught 0 (map plain_thread m.rest.threads)))
