-- What a turn's request, its step and its answer make of a machine that stands for a plain run.
use Rattle.std.specs.Prelude.{◌≡◌, ℕ, List, [], ◌∷◌, ◌++◌, map, slice_set, None, Some}
use Rattle.ap_base.specs.declared.reference.Ref.{Ref}
use Rattle.ap_base.specs.declared.reference.Ref.TheVariants.{Null}
use Rattle.ap_base.specs.declared.reference.Item.{Item}
use Rattle.graph_model.specs.declared.types.Root.{Root}
use Rattle.natives.specs.declared.requests.Request.{Request}
use Rattle.natives.specs.declared.requests.Reply.{Reply}
use Rattle.run_history.specs.Recorded.{Recorded}
use Rattle.plain_model.specs.Codes.{begun_by}
use Rattle.plain_model.specs.Runs.{MayAct, wants_of}
use Rattle.frames.specs.Turns.{turn, answer}
use Rattle.shared_objects.specs.declared.rest.Rest.{Rest}
use Rattle.shared_objects.specs.Shown.{Keeps, Shown}
use Rattle.shared_objects.specs.Plain.{plain_request}
use Rattle.shared_objects.specs.Worlds.{KnowsMonitors, world_of}
use Rattle.step_forms.specs.declared.stepped.Stepped.TheVariants as stepped
use Rattle.step_forms.specs.Follows.{IsHeapOf, IsStep}
use Rattle.run_forms.specs.Views.{ThreadFrames, plain_frames}
use Rattle.run_forms.specs.Standing.{Launch, IsLaunch, StandsFor, IsAsking, IsAsked, plain_code, known_at, setting_of}

-- of every machine that stands for a plain run of a launch
abbrev pub OfMachines : ((launch : Launch) → List Recorded → Shown → Rest → List ThreadFrames → Type 0)
    → Type 0
OfMachines P = (launch : Launch) (acts : List Recorded) (shown : Shown) (rest : Rest)
    (threads : List ThreadFrames) → IsLaunch launch → StandsFor launch acts shown rest threads
    → P launch acts shown rest threads

-- Its heap is one of the class set, and typed.
abbrev pub HeapsAreOfTheSet : Type 0
HeapsAreOfTheSet = OfMachines (λ launch acts shown rest threads. IsHeapOf launch.set shown)

-- A thread that lives asks what the plain machine asks, and that is fit.
abbrev pub ThreadsAskAlike : Type 0
ThreadsAskAlike = OfMachines (λ launch acts shown rest threads.
    (t : ℕ) (fs : ThreadFrames) (request : Request Ref Item) → IsAsking launch rest threads t fs request
    → IsAsked launch acts shown rest t request)

-- the frames of all threads once the turn of thread t is answered, and these threads have begun
abbrev pub answered_threads : Launch → List ThreadFrames → ℕ → ThreadFrames → Reply Ref Item
    → List ThreadFrames → List ThreadFrames
answered_threads launch threads t fs r begun =
    slice_set threads t (answer (setting_of launch) (turn (setting_of launch) fs).frames r) ++ begun

-- The request's step does this and replies this, which leads from one heap and world to the next, and the
-- act may come next.
pub record IsActOf (launch : Launch) (acts : List Recorded) (shown : Shown) (rest : Rest)
    (request : Request Ref Item) (a : Recorded) (r : Reply Ref Item) (now : Shown) (rest_now : Rest) : Type 0 where
  pub steps : IsStep launch.set a.act.thread request shown rest (stepped.Did a.act.op r) now rest_now
  pub may : MayAct launch.set (known_at launch acts)
      (wants_of launch.set launch.main launch.opening (plain_code launch) acts)
      (Some (plain_request shown.number request)) a
  pub null : now.number Null ≡ None

-- Then the machine stands for the plain run with one act more: its threads' frames are those after the
-- answer, and what begins is what the act starts.
abbrev pub ActsGoOn : Type 0
ActsGoOn = OfMachines (λ launch acts shown rest threads.
    (a : Recorded) (fs : ThreadFrames) (request : Request Ref Item) (r : Reply Ref Item)
    (now : Shown) (rest_now : Rest) (begun : List ThreadFrames)
    → IsAsking launch rest threads a.act.thread fs request
    → IsActOf launch acts shown rest request a r now rest_now
    → map (plain_frames now) begun
    ≡ begun_by launch.set launch.main launch.opening (plain_code launch) a.act.op
    → StandsFor launch (acts ++ a ∷ []) now rest_now
    (answered_threads launch threads a.act.thread fs r begun))

-- What a move of objects leaves: each reference stands for its number, and heap and rest show the same world, with
-- monitors under their objects' keys.
pub record ShowsSameWorld (before now : Shown) (rest rest_now : Rest) : Type 0 where
  pub keeps : Keeps before.number now.number
  pub world : (roots : List Root) → world_of roots now rest_now ≡ world_of roots before rest
  pub monitors : KnowsMonitors now rest_now
  pub null : now.number Null ≡ None

-- Then the machine stands for the same acts, with the same frames.
abbrev pub MovesStandForTheRun : Type 0
MovesStandForTheRun = OfMachines (λ launch acts shown rest threads.
    (now : Shown) (rest_now : Rest) → ShowsSameWorld shown now rest rest_now
    → StandsFor launch acts now rest_now threads)
