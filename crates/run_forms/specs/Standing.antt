-- When a machine stands for a plain run: the frames of its threads, the heap and the rest of its world are
-- what the plain machine has after the same acts.
use Rattle.std.specs.Prelude.{◌≡◌, ℕ, ◌<◌, false, List, [], map, length, slice_get, Some, None}
use Rattle.ap_base.specs.declared.reference.Ref.{Ref}
use Rattle.ap_base.specs.declared.reference.Ref.TheVariants.{Null}
use Rattle.ap_base.specs.declared.reference.Item.{Item}
use Rattle.ap_base.specs.declared.reference.Item.TheVariants as item
use Rattle.run_types.specs.declared.limits.Limits.{Limits}
use Rattle.graph_model.specs.declared.types.Graph.{Graph}
use Rattle.graph_model.specs.declared.types.Root.{Root}
use Rattle.natives.specs.declared.methods.Native.{Native}
use Rattle.natives.specs.declared.requests.Request.{Request}
use Rattle.natives.specs.declared.states.NativeState.{NativeState}
use Rattle.natives.specs.Coded.{items}
use Rattle.run_history.specs.Recorded.{Recorded}
use Rattle.run_history.specs.Knowing.{Knowledge}
use Rattle.plain_model.specs.Facts.{SetFacts, known_classes}
use Rattle.plain_model.specs.Consistent.{IsConsistent}
use Rattle.plain_model.specs.First.{IsOpening, literal_number}
use Rattle.plain_model.specs.Codes.{Code}
use Rattle.plain_model.specs.Runs.{IsPlainRun, frames_of, known_of, request_after}
use Rattle.plain_model.specs.Duties.{IsClass, IsFit}
use Rattle.frames.specs.declared.program.Program.{Program}
use Rattle.frames.specs.Settings.{Setting}
use Rattle.frames.specs.Tables.{start_of}
use Rattle.frames.specs.Turns.{turn}
use Rattle.plain_frames.specs.Codes.{code_of}
use Rattle.plain_frames.specs.Tables.{NamesWhatIsThere}
use Rattle.plain_frames.specs.Coded.{item_given}
use Rattle.plain_frames.specs.Machines.{setting}
use Rattle.plain_frames.specs.Methods.{plain_natives}
use Rattle.shared_objects.specs.declared.rest.Rest.{Rest}
use Rattle.shared_objects.specs.declared.threads.ThreadState.{ThreadState}
use Rattle.shared_objects.specs.Shown.{Shown}
use Rattle.shared_objects.specs.Plain.{plain_request, KnowsRequest}
use Rattle.shared_objects.specs.Worlds.{world_of, KnowsMonitors}
use Rattle.run_forms.specs.Views.{item_cells, ThreadFrames, PlainFrames, plain_frames}

-- What a run begins with: a class set and its decoded tables, the main class and the number of `main`, the
-- graph that was opened, the references of the string literals, and its limits.
pub record Launch : Type 0 where
  pub set : SetFacts
  pub program : Program Native
  pub main : ℕ
  pub method : ℕ
  pub opening : Graph
  pub literal : ℕ → Ref
  pub limits : Limits

-- the set is consistent, its tables name what is there, the graph is one of it, and so is the main class
pub record IsLaunch (launch : Launch) : Type 0 where
  pub consistent : IsConsistent launch.set
  pub names : NamesWhatIsThere launch.set launch.program
  pub opening : IsOpening launch.set launch.opening
  pub main : IsClass launch.set launch.main

-- what the machine gives its frames
abbrev pub setting_of : Launch → Setting Native Ref (NativeState Ref) Item
setting_of launch = setting items item_given (known_classes launch.set) launch.program
    (start_of launch.program launch.method) launch.literal item.Long item_cells

-- ---- the plain machine

module _ (launch : Launch) where
  abbrev pub plain_code : Code launch.set launch.main launch.opening PlainFrames
  plain_code = code_of launch.set launch.opening launch.program (plain_natives launch.set) launch.method
      launch.main

  abbrev pub IsRun : List Recorded → Type 0
  IsRun acts = IsPlainRun launch.set launch.main launch.opening plain_code acts

  abbrev pub known_at : List Recorded → Knowledge
  known_at acts = known_of launch.set launch.main launch.opening plain_code acts

  abbrev pub frames_at : List Recorded → List PlainFrames
  frames_at acts = frames_of launch.set launch.main launch.opening plain_code acts

-- ---- standing

-- the references of the literals stand for their objects
abbrev pub HasLiterals : Launch → Shown → Type 0
HasLiterals launch shown = (k : ℕ) → k < length launch.set.literals
    → shown.number (launch.literal k) ≡ Some (literal_number launch.set launch.opening k)

-- The acts are a plain run. What a heap and the rest show is its world after them, whatever the durable
-- roots are, and the frames of the threads, the first thread's first, are its frames.
pub record StandsFor (launch : Launch) (acts : List Recorded) (shown : Shown) (rest : Rest)
    (threads : List ThreadFrames) : Type 0 where
  pub run : IsRun launch acts
  pub roots : List Root
  pub world : (known_at launch acts).world ≡ world_of roots shown rest
  pub frames : frames_at launch acts ≡ map (plain_frames shown) threads
  pub monitors : KnowsMonitors shown rest
  pub literals : HasLiterals launch shown
  pub null : shown.number Null ≡ None

-- Thread t lives, its frames are these, and their turn asks this.
pub record IsAsking (launch : Launch) (rest : Rest) (threads : List ThreadFrames) (t : ℕ) (fs : ThreadFrames)
    (request : Request Ref Item) : Type 0 where
  pub state : ThreadState
  pub thread : slice_get rest.threads t ≡ Some state
  pub lives : state.ended ≡ false
  pub frames : slice_get threads t ≡ Some fs
  pub asks : (turn (setting_of launch) fs).asks ≡ Some request

-- The plain machine asks the same, and that is fit: its references are null or stand for objects, and what
-- it names is there.
pub record IsAsked (launch : Launch) (acts : List Recorded) (shown : Shown) (rest : Rest) (t : ℕ)
    (request : Request Ref Item) : Type 0 where
  pub thread : t < length rest.threads
  pub plain : request_after launch.set launch.main launch.opening (plain_code launch) acts t
      ≡ Some (plain_request shown.number request)
  pub known : KnowsRequest shown.number request
  pub fit : IsFit launch.set (world_of [] shown rest) t (plain_request shown.number request)
