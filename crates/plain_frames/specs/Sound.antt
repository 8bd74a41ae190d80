-- Frames of a thread whose references are there: what turns and answers keep, so that each request is fit.
use Rattle.std.specs.Prelude.{◌≡◌, ◌≢◌, ℕ, ◌≤◌, Bool, true, List, [], ◌∷◌, length, slice_get, All, AllPairs, Option, Some, None}
use Rattle.run_types.specs.declared.resolved.At.{At}
use Rattle.run_types.specs.declared.key.Key.{Key}
use Rattle.run_types.specs.declared.key.Key.TheVariants as key
use Rattle.graph_model.specs.declared.types.Value.{Value}
use Rattle.natives.specs.declared.requests.Reply.TheVariants as reply
use Rattle.graph_model.specs.Heaps.{IsBelow}
use Rattle.run_history.specs.declared.plain.Progress.TheVariants.{BegunBy}
use Rattle.run_history.specs.Worlds.{World}
use Rattle.plain_model.specs.Facts.{SetFacts}
use Rattle.plain_model.specs.Requests.{PlainReply}
use Rattle.plain_model.specs.Replies.{NamesBelow, IsReplyTo}
use Rattle.plain_model.specs.Duties.{IsClass, IsThrowable, IsReferenceIn, IsFaultOfTurn, IsFit}
use Rattle.frame_cells.specs.declared.cell.Cell.{Cell}
use Rattle.frame_cells.specs.declared.cell.Cell.TheVariants.{Reference}
use Rattle.frame_cells.specs.Own.{Own}
use Rattle.frames.specs.declared.given.Given.{Given}
use Rattle.frames.specs.declared.given.Given.TheVariants as given
use Rattle.frames.specs.Settings.{Frame, Running, Native, Initialiser, Main, Doing, BeginsMain, BeginsThread, Unwinds}
use Rattle.frames.specs.Settings.{Initialises, Initialised, Breaks, Ends, Frames, NativeStep, Asks, Calls, Gives}
use Rattle.plain_frames.specs.Codes.{PlainNatives}

-- The classes whose initialisers stand among these frames.
abbrev pub initialised_by : {N : Type 0} → List (Frame Value N) → List ℕ
initialised_by [] = []
initialised_by (Initialiser class from ∷ below) = class ∷ initialised_by below
initialised_by (other ∷ below) = initialised_by below

module _ (world : World) where
  abbrev pub IsCellIn : Cell Value → Type 0
  IsCellIn (Reference r) = IsReferenceIn world r
  IsCellIn other = Unit {0}

  pub record IsOwnIn (own : Own Value) : Type 0 where
    pub locals : All IsCellIn own.locals
    pub stack : All IsCellIn own.stack

  abbrev pub IsGivenIn : Given Value → Type 0
  IsGivenIn (given.Reference r) = IsReferenceIn world r
  IsGivenIn other = Unit {0}

-- `is_in` tests whether what a native method's state refers to is among the first n objects.
module _ (set : SetFacts) {N : Type 0} (is_in : ℕ → N → Bool) (world : World) where
  abbrev pub IsNativeIn : N → Type 0
  IsNativeIn state = is_in (length world.heap.objects) state ≡ true

  abbrev pub IsHeldIn : Option (Key Value) → Type 0
  IsHeldIn None = Unit {0}
  IsHeldIn (Some (key.Object r)) = IsReferenceIn world r
  IsHeldIn (Some (key.Class c)) = IsClass set c

  -- of a thread's frames
  module _ (t : ℕ) where
    -- the thread has begun to initialise the class
    abbrev pub IsBegun : ℕ → Type 0
    IsBegun class = slice_get world.classes class ≡ Some (BegunBy t)

    abbrev pub IsFrameIn : Frame Value N → Type 0
    IsFrameIn (Running m at own held) = IsOwnIn world own × IsHeldIn held
    IsFrameIn (Native from state) = IsNativeIn state
    IsFrameIn (Initialiser class from) = IsBegun class
    IsFrameIn (Main m arguments) = IsReferenceIn world arguments

    -- the last frame is an initialiser
    abbrev pub IsInitialiser : List (Frame Value N) → Type 0
    IsInitialiser (Initialiser class from ∷ below) = Unit {0}
    IsInitialiser frames = ⊥

    abbrev pub IsDoingIn : Doing Value → List (Frame Value N) → Type 0
    IsDoingIn (BeginsMain class) frames = IsClass set class
    IsDoingIn (BeginsThread r) frames = IsReferenceIn world r
    IsDoingIn (Unwinds r class) frames = IsReferenceIn world r × IsThrowable set class
    IsDoingIn (Initialises super) frames = IsClass set super × IsInitialiser frames
    IsDoingIn Initialised frames = IsInitialiser frames
    IsDoingIn (Breaks f) frames = IsFaultOfTurn f
    IsDoingIn (Ends (Some class)) frames = IsThrowable set class
    IsDoingIn other frames = Unit {0}

    -- and no class is initialised twice
    pub record AreIn (fs : Frames Value N) : Type 0 where
      pub doing : IsDoingIn fs.doing fs.frames
      pub frames : All IsFrameIn fs.frames
      pub once : AllPairs (λ m n. m ≢ n) (initialised_by fs.frames)

  -- what a native method does next is in the world
  abbrev pub IsStepIn : NativeStep Value N → Type 0
  IsStepIn (Asks state) = IsNativeIn state
  IsStepIn (Calls state called class receiver) = IsNativeIn state × IsReferenceIn world receiver
  IsStepIn (Gives value) = IsGivenIn world value

-- the result of a method that a native method called
abbrev pub IsResult : PlainReply → Type 0
IsResult reply.Done = Unit {0}
IsResult (reply.Item value) = Unit {0}
IsResult r = ⊥

-- What native methods owe: a state that is in a world asks what is fit there; arguments, replies and
-- results that are in it lead to states that are; and so do more objects.
pub record KeepIn (set : SetFacts) {M N : Type 0} (natives : PlainNatives M N) (is_in : ℕ → N →
    Bool) : Type 0 where
  pub asks : (world : World) (t : ℕ) (s : N) → IsNativeIn set is_in world s →
      IsFit set world t (natives.asks s)
  pub start : (world : World) (k : M) (from : At) (values : List Value)
      → All (IsBelow (length world.heap.objects)) values →
      IsNativeIn set is_in world (natives.start k from values)
  pub answered : (world : World) (s : N) (r : PlainReply) → IsNativeIn set is_in world s
      → IsReplyTo set (natives.asks s) r → NamesBelow (length world.heap.objects) r
      → IsStepIn set is_in world (natives.next s r)
  pub returned : (world : World) (s : N) (r : PlainReply) → IsNativeIn set is_in world s → IsResult r
      → NamesBelow (length world.heap.objects) r → IsStepIn set is_in world (natives.next s r)
  pub more : (m n : ℕ) (s : N) → m ≤ n → is_in m s ≡ true → is_in n s ≡ true
