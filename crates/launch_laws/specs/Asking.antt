-- Of what the requests for arrays come, of a turn and in a run.
use Rattle.std.specs.Prelude.{◌≡◌, ◌⊎◌, ℕ, ℤ, List, ◌∷◌, Some}
use Rattle.run_types.specs.declared.resolved.At.{At}
use Rattle.natives.specs.declared.requests.Request.{Request}
use Rattle.natives.specs.declared.requests.Request.TheVariants as ask
use Rattle.run_history.specs.Recorded.{Recorded}
use Rattle.plain_model.specs.Facts.{known_classes}
use Rattle.plain_model.specs.Runs.{request_after}
use Rattle.frames.specs.declared.op.Op.TheVariants as op
use Rattle.frames.specs.declared.program.Program.{Program}
use Rattle.frames.specs.Tables.{placed_at}
use Rattle.frames.specs.Settings.{Frame, Native, Frames, Setting}
use Rattle.frames.specs.Turns.{turn}
use Rattle.run_forms.specs.Views.{ThreadFrames}
use Rattle.run_forms.specs.Standing.{Launch, IsLaunch, IsRun, IsAsking, plain_code}
use Rattle.run_forms.specs.Laws.{OfMachines}

-- ---- a turn

-- An instruction of the program's code makes arrays of this type (JVMS 6.5, newarray, anewarray).
abbrev pub HasNewArray : {M : Type 0} → Program M → (shape : ℕ) → Type 0
HasNewArray p shape = (at : ℕ) × ((placed_at p at).op ≡ op.NewArray shape)

module _ {M R N V : Type 0} (x : Setting M R N V) where
  -- the last frame is of a native method that waits for the reply to this request
  abbrev pub IsAskedByNative : Request R V → List (Frame R N) → Type 0
  IsAskedByNative request (Native from state ∷ below) = x.asks state ≡ request
  IsAskedByNative request frames = ⊥

  -- An array is asked by an instruction that makes such, or by a native method. Native methods alone start
  -- threads, and begin and end failure-atomic regions.
  abbrev pub IsAskedSo : Request R V → List (Frame R N) → Type 0
  IsAskedSo (ask.NewArray from shape count) frames =
      HasNewArray x.program shape ⊎ IsAskedByNative (ask.NewArray from shape count) frames
  IsAskedSo (ask.Start from thread) frames = IsAskedByNative (ask.Start from thread) frames
  IsAskedSo (ask.Begin from) frames = IsAskedByNative (ask.Begin from) frames
  IsAskedSo (ask.End from) frames = IsAskedByNative (ask.End from) frames
  IsAskedSo request frames = Unit {0}

-- So does each turn ask, with the frames as it leaves them.
abbrev pub TurnsAskSo : (M R N V : Type 0) → Type 0
TurnsAskSo M R N V = (x : Setting M R N V) (fs : Frames R N) (request : Request R V)
    → (turn x fs).asks ≡ Some request → IsAskedSo x request (turn x fs).frames.frames

-- ---- a run

-- whatever array type a thread asks for, at a point of a plain run of a launch
abbrev pub OfRuns : (Launch → (shape : ℕ) → Type 0) → Type 0
OfRuns P = (launch : Launch) (acts : List Recorded) (t : ℕ) (from : At) (shape : ℕ) (count : ℤ)
    → IsLaunch launch → IsRun launch acts
    → request_after launch.set launch.main launch.opening (plain_code launch) acts t
    ≡ Some (ask.NewArray from shape count) → P launch shape

-- the same of a machine that stands for a plain run, whose references may move
abbrev pub OfThreads : (Launch → (shape : ℕ) → Type 0) → Type 0
OfThreads P = OfMachines (λ launch acts shown rest threads.
    (t : ℕ) (fs : ThreadFrames) (from : At) (shape : ℕ) (count : ℤ)
    → IsAsking launch rest threads t fs (ask.NewArray from shape count) → P launch shape)

-- An instruction of the program makes such arrays, or they are of chars, as a StringBuilder makes them.
abbrev pub IsMadeByCode : Launch → (shape : ℕ) → Type 0
IsMadeByCode launch shape =
    HasNewArray launch.program shape ⊎ (shape ≡ (known_classes launch.set).chars)

abbrev pub RunsAskForTheirArrays : Type 0
RunsAskForTheirArrays = OfRuns IsMadeByCode

abbrev pub ThreadsAskForTheirArrays : Type 0
ThreadsAskForTheirArrays = OfThreads IsMadeByCode
