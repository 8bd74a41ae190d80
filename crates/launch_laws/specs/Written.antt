-- The array types that threads ask for have shapes in an image's directory.
use Rattle.std.specs.Prelude.{◌≡◌, ℕ, true, Option}
use Rattle.natives.specs.Methods.{native_at as built_in_native}
use Rattle.plain_model.specs.Facts.{known_classes}
use Rattle.class_set.specs.Linked.{Linked}
use Rattle.class_set.specs.Facts.{facts_of}
use Rattle.class_set.specs.Sets.{IsLinked}
use Rattle.class_code.specs.Programs.{program_of}
use Rattle.set_directory.specs.Written.{is_written}
use Rattle.run_forms.specs.Standing.{Launch}
use Rattle.launch_laws.specs.Asking.{HasNewArray, OfRuns, OfThreads}

-- An instruction of a linked set's code makes arrays of such types alone. M is the type of native methods.
abbrev pub CodeMakesWrittenArrays : (M : Type 0) → Type 0
CodeMakesWrittenArrays M = (native_at : (place number : ℕ) → Option M) (set : Linked) (shape : ℕ)
    → IsLinked set → HasNewArray (program_of native_at set) shape → is_written set shape ≡ true

-- That of a StringBuilder's chars is one.
abbrev pub CharsAreWritten : Type 0
CharsAreWritten = (set : Linked) → IsLinked set
    → is_written set (known_classes (facts_of set)).chars ≡ true

-- the launch runs this set's program
pub record RunsSet (launch : Launch) (set : Linked) : Type 0 where
  pub facts : launch.set ≡ facts_of set
  pub program : launch.program ≡ program_of built_in_native set

-- a directory of the set that the launch runs has the type's shape
abbrev pub IsWrittenFor : Launch → (shape : ℕ) → Type 0
IsWrittenFor launch shape = (set : Linked) → IsLinked set → RunsSet launch set → is_written set shape ≡ true

abbrev pub RunsAskForWrittenArrays : Type 0
RunsAskForWrittenArrays = OfRuns IsWrittenFor

abbrev pub ThreadsAskForWrittenArrays : Type 0
ThreadsAskForWrittenArrays = OfThreads IsWrittenFor
