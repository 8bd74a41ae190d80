-- What a run comes to that nothing outside hinders.
use Rattle.std.specs.Prelude.{◌≡◌, ◌⊎◌, ℕ, List, [], Ok}
use Rattle.ap_base.specs.Sinks.{SinkState}
use Rattle.ap_base.specs.declared.source.NamedBytes.{NamedBytes}
use Rattle.graph_model.specs.declared.types.Graph.{Graph}
use Rattle.line_image.specs.Crash.{first_word}
use Rattle.line_image.specs.Memory.{size_of, told_of, trace_of}
use Rattle.line_image.specs.declared.memory.MemoryImage.{MemoryImage}
use Rattle.image_meaning.specs.Directories.{Directory}
use Rattle.image_meaning.specs.Meaning.{StandsFor}
use Rattle.run_history.specs.Recorded.{Recorded}
use Rattle.command_words.specs.declared.command.Run.{Run as RunWords}
use Rattle.autopersist.specs.Passed.{AllAgree, Choice, Full, FullOf, HasEndedSo, HasNoMain, IsDirectoryIn, IsOfPlainRun, Limits, Linked}
use Rattle.autopersist.specs.Passed.{MeetsLimit, OutOfMemory, Status, facts_of, with_arrays_of}
use Rattle.reopened_runs.specs.Left.{AreAsked, AsksRun, takes_of}

-- it had counted no fault, and has counted none
abbrev pub StaysFaultless : (before after : ℕ) → Type 0
StaysFaultless before after = (before ≡ 0) × (after ≡ 0)

-- The words that the image was made of stand for a graph, and each shape of the directory that they spell agrees with the set.
pub record SuitsSet (set : Linked) (image : MemoryImage) : Type 0 where
  pub graph : Graph
  pub stands : StandsFor (size_of image) (first_word (trace_of image)) graph
  pub directory : Directory
  pub directory_is : IsDirectoryIn (first_word (trace_of image)) directory
  pub agree : AllAgree (facts_of set) directory.shapes

abbrev pub EndsSo : Choice → Limits → MemoryImage → SinkState → Directory → Graph → List Recorded → Status → Type 0
EndsSo choice limits image sink directory opening acts how =
    ((acts ≡ []) × HasNoMain (with_arrays_of choice.set directory.shapes) choice.main limits how)
    ⊎ (HasEndedSo choice.set choice.main limits (told_of image) (takes_of sink) opening acts how × IsOfPlainRun how)

-- Memory ran out: there are no acts, and nothing was put. Or more was needed than there is, of what the status tells: the directory lacked
-- room for the set's entries, the limits had too few words for its first objects, or the next event of the plain run met a limit.
abbrev pub EndsShort : Choice → Limits → (image after : MemoryImage) → (sink sink' : SinkState) → Graph → List Recorded → Status → Type 0
EndsShort choice limits image after sink sink' opening acts how =
    ((how ≡ OutOfMemory) × (acts ≡ []) × (sink'.taken ≡ sink.taken))
    ⊎ ((full : Full) × (how ≡ FullOf full)
    × MeetsLimit choice.set choice.main limits (told_of image) (takes_of sink) opening acts (told_of after) full)

-- Words that ask for a run, files that give a class set, and an image that suits it: the set, once the array types of the image's directory
-- had numbers in it, has no such class, or the class no `main`; or the acts are a plain run, which ended as the status says. But for what is
-- short.
abbrev pub EndsWhole : (words : List (List ℕ)) (files : List NamedBytes) → (image after : MemoryImage) → (sink sink' : SinkState) → Graph
    → List Recorded → Status → Type 0
EndsWhole words files image after sink sink' opening acts how = (run : RunWords) → AsksRun words run
    → (choice : Choice) → AreAsked run files (Ok choice) → (suits : SuitsSet choice.set image)
    → EndsSo choice run.limits image sink suits.directory opening acts how
    ⊎ EndsShort choice run.limits image after sink sink' opening acts how
