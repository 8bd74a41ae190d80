-- What a run of a class says: what is asked for, why it ended so, and what the run comes to.
use Rattle.std.specs.Prelude.{◌≡◌, ◌⊎◌, List, length, Option, Some, Result, Ok, Err, ℕ}
use Rattle.ap_base.specs.Sinks.{TakesBehind, with_bytes}
use Rattle.ap_base.specs.declared.source.NamedBytes.{NamedBytes}
use Rattle.graph_model.specs.declared.types.Graph.{Graph}
use Rattle.line_image.specs.Told.{Told}
use Rattle.run_types.specs.declared.limits.Limits.{Limits}
use Rattle.run_history.specs.Recorded.{Recorded}
use Rattle.plain_model.specs.Runs.{output_of}
use Rattle.durable_launch.specs.Passed.{with_all}
use Rattle.statuses.specs.declared.status.Status.{Status}
use Rattle.class_runs.specs.Chosen.{Choice, FilesGive}
use Rattle.source_classes.specs.Reading.{HadLeft, HasNoCause}
use Rattle.class_runs.specs.Sets.{SetEnds, SetRunsOver}
use Rattle.statuses.specs.Stages.{Stage, OfWords, OfSource, OfMemory, OfFile, OfListing, OfLinking, OfOpening, OfRoom, OfNames}
use Rattle.statuses.specs.Stages.{OfImage, OfTurns, OfOthers, stage_of, IsRunStage, IsEarlyStage}

-- The files that a source had come to this, where the main class has this name: what is to run, or why nothing is.
pub record ComesTo (name : List ℕ) (files_told : Option (List NamedBytes)) (answer : Result Choice Status) : Type 0 where
  pub files : List NamedBytes
  pub told : HadLeft files_told files
  pub is : FilesGive name files answer

-- Something was given to run, of which this holds. What is given to run, or why nothing is, is told by `gives`.
pub record OfChoice (gives : Result Choice Status → Type 0) (P : Choice → Type 0) : Type 0 where
  pub choice : Choice
  pub given : gives (Ok choice)
  pub holds : P choice

-- ---- causes

-- An image as it was at a call's begin and at its end, what the sink took at the begin, and what ran meanwhile, from which graph.
pub record Over : Type 0 where
  pub start : Told
  pub takes : ℕ → ℕ → Option ℕ
  pub opening : Graph
  pub acts : List Recorded
  pub after : Told

abbrev pub over : Told → (ℕ → ℕ → Option ℕ) → Graph → List Recorded → Told → Over
over start takes opening acts after =
    record { start = start; takes = takes; opening = opening; acts = acts; after = after }

abbrev pub EndsOver : Limits → Over → Status → Choice → Type 0
EndsOver limits over how choice =
    SetEnds choice.set choice.main limits over.start over.takes over.opening over.acts over.after how

abbrev pub RunsAs : Limits → Over → Status → Choice → Type 0
RunsAs limits over how choice =
    SetRunsOver choice.set choice.main limits over.start over.takes over.opening over.acts over.after how

-- What a status says of what was given, the image and the acts, by its stage. Want of memory says nothing, nor does
-- a fault of the source, whose count has then risen. No run ends by its words, by a listing, or as other
-- commands do.
abbrev pub IsCauseAt : Stage → (gives : Result Choice Status → Type 0) → Limits → Over → Status → Type 0
IsCauseAt OfWords gives limits over how = ⊥
IsCauseAt OfListing gives limits over how = ⊥
IsCauseAt OfSource gives limits over how = Unit {0}
IsCauseAt OfMemory gives limits over how = Unit {0}
IsCauseAt OfFile gives limits over how = gives (Err how)
IsCauseAt OfLinking gives limits over how = gives (Err how)
IsCauseAt OfRoom gives limits over how = gives (Err how) ⊎ OfChoice gives (EndsOver limits over how)
IsCauseAt OfOpening gives limits over how = OfChoice gives (EndsOver limits over how)
IsCauseAt OfNames gives limits over how = OfChoice gives (EndsOver limits over how)
IsCauseAt OfImage gives limits over how = OfChoice gives (EndsOver limits over how)
IsCauseAt OfTurns gives limits over how = OfChoice gives (EndsOver limits over how)
IsCauseAt OfOthers gives limits over how = ⊥

abbrev pub IsCauseOf : (gives : Result Choice Status → Type 0) → Limits → Over → Status → Type 0
IsCauseOf gives limits over how = IsCauseAt (stage_of how) gives limits over how

-- the answers of a run, and of the opening of its image
abbrev pub IsOfRun : Status → Type 0
IsOfRun how = IsRunStage (stage_of how)

-- the answers that come before the image is opened
abbrev pub IsEarly : Status → Type 0
IsEarly how = IsEarlyStage (stage_of how)

-- The answer is that of what was given: why there is nothing to run, or one of a run of what there is. Want of memory,
-- and a fault of the source, may stand in its place.
pub record Answers (gives : Result Choice Status → Type 0) (how : Status) : Type 0 where
  pub refused : (s : Status) → gives (Err s) → HasNoCause how ⊎ (how ≡ s)
  pub runs : (choice : Choice) → gives (Ok choice) → HasNoCause how ⊎ IsOfRun how

-- Where the source tells its files, the answer is theirs.
abbrev pub AnswersFor : (name : List ℕ) → Option (List NamedBytes) → Status → Type 0
AnswersFor name files_told how =
    (files : List NamedBytes) → files_told ≡ Some files → Answers (FilesGive name files) how

-- ---- the outside

-- The watcher saw these acts, each once and in order, and the sink took their output, and nothing else; behind it the sink takes what it
-- would have taken before.
pub record Tells (acts : List Recorded) (sees sees' : Option (List Recorded)) (taken taken' : Option (List ℕ)) (takes takes' : ℕ → ℕ → Option ℕ)
    : Type 0 where
  pub watched : sees' ≡ with_all sees acts
  pub printed : taken' ≡ with_bytes taken (output_of acts)
  pub leaves : TakesBehind takes takes' (length (output_of acts))
