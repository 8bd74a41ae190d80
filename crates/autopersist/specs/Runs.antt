-- What the commands say that run a class on the image: `run` and `make`.
use Rattle.std.specs.Prelude.{◌≡◌, ◌≢◌, ◌⊎◌, List, [], codes, length, Some, Result, Ok}
use Rattle.ap_base.specs.Sinks.{TakesBehind, with_bytes}
use Rattle.ap_base.specs.declared.source.NamedBytes.{NamedBytes}
use Rattle.graph_model.specs.declared.types.Graph.{Graph}
use Rattle.run_types.specs.declared.limits.Limits.{Limits}
use Rattle.run_history.specs.Recorded.{Recorded}
use Rattle.plain_model.specs.Runs.{output_of}
use Rattle.class_file.specs.declared.class.ClassFile.{ClassFile}
use Rattle.class_links.specs.Kept.{kept_files}
use Rattle.listing.specs.Classes.{assembled}
use Rattle.workload.specs.Listings.{work_listing}
use Rattle.command_words.specs.Numbers.{acts_range, heap_range}
use Rattle.command_words.specs.declared.command.Make.{Make}
use Rattle.command_words.specs.declared.command.Run.{Run}
use Rattle.statuses.specs.declared.status.Status.{Status}
use Rattle.class_runs.specs.Chosen.{Choice, ClassesGive}
use Rattle.class_runs.specs.Passed.{IsLeft}
use Rattle.class_runs.specs.Runs.{Answers, AnswersFor, ComesTo, IsCauseOf, IsOfRun, OfChoice, RunsAs, over}
use Rattle.autopersist.specs.Outside.{Outside}

-- the limits of the workload: those that stand where the words ask for no others
abbrev pub default_limits : Limits
default_limits = record { heap_words = heap_range.default; acts = acts_range.default }

-- What was given to run was run on the image, within these limits, or why it wasn't.
pub record RunsOn (gives : Result Choice Status → Type 0) (limits : Limits) (before after : Outside) (SameImage : Type 0)
    (how : Status) (opening : Graph) (acts : List Recorded) : Type 0 where
  -- how it ended: each status but want of memory with its cause
  pub cause : IsCauseOf gives limits (over before.image before.takes opening acts after.image) how
  -- The persistence theorem: what ran, and what a stop leaves of the image, within any of its calls or after the last one; or there are
  -- no acts, and the image is as it was.
  pub theorem : (SameImage × (acts ≡ [])) ⊎ OfChoice gives (RunsAs limits (over before.image before.takes opening acts after.image) how)
  -- a status of the files or the classes leaves the image as it was
  pub early : IsOfRun how ⊎ (SameImage × (acts ≡ []))
  -- the sink took the output of the acts, and nothing else, whatever the status
  pub printed : after.taken ≡ with_bytes before.taken (output_of acts)
  -- and takes behind it what it would have taken before
  pub leaves : TakesBehind before.takes after.takes (length (output_of acts))

-- The class of the words was run, of the classes of the source's files.
pub record RunsClass (run : Run) (before after : Outside) (SameImage : Type 0) (how : Status) (opening : Graph) (acts : List Recorded)
    : Type 0 where
  pub runs : RunsOn (ComesTo run.main before.left) run.limits before after SameImage how opening acts
  -- where the source tells its files, the answer is theirs
  pub answers : AnswersFor run.main before.left how
  -- The source is read to its end before its classes are linked and a run begins, and not past a file that is refused.
  pub whole : acts ≢ [] → (files : List NamedBytes) → before.left ≡ Some files → after.left ≡ Some []
  pub left : acts ≡ [] → (files : List NamedBytes) → before.left ≡ Some files → IsLeft files how after.left

-- The workload was run, with so many nodes a thread. The source wasn't asked.
pub record RunsWorkload (make : Make) (before after : Outside) (SameSource SameImage : Type 0) (how : Status) (opening : Graph)
    (acts : List Recorded) : Type 0 where
  pub unasked : SameSource
  pub classes : List ClassFile
  pub listed : assembled (work_listing make.count) ≡ Ok classes
  pub runs : RunsOn (ClassesGive (codes "Work") (kept_files classes)) default_limits before after SameImage how opening acts
  pub answers : Answers (ClassesGive (codes "Work") (kept_files classes)) how
