use Rattle.std.proofs.Common.{◌≡◌, ◌⊎◌, ℕ, inl, inr, List, [], Option, Some, Result, Ok, Err}
use Rattle.ap_base.specs.declared.source.NamedBytes.{NamedBytes}
use Rattle.run_types.specs.declared.limits.Limits.{Limits}
use Rattle.class_file.specs.declared.class.ClassFile.{ClassFile}
use Rattle.class_links.specs.Kept.{kept_files}
use Rattle.statuses.specs.declared.status.Status.{Status}
use Rattle.class_runs.specs.Chosen.{Choice, ClassesGive, FilesGive}
use Rattle.source_classes.specs.Reading.{FilesComeTo, HasNoCause, IsOfClasses, IsOfFiles, IsLeft}
use Rattle.class_runs.specs.Runs.{Answers, AnswersFor, ComesTo, IsCauseOf, IsOfRun, OfChoice, RunsAs, over}
use Rattle.class_runs.specs.Runs as runs
use Rattle.class_runs.proofs.Causes.{answers_early, answers_so, cause_of_files, caused_so, chosen_so, class_unrefused, classes_come}
use Rattle.class_runs.proofs.Causes.{come_so, files_early, files_give, left_of_classes, no_source_fault, one_of_files}
use Rattle.class_runs.proofs.class_run.run_class.Goals as goal

-- ---- the files are classes

module _ (name : List ℕ) (left : Option (List NamedBytes)) (classes : List ClassFile) (comes : FilesComeTo left (Ok classes))
    (limits : Limits) (passed : runs.Over) (how : Status) where
  abbrev gives : Result Choice Status → Type 0
  gives answer = ClassesGive name (kept_files classes) answer

  caused : IsCauseOf gives limits passed how → IsCauseOf (ComesTo name left) limits passed how
  caused cause = caused_so gives (ComesTo name left) (classes_come name left classes comes) limits passed how cause

  chosen : OfChoice gives (RunsAs limits passed how) → OfChoice (ComesTo name left) (RunsAs limits passed how)
  chosen of = chosen_so gives (ComesTo name left) (classes_come name left classes comes) limits passed how (RunsAs limits passed how) of

  answered : Answers gives how → AnswersFor name left how
  answered answers files told = answers_so gives (FilesGive name files) (files_give name left classes comes files told) how answers

  leaves : IsOfClasses how ⊎ IsOfRun how → (files : List NamedBytes) (others : Option (List NamedBytes)) → left ≡ Some files
      → others ≡ Some [] → IsLeft files how others
  leaves of files others told none = left_of_classes files (class_unrefused left classes comes files told) how others of none

  -- either way, what ran ran so
  either : {Same : Type 0} → Same ⊎ OfChoice gives (RunsAs limits passed how) → Same ⊎ OfChoice (ComesTo name left) (RunsAs limits passed how)
  either (inl same) = inl same
  either (inr of) = inr (chosen of)

pub returns-in-Ok-clause-cause : goal.returns-in-Ok-clause-cause
returns-in-Ok-clause-cause g c =
    caused c.args.class.now (g.C.ClassSource.left c.args.source) c.in-Ok.classes c.in-Ok.ensures.classes c.args.limits.now
    _ c.run_classes-ran.result.status c.run_classes-ran.ensures.cause

pub returns-in-Ok-clause-answers : goal.returns-in-Ok-clause-answers
returns-in-Ok-clause-answers g c =
    let start = g.I.Image.told c.args.image in
    answered c.args.class.now (g.C.ClassSource.left c.args.source) c.in-Ok.classes c.in-Ok.ensures.classes c.args.limits.now
    (over start (g.S.Sink.takes c.args.sink) c.run_classes-ran.result.opening [] start) c.run_classes-ran.result.status c.run_classes-ran.ensures.answers

pub returns-in-Ok-clause-source_fault : goal.returns-in-Ok-clause-source_fault
returns-in-Ok-clause-source_fault g c = λ is.
    absurd (no_source_fault c.run_classes-ran.result.status c.run_classes-ran.ensures.of is)

pub returns-in-Ok-clause-left : goal.returns-in-Ok-clause-left
returns-in-Ok-clause-left g c = λ none files told.
    let start = g.I.Image.told c.args.image in
    leaves c.args.class.now (g.C.ClassSource.left c.args.source) c.in-Ok.classes c.in-Ok.ensures.classes c.args.limits.now
    (over start (g.S.Sink.takes c.args.sink) c.run_classes-ran.result.opening [] start) c.run_classes-ran.result.status c.run_classes-ran.ensures.of files
    (g.C.ClassSource.left c.read_files.new.source) told (c.in-Ok.ensures.whole files told)

pub returns-in-Ok-clause-theorem : goal.returns-in-Ok-clause-theorem
returns-in-Ok-clause-theorem g c =
    either c.args.class.now (g.C.ClassSource.left c.args.source) c.in-Ok.classes c.in-Ok.ensures.classes c.args.limits.now
    _ c.run_classes-ran.result.status c.run_classes-ran.ensures.theorem

-- ---- a file is refused, or none could be read

pub returns-in-Err-clause-cause : goal.returns-in-Err-clause-cause
returns-in-Err-clause-cause g c =
    cause_of_files c.args.class.now (g.C.ClassSource.left c.args.source) c.args.limits.now _ c.in-Err.status c.in-Err.ensures.files
    c.in-Err.ensures.refused

refused : (name : List ℕ) (left : Option (List NamedBytes)) (limits : Limits) (passed : runs.Over) (s : Status) → IsOfFiles s
    → HasNoCause s ⊎ FilesComeTo left (Err s) → AnswersFor name left s
refused name left limits passed s of cause files told =
    answers_early (FilesGive name files) (one_of_files name files) limits passed s (files_early s of)
    (caused_so (ComesTo name left) (FilesGive name files) (come_so name left files told) limits passed s
    (cause_of_files name left limits passed s of cause))

pub returns-in-Err-clause-answers : goal.returns-in-Err-clause-answers
returns-in-Err-clause-answers g c =
    let start = g.I.Image.told c.args.image in
    refused c.args.class.now (g.C.ClassSource.left c.args.source) c.args.limits.now (over start (g.S.Sink.takes c.args.sink) c.no_graph.result [] start)
    c.in-Err.status c.in-Err.ensures.files c.in-Err.ensures.refused
