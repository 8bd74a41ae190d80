use Rattle.std.proofs.Common.{◌≡◌, ◌⊎◌, ℕ, inl, inr, List, [], Result, Ok, Err, subst, Option}
use Rattle.graph_model.specs.declared.types.Graph.{Graph}
use Rattle.line_image.specs.Told.{Told}
use Rattle.run_types.specs.declared.limits.Limits.{Limits}
use Rattle.run_history.specs.Recorded.{Recorded}
use Rattle.class_file.specs.declared.class.ClassFile.{ClassFile}
use Rattle.class_links.specs.Kept.{kept_files}
use Rattle.class_set.specs.Linked.{Linked}
use Rattle.statuses.specs.declared.status.Status.{Status}
use Rattle.statuses.specs.declared.status.Status.TheVariants as status
use Rattle.class_runs.specs.Chosen.{Choice, ClassesGive}
use Rattle.source_classes.specs.Reading.{IsOfClasses}
use Rattle.class_runs.specs.Sets.{SetRunsOver}
use Rattle.class_runs.specs.Runs.{Answers, IsCauseOf, IsOfRun, OfChoice, RunsAs, over}
use Rattle.class_runs.specs.Runs as runs
use Rattle.class_runs.proofs.Causes.{answers_by_run, answers_early, cause_of_classes, cause_of_run, classes_early, memory_early, of_run}
use Rattle.class_runs.proofs.Causes.{one_of_classes}
use Rattle.class_runs.proofs.Outside.{tells_nothing}
use Rattle.class_runs.proofs.class_run.run_classes.Goals as goal

-- ---- a run of what the classes give

module _ (name : List ℕ) (classes : List ClassFile) (set : Linked) (main text : List ℕ) (limits : Limits) (start : Told)
    (takes : ℕ → ℕ → Option ℕ) (opening : Graph) (acts : List Recorded) (after : Told) (how : Status) (same_text : text ≡ main)
    (found : ClassesGive name (kept_files classes) (Ok (record { set = set; main = main })))
    (ran : SetRunsOver set text limits start takes opening acts after how)
  where
    abbrev gives : Result Choice Status → Type 0
    gives answer = ClassesGive name (kept_files classes) answer

    abbrev choice : Choice
    choice = record { set = set; main = main }

    abbrev passed : runs.Over
    passed = over start takes opening acts after

    whole : SetRunsOver set main limits start takes opening acts after how
    whole = subst (λ (n : List ℕ). SetRunsOver set n limits start takes opening acts after how) same_text ran

    of : IsOfRun how
    of = of_run set main limits start takes opening acts after how whole.ends

    ran_so : OfChoice gives (RunsAs limits passed how)
    ran_so = record { choice = choice; given = found; holds = whole }

    caused : IsCauseOf gives limits passed how
    caused = cause_of_run gives limits passed how choice found whole.ends of

    answered : Answers gives how
    answered = answers_by_run gives (one_of_classes name classes) limits passed choice how found of

    early : how ≡ status.OutOfMemory → acts ≡ []
    early is = memory_early set main limits start takes opening acts after how is whole.ends

pub returns-in-Ok-clause-cause : goal.returns-in-Ok-clause-cause
returns-in-Ok-clause-cause g c =
    caused c.args.class.now c.args.classes c.in-Ok.field-0.set.linked c.in-Ok.field-0.main.items c.as_slice.result.now
    c.args.limits.now (g.I.Image.told c.args.image) (g.S.Sink.takes c.args.sink) c.run_set.result.opening c.run_set.result.acts.acts
    (g.I.Image.told c.run_set.result.image) c.run_set.result.status c.as_slice.ensures.value c.in-Ok.ensures.found c.run_set.ensures.ran

pub returns-in-Ok-clause-answers : goal.returns-in-Ok-clause-answers
returns-in-Ok-clause-answers g c =
    answered c.args.class.now c.args.classes c.in-Ok.field-0.set.linked c.in-Ok.field-0.main.items c.as_slice.result.now
    c.args.limits.now (g.I.Image.told c.args.image) (g.S.Sink.takes c.args.sink) c.run_set.result.opening c.run_set.result.acts.acts
    (g.I.Image.told c.run_set.result.image) c.run_set.result.status c.as_slice.ensures.value c.in-Ok.ensures.found c.run_set.ensures.ran

pub returns-in-Ok-clause-of : goal.returns-in-Ok-clause-of
returns-in-Ok-clause-of g c =
    inr (of c.args.class.now c.args.classes c.in-Ok.field-0.set.linked c.in-Ok.field-0.main.items c.as_slice.result.now
    c.args.limits.now (g.I.Image.told c.args.image) (g.S.Sink.takes c.args.sink) c.run_set.result.opening c.run_set.result.acts.acts
    (g.I.Image.told c.run_set.result.image) c.run_set.result.status c.as_slice.ensures.value c.in-Ok.ensures.found c.run_set.ensures.ran)

pub returns-in-Ok-clause-no_memory : goal.returns-in-Ok-clause-no_memory
returns-in-Ok-clause-no_memory g c =
    early c.args.class.now c.args.classes c.in-Ok.field-0.set.linked c.in-Ok.field-0.main.items c.as_slice.result.now
    c.args.limits.now (g.I.Image.told c.args.image) (g.S.Sink.takes c.args.sink) c.run_set.result.opening c.run_set.result.acts.acts
    (g.I.Image.told c.run_set.result.image) c.run_set.result.status c.as_slice.ensures.value c.in-Ok.ensures.found c.run_set.ensures.ran

pub returns-in-Ok-clause-theorem : goal.returns-in-Ok-clause-theorem
returns-in-Ok-clause-theorem g c =
    inr (ran_so c.args.class.now c.args.classes c.in-Ok.field-0.set.linked c.in-Ok.field-0.main.items c.as_slice.result.now
    c.args.limits.now (g.I.Image.told c.args.image) (g.S.Sink.takes c.args.sink) c.run_set.result.opening c.run_set.result.acts.acts
    (g.I.Image.told c.run_set.result.image) c.run_set.result.status c.as_slice.ensures.value c.in-Ok.ensures.found c.run_set.ensures.ran)

pub returns-in-Ok-clause-early : goal.returns-in-Ok-clause-early
returns-in-Ok-clause-early g c =
    inl (of c.args.class.now c.args.classes c.in-Ok.field-0.set.linked c.in-Ok.field-0.main.items c.as_slice.result.now
    c.args.limits.now (g.I.Image.told c.args.image) (g.S.Sink.takes c.args.sink) c.run_set.result.opening c.run_set.result.acts.acts
    (g.I.Image.told c.run_set.result.image) c.run_set.result.status c.as_slice.ensures.value c.in-Ok.ensures.found c.run_set.ensures.ran)

pub returns-in-Ok-clause-size : goal.returns-in-Ok-clause-size
returns-in-Ok-clause-size g c = c.run_set.ensures.ran.size

-- ---- nothing to run

-- it is an answer of classes, or of want of memory
unrun : (name : List ℕ) (classes : List ClassFile) (limits : Limits) (passed : runs.Over) (s s' : Status) → s' ≡ s → IsOfClasses s
    → (s ≡ status.OutOfMemory) ⊎ ClassesGive name (kept_files classes) (Err s)
    → IsCauseOf (λ answer. ClassesGive name (kept_files classes) answer) limits passed s'
unrun name classes limits passed s s' same of cause =
    rw same (cause_of_classes (λ answer. ClassesGive name (kept_files classes) answer) limits passed s of cause)

answers : (name : List ℕ) (classes : List ClassFile) (limits : Limits) (passed : runs.Over) (s s' : Status) → s' ≡ s → IsOfClasses s
    → (s ≡ status.OutOfMemory) ⊎ ClassesGive name (kept_files classes) (Err s)
    → Answers (λ answer. ClassesGive name (kept_files classes) answer) s'
answers name classes limits passed s s' same of cause =
    rw same
    (answers_early (λ answer. ClassesGive name (kept_files classes) answer) (one_of_classes name classes) limits passed s
    (classes_early s of) (cause_of_classes (λ answer. ClassesGive name (kept_files classes) answer) limits passed s of cause))

pub returns-in-Err-clause-cause : goal.returns-in-Err-clause-cause
returns-in-Err-clause-cause g c =
    unrun c.args.class.now c.args.classes c.args.limits.now _ c.in-Err.status c.unbegun.result.status c.unbegun.ensures.status
    c.in-Err.ensures.of_classes c.in-Err.ensures.refused

pub returns-in-Err-clause-answers : goal.returns-in-Err-clause-answers
returns-in-Err-clause-answers g c =
    let start = g.I.Image.told c.args.image in
    answers c.args.class.now c.args.classes c.args.limits.now (over start (g.S.Sink.takes c.args.sink) c.unbegun.result.opening [] start) c.in-Err.status
    c.unbegun.result.status c.unbegun.ensures.status c.in-Err.ensures.of_classes c.in-Err.ensures.refused

pub returns-in-Err-clause-of : goal.returns-in-Err-clause-of
returns-in-Err-clause-of g c = inl (rw c.unbegun.ensures.status c.in-Err.ensures.of_classes)

pub returns-in-Err-clause-told : goal.returns-in-Err-clause-told
returns-in-Err-clause-told g c =
    rw (c.unbegun.ensures.acts, c.unbegun.ensures.watcher, c.unbegun.ensures.sink)
    (tells_nothing (g.W.Watcher.seen c.args.watcher) (g.S.Sink.taken c.args.sink) (g.S.Sink.takes c.args.sink))
