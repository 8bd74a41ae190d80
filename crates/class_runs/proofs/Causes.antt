-- The cause of each status, by its stage.
use Rattle.std.proofs.Common.{◌≡◌, ◌⊎◌, ℕ, List, Option, Some, [], Result, Ok, Err, refl, sym, ap, subst, ◌∙◌, inl, inr}
use Rattle.std.specs.Prelude.{◌≢◌, IsOk}
use Rattle.ap_base.specs.declared.source.NamedBytes.{NamedBytes}
use Rattle.graph_model.specs.declared.types.Graph.{Graph}
use Rattle.line_image.specs.Told.{Told}
use Rattle.run_history.specs.Recorded.{Recorded}
use Rattle.run_types.specs.declared.limits.Limits.{Limits}
use Rattle.run_types.specs.declared.fault.RunFault.{RunFault}
use Rattle.run_types.specs.declared.fault.RunFault.TheVariants as fault
use Rattle.plain_model.specs.Ends.{Ending, Fault, Uncaught, Finished}
use Rattle.class_file.specs.declared.class.ClassFile.{ClassFile}
use Rattle.class_links.specs.declared.refusal.LinkRefusal.{LinkRefusal}
use Rattle.class_links.specs.Kept.{kept_files}
use Rattle.class_links.specs.Links.{Links}
use Rattle.class_links.proofs.Refusals.{link_unrefused, one_refusal}
use Rattle.class_set.specs.Linked.{Linked}
use Rattle.class_set.specs.ArrayTypes.{linked_from}
use Rattle.durable_launch.specs.Passed.{Unopened}
use Rattle.durable_launch.specs.Unopenings as unopened
use Rattle.statuses.specs.Names.{fault_status}
use Rattle.statuses.specs.declared.status.Status.{Status}
use Rattle.statuses.specs.declared.status.Status.TheVariants as status
use Rattle.class_runs.specs.Chosen.{Choice, ClassesGive, GivenBy, FilesGive, chosen}
use Rattle.source_classes.specs.Files.{classes_among}
use Rattle.source_classes.specs.Names.{slashed}
use Rattle.source_classes.specs.Reading as reading
use Rattle.source_classes.specs.Reading.{HasNoCause, IsOfFiles, IsOfClasses, IsLeft, LeavesAt}
use Rattle.class_runs.specs.Runs.{Answers, ComesTo, OfChoice, IsCauseOf, IsCauseAt, Over, EndsOver, IsOfRun, IsEarly}
use Rattle.class_runs.specs.Sets.{CannotBegin, HasEndedSo, SetEnds, status_of_ending, status_of_unopened}
use Rattle.statuses.specs.Stages.{Stage, OfWords, OfSource, OfMemory, OfFile, OfListing, OfLinking, OfOpening, OfRoom, OfNames}
use Rattle.statuses.specs.Stages.{OfImage, OfTurns, OfOthers, stage_of, IsFreeStage, IsFilesStage, IsClassesStage, IsEarlyStage}
use Rattle.statuses.specs.Stages.{IsRunStage}
use Rattle.source_classes.proofs.SourceFiles.{all_read}

abbrev err : Status → Result Choice Status
err s = Err s

err_same : (a b : Status) → err a ≡ err b → a ≡ b
err_same a b is = cc

-- ---- what the files of a source come to

refused_file : (name : List ℕ) (files : List NamedBytes) (e : Status) → classes_among files ≡ Err e → FilesGive name files (Err e)
refused_file name files e is = subst (λ (r : Result (List ClassFile) Status). GivenBy name r (Err e)) (sym is) refl

filed : (left : Option (List NamedBytes)) (seen files : List NamedBytes) → reading.HadLeft left seen → left ≡ Some files → seen ≡ files
filed left seen files had told = sym (subst (λ (l : Option (List NamedBytes)). reading.HadLeft l seen) told had)

-- a file is refused
pub refused_comes : (name : List ℕ) (left : Option (List NamedBytes)) (e : Status) → reading.FilesComeTo left (Err e) → ComesTo name left (Err e)
refused_comes name left e comes = record { files = comes.files; told = comes.told; is = refused_file name comes.files e comes.is }

-- what the classes of all files give, the files give
pub classes_come : (name : List ℕ) (left : Option (List NamedBytes)) (classes : List ClassFile) → reading.FilesComeTo left (Ok classes)
    → (answer : Result Choice Status) → ClassesGive name (kept_files classes) answer → ComesTo name left answer
classes_come name left classes comes answer give = record {
  files = comes.files;
  told = comes.told;
  is = subst (λ (r : Result (List ClassFile) Status). GivenBy name r answer) (sym comes.is) give;
}

-- and the other way
pub files_give : (name : List ℕ) (left : Option (List NamedBytes)) (classes : List ClassFile) → reading.FilesComeTo left (Ok classes)
    → (files : List NamedBytes) → left ≡ Some files → (answer : Result Choice Status) → FilesGive name files answer
    → ClassesGive name (kept_files classes) answer
files_give name left classes comes files told answer give =
    let same : classes_among files ≡ Ok classes =
    subst (λ (fs : List NamedBytes). classes_among fs ≡ Ok classes) (filed left comes.files files comes.told told) comes.is in
    subst (λ (r : Result (List ClassFile) Status). GivenBy name r answer) same give

-- what a source's files come to is what they give, where it tells them
pub come_so : (name : List ℕ) (left : Option (List NamedBytes)) (files : List NamedBytes) → left ≡ Some files
    → (answer : Result Choice Status) → ComesTo name left answer → FilesGive name files answer
come_so name left files told answer comes =
    subst (λ (fs : List NamedBytes). FilesGive name fs answer) (filed left comes.files files comes.told told) comes.is

pub class_unrefused : (left : Option (List NamedBytes)) (classes : List ClassFile) → reading.FilesComeTo left (Ok classes)
    → (files : List NamedBytes) → left ≡ Some files → IsOk (classes_among files)
class_unrefused left classes comes files told =
    subst (λ (fs : List NamedBytes). IsOk (classes_among fs)) (filed left comes.files files comes.told told) (rw comes.is refl)

-- ---- before the image is opened

module _ (gives : Result Choice Status → Type 0) (limits : Limits) (over : Over) (s : Status) where
  nothing_at : (stage : Stage) → IsClassesStage stage → (stage ≢ OfMemory → gives (Err s)) → IsCauseAt stage gives limits over s
  nothing_at OfMemory of comes = tt
  nothing_at OfLinking of comes = comes (λ is. cc)
  nothing_at OfOpening of comes = absurd of
  nothing_at OfWords of comes = absurd of
  nothing_at OfListing of comes = absurd of
  nothing_at OfSource of comes = absurd of
  nothing_at OfFile of comes = absurd of
  nothing_at OfRoom of comes = absurd of
  nothing_at OfNames of comes = absurd of
  nothing_at OfImage of comes = absurd of
  nothing_at OfTurns of comes = absurd of
  nothing_at OfOthers of comes = absurd of

  file_at : (stage : Stage) → IsFilesStage stage → IsFreeStage stage ⊎ gives (Err s) → IsCauseAt stage gives limits over s
  file_at OfSource of cause = tt
  file_at OfMemory of cause = tt
  file_at OfFile of (inl free) = absurd free
  file_at OfFile of (inr comes) = comes
  file_at OfRoom of (inl free) = absurd free
  file_at OfRoom of (inr comes) = inl comes
  file_at OfWords of cause = absurd of
  file_at OfListing of cause = absurd of
  file_at OfLinking of cause = absurd of
  file_at OfOpening of cause = absurd of
  file_at OfNames of cause = absurd of
  file_at OfImage of cause = absurd of
  file_at OfTurns of cause = absurd of
  file_at OfOthers of cause = absurd of

memory_apart : (s : Status) → s ≡ status.OutOfMemory → stage_of s ≢ OfMemory → ⊥
memory_apart s is apart = apart (ap stage_of is)

pub cause_of_classes : (gives : Result Choice Status → Type 0) (limits : Limits) (over : Over) (s : Status) → IsOfClasses s
    → (s ≡ status.OutOfMemory) ⊎ gives (Err s) → IsCauseOf gives limits over s
cause_of_classes gives limits over s of (inl memory) =
    nothing_at gives limits over s (stage_of s) of (λ apart. absurd (memory_apart s memory apart))
cause_of_classes gives limits over s of (inr give) = nothing_at gives limits over s (stage_of s) of (λ apart. give)

early_classes : (stage : Stage) → IsClassesStage stage → IsEarlyStage stage
early_classes OfMemory of = tt
early_classes OfLinking of = tt
early_classes OfOpening of = absurd of
early_classes OfWords of = absurd of
early_classes OfListing of = absurd of
early_classes OfSource of = absurd of
early_classes OfFile of = absurd of
early_classes OfRoom of = absurd of
early_classes OfNames of = absurd of
early_classes OfImage of = absurd of
early_classes OfTurns of = absurd of
early_classes OfOthers of = absurd of

pub classes_early : (s : Status) → IsOfClasses s → IsEarly s
classes_early s of = early_classes (stage_of s) of

left_classes : (stage : Stage) (files : List NamedBytes) (left : Option (List NamedBytes)) (s : Status) → IsClassesStage stage
    → IsOk (classes_among files) → left ≡ Some [] → LeavesAt stage files s left
left_classes OfMemory files left s of unrefused none = all_read files left unrefused none
left_classes OfLinking files left s of unrefused none = none
left_classes OfOpening files left s of unrefused none = absurd of
left_classes OfWords files left s of unrefused none = absurd of
left_classes OfListing files left s of unrefused none = absurd of
left_classes OfSource files left s of unrefused none = absurd of
left_classes OfFile files left s of unrefused none = absurd of
left_classes OfRoom files left s of unrefused none = absurd of
left_classes OfNames files left s of unrefused none = absurd of
left_classes OfImage files left s of unrefused none = absurd of
left_classes OfTurns files left s of unrefused none = absurd of
left_classes OfOthers files left s of unrefused none = absurd of

-- a file that is refused
pub cause_of_files : (name : List ℕ) (left : Option (List NamedBytes)) (limits : Limits) (over : Over) (e : Status)
    → IsOfFiles e → HasNoCause e ⊎ reading.FilesComeTo left (Err e) → IsCauseOf (ComesTo name left) limits over e
cause_of_files name left limits over e of (inl free) = file_at (ComesTo name left) limits over e (stage_of e) of (inl free)
cause_of_files name left limits over e of (inr comes) =
    file_at (ComesTo name left) limits over e (stage_of e) of (inr (refused_comes name left e comes))

early_files : (stage : Stage) → IsFilesStage stage → IsEarlyStage stage
early_files OfSource of = tt
early_files OfMemory of = tt
early_files OfFile of = tt
early_files OfRoom of = tt
early_files OfWords of = absurd of
early_files OfListing of = absurd of
early_files OfLinking of = absurd of
early_files OfOpening of = absurd of
early_files OfNames of = absurd of
early_files OfImage of = absurd of
early_files OfTurns of = absurd of
early_files OfOthers of = absurd of

pub files_early : (e : Status) → IsOfFiles e → IsEarly e
files_early e of = early_files (stage_of e) of

-- ---- what is given, told otherwise

module _ (gives gives' : Result Choice Status → Type 0) (so : (answer : Result Choice Status) → gives answer → gives' answer)
    (limits : Limits) (over : Over) (s : Status) where
  pub chosen_so : (P : Choice → Type 0) → OfChoice gives P → OfChoice gives' P
  chosen_so P of = record { choice = of.choice; given = so (Ok of.choice) of.given; holds = of.holds }

  either_so : gives (Err s) ⊎ OfChoice gives (EndsOver limits over s) → gives' (Err s) ⊎ OfChoice gives' (EndsOver limits over s)
  either_so (inl give) = inl (so (Err s) give)
  either_so (inr of) = inr (chosen_so (EndsOver limits over s) of)

  caused_at : (stage : Stage) → IsCauseAt stage gives limits over s → IsCauseAt stage gives' limits over s
  caused_at OfWords cause = cause
  caused_at OfListing cause = cause
  caused_at OfSource cause = cause
  caused_at OfMemory cause = cause
  caused_at OfFile cause = so (Err s) cause
  caused_at OfLinking cause = so (Err s) cause
  caused_at OfRoom cause = either_so cause
  caused_at OfOpening cause = chosen_so (EndsOver limits over s) cause
  caused_at OfNames cause = chosen_so (EndsOver limits over s) cause
  caused_at OfImage cause = chosen_so (EndsOver limits over s) cause
  caused_at OfTurns cause = chosen_so (EndsOver limits over s) cause
  caused_at OfOthers cause = cause

  pub caused_so : IsCauseOf gives limits over s → IsCauseOf gives' limits over s
  caused_so cause = caused_at (stage_of s) cause

-- ---- a run

-- a fault of a run is one of its statuses
fault_stage : (set : Linked) (f : RunFault) → IsOfRun (fault_status set f)
fault_stage set (fault.BadCode at) = tt
fault_stage set (fault.RegionRace thread other place) = tt
fault_stage set (fault.Full full) = tt
fault_stage set fault.SinkFault = tt
fault_stage set fault.ImageFault = tt
fault_stage set (fault.Stuck waits) = tt
fault_stage set (fault.LinkFault kind class index) = tt

ending_stage : (set : Linked) (ending : Ending) → IsOfRun (status_of_ending set ending)
ending_stage set (Fault f) = fault_stage set f
ending_stage set (Uncaught t class) = tt
ending_stage set Finished = tt

unopened_stage : (why : Unopened) → IsOfRun (status_of_unopened why)
unopened_stage (unopened.BadImage line reason) = tt
unopened_stage (unopened.ShapeChanged name) = tt
unopened_stage (unopened.Full full) = tt
unopened_stage unopened.ImageFailed = tt
unopened_stage unopened.OutOfMemory = tt

so_staged : (s t : Status) → s ≡ t → IsOfRun t → IsOfRun s
so_staged s t is of = subst IsOfRun (sym is) of

module _ (set : Linked) (name : List ℕ) (limits : Limits) (start : Told) (takes : ℕ → ℕ → Option ℕ) (opening : Graph) (acts : List Recorded) (after : Told)
    (s : Status) where
  began_stage : CannotBegin set name limits start after s → IsOfRun s
  began_stage c = elim c.cause [
    | inl lacks ↦ so_staged s (status.Full lacks.full) lacks.is tt
    | inr rest ↦ elim rest [
      | inl none ↦ so_staged s _ none.is tt
      | inr memory ↦ so_staged s status.OutOfMemory memory tt
    ]
  ]

  ran_stage : HasEndedSo set name limits start takes opening acts s → IsOfRun s
  ran_stage ran =
      so_staged s (status_of_ending ran.of.numbered ran.ends.ending) ran.ends.is (ending_stage ran.of.numbered ran.ends.ending)

  -- what a call that had something to run came to is one of the statuses of runs
  pub of_run : SetEnds set name limits start takes opening acts after s → IsOfRun s
  of_run (inl (none, inl cannot)) = so_staged s (status_of_unopened cannot.why) cannot.is (unopened_stage cannot.why)
  of_run (inl (none, inr (inl cannot))) = began_stage cannot
  of_run (inl (none, inr (inr (inl failed)))) = so_staged s status.ImageFault failed.is tt
  of_run (inl (none, inr (inr (inr lacks)))) = so_staged s status.OutOfMemory lacks.is tt
  of_run (inr ran) = ran_stage ran

-- a run doesn't end for want of memory
fault_apart : (set : Linked) (f : RunFault) → fault_status set f ≡ status.OutOfMemory → ⊥
fault_apart set (fault.BadCode at) is = cc
fault_apart set (fault.RegionRace thread other place) is = cc
fault_apart set (fault.Full full) is = cc
fault_apart set fault.SinkFault is = cc
fault_apart set fault.ImageFault is = cc
fault_apart set (fault.Stuck waits) is = cc
fault_apart set (fault.LinkFault kind class index) is = cc

ending_apart : (set : Linked) (ending : Ending) → status_of_ending set ending ≡ status.OutOfMemory → ⊥
ending_apart set (Fault f) is = fault_apart set f is
ending_apart set (Uncaught t class) is = cc
ending_apart set Finished is = cc

module _ (set : Linked) (name : List ℕ) (limits : Limits) (start : Told) (takes : ℕ → ℕ → Option ℕ) (opening : Graph) (acts : List Recorded) (after : Told)
    (s : Status) (is : s ≡ status.OutOfMemory) where
  ran_apart : HasEndedSo set name limits start takes opening acts s → ⊥
  ran_apart ran = ending_apart ran.of.numbered ran.ends.ending (sym ran.ends.is ∙ is)

  pub memory_early : SetEnds set name limits start takes opening acts after s → acts ≡ []
  memory_early (inl cannot) = cannot.0
  memory_early (inr ran) = absurd (ran_apart ran)

module _ (gives : Result Choice Status → Type 0) (limits : Limits) (over : Over) (s : Status) (choice : Choice)
    (given : gives (Ok choice)) (ends : EndsOver limits over s choice) where
  so : OfChoice gives (EndsOver limits over s)
  so = record { choice = choice; given = given; holds = ends }

  run_at : (stage : Stage) → IsRunStage stage → IsCauseAt stage gives limits over s
  run_at OfMemory of = tt
  run_at OfOpening of = so
  run_at OfRoom of = inr so
  run_at OfNames of = so
  run_at OfImage of = so
  run_at OfTurns of = so
  run_at OfOthers of = absurd of
  run_at OfWords of = absurd of
  run_at OfListing of = absurd of
  run_at OfSource of = absurd of
  run_at OfFile of = absurd of
  run_at OfLinking of = absurd of

  pub cause_of_run : IsOfRun s → IsCauseOf gives limits over s
  cause_of_run of = run_at (stage_of s) of

-- no run, and no classes, end by a fault of a source
not_classes : (stage : Stage) → IsClassesStage stage → stage ≢ OfSource
not_classes OfSource of is = of
not_classes OfMemory of is = cc
not_classes OfLinking of is = cc
not_classes OfOpening of is = of
not_classes OfWords of is = of
not_classes OfListing of is = of
not_classes OfFile of is = of
not_classes OfRoom of is = of
not_classes OfNames of is = of
not_classes OfImage of is = of
not_classes OfTurns of is = of
not_classes OfOthers of is = of

not_run : (stage : Stage) → IsRunStage stage → stage ≢ OfSource
not_run OfSource of is = of
not_run OfMemory of is = cc
not_run OfLinking of is = of
not_run OfOpening of is = cc
not_run OfWords of is = of
not_run OfListing of is = of
not_run OfFile of is = of
not_run OfRoom of is = cc
not_run OfNames of is = cc
not_run OfImage of is = cc
not_run OfTurns of is = cc
not_run OfOthers of is = of

pub no_source_fault : (s : Status) → IsOfClasses s ⊎ IsOfRun s → s ≡ status.SourceFault → ⊥
no_source_fault s (inl of) is = not_classes (stage_of s) of (ap stage_of is)
no_source_fault s (inr of) is = not_run (stage_of s) of (ap stage_of is)

-- ---- what is left of the source

unrefused_apart : (r : Result (List ClassFile) Status) (s : Status) → IsOk r → r ≡ Err s → ⊥
unrefused_apart (Ok classes) s good is = cc
unrefused_apart (Err e) s good is = cc

-- what is left of the source of a run without acts
left_at : (stage : Stage) (files : List NamedBytes) (s : Status) (others : Option (List NamedBytes)) → IsRunStage stage → IsOk (classes_among files)
    → others ≡ Some [] → LeavesAt stage files s others
left_at OfMemory files s others of good all = all_read files others good all
left_at OfOpening files s others of good all = all
left_at OfRoom files s others of good all = (λ refused. absurd (unrefused_apart (classes_among files) s good refused), λ is. all)
left_at OfNames files s others of good all = all
left_at OfImage files s others of good all = all
left_at OfTurns files s others of good all = all
left_at OfOthers files s others of good all = absurd of
left_at OfWords files s others of good all = absurd of
left_at OfListing files s others of good all = absurd of
left_at OfSource files s others of good all = absurd of
left_at OfFile files s others of good all = absurd of
left_at OfLinking files s others of good all = absurd of

pub left_of_classes : (files : List NamedBytes) → IsOk (classes_among files) → (s : Status) (others : Option (List NamedBytes))
    → IsOfClasses s ⊎ IsOfRun s → others ≡ Some [] → IsLeft files s others
left_of_classes files good s others (inl of) all = left_classes (stage_of s) files others s of good all
left_of_classes files good s others (inr of) all = left_at (stage_of s) files s others of good all

-- ---- what classes give is one answer

abbrev link_err : LinkRefusal → Result Choice Status
link_err refusal = Err (status.LinkRefused refusal)

abbrev ok : Choice → Result Choice Status
ok choice = Ok choice

-- the classes link
pub chosen_so_far : (class : List ℕ) (classes : List ClassFile) (set : Linked) (main : List ℕ) → Links classes
    → set ≡ linked_from classes → main ≡ slashed class → ClassesGive class classes (ok (record { set = set; main = main }))
chosen_so_far class classes set main links same named = inl (
  links,
  ap (λ (name : List ℕ). ok (chosen name (linked_from classes))) (sym named)
      ∙ ap (λ (s : Linked). ok (chosen main s)) (sym same),
)

one_given : (name : List ℕ) (r : Result (List ClassFile) Status) (a b : Result Choice Status) → GivenBy name r a → GivenBy name r b → a ≡ b
one_given name (Err s) a b one other = sym one ∙ other
one_given name (Ok classes) a b (inl one) (inl other) = sym one.1 ∙ other.1
one_given name (Ok classes) a b (inl one) (inr other) =
    absurd (other.1.0 (link_unrefused (kept_files classes) other.0 one.0 other.1.1))
one_given name (Ok classes) a b (inr one) (inl other) =
    absurd (one.1.0 (link_unrefused (kept_files classes) one.0 other.0 one.1.1))
one_given name (Ok classes) a b (inr one) (inr other) =
    sym one.2
    ∙ ap (λ (r : LinkRefusal). link_err r) (one_refusal (kept_files classes) one.0 other.0 one.1.1 other.1.1 one.1.0 other.1.0)
    ∙ other.2

pub one_of_classes : (name : List ℕ) (classes : List ClassFile) (a b : Result Choice Status) → ClassesGive name (kept_files classes) a
    → ClassesGive name (kept_files classes) b → a ≡ b
one_of_classes name classes a b one other = one_given name (Ok classes) a b one other

pub one_of_files : (name : List ℕ) (files : List NamedBytes) (a b : Result Choice Status) → FilesGive name files a → FilesGive name files b → a ≡ b
one_of_files name files a b one other = one_given name (classes_among files) a b one other

module _ (gives : Result Choice Status → Type 0) (one : (a b : Result Choice Status) → gives a → gives b → a ≡ b) (limits : Limits)
    (over : Over) where
  not_given : (s : Status) (choice : Choice) → gives (Err s) → gives (Ok choice) → ⊥
  not_given s choice give other =
      let same : err s ≡ Ok choice = one (Err s) (Ok choice) give other in
      cc

  same_status : (e s : Status) → gives (Err s) → gives (Err e) → e ≡ s
  same_status e s give other = err_same e s (sym (one (Err s) (Err e) give other))

  refused_at : (stage : Stage) (e s : Status) → IsEarlyStage stage → IsCauseAt stage gives limits over e → gives (Err s)
      → IsFreeStage stage ⊎ (e ≡ s)
  refused_at OfWords e s of cause is = absurd cause
  refused_at OfListing e s of cause is = absurd cause
  refused_at OfSource e s of cause is = inl tt
  refused_at OfMemory e s of cause is = inl tt
  refused_at OfFile e s of cause is = inr (same_status e s is cause)
  refused_at OfLinking e s of cause is = inr (same_status e s is cause)
  refused_at OfRoom e s of (inl comes) is = inr (same_status e s is comes)
  refused_at OfRoom e s of (inr of_choice) is = absurd (not_given s of_choice.choice is of_choice.given)
  refused_at OfOpening e s of cause is = absurd of
  refused_at OfNames e s of cause is = absurd of
  refused_at OfImage e s of cause is = absurd of
  refused_at OfTurns e s of cause is = absurd of
  refused_at OfOthers e s of cause is = absurd of

  runs_at : (stage : Stage) (e : Status) (choice : Choice) → IsEarlyStage stage → IsCauseAt stage gives limits over e → gives (Ok choice)
      → IsFreeStage stage ⊎ IsRunStage stage
  runs_at OfWords e choice of cause is = absurd cause
  runs_at OfListing e choice of cause is = absurd cause
  runs_at OfSource e choice of cause is = inl tt
  runs_at OfMemory e choice of cause is = inl tt
  runs_at OfFile e choice of cause is = absurd (not_given e choice cause is)
  runs_at OfLinking e choice of cause is = absurd (not_given e choice cause is)
  runs_at OfRoom e choice of cause is = inr tt
  runs_at OfOpening e choice of cause is = absurd of
  runs_at OfNames e choice of cause is = absurd of
  runs_at OfImage e choice of cause is = absurd of
  runs_at OfTurns e choice of cause is = absurd of
  runs_at OfOthers e choice of cause is = absurd of

  -- the answer before an image is opened is that of what was given
  pub answers_early : (e : Status) → IsEarly e → IsCauseOf gives limits over e → Answers gives e
  answers_early e of cause = record {
    refused = λ s is. refused_at (stage_of e) e s of cause is;
    runs = λ choice is. runs_at (stage_of e) e choice of cause is;
  }

  -- so is one of a run of what was given
  pub answers_by_run : (choice : Choice) (s : Status) → gives (Ok choice) → IsOfRun s → Answers gives s
  answers_by_run choice s given of = record {
    refused = λ e is. absurd (not_given e choice is given);
    runs = λ other is. inr of;
  }

-- answers of what classes give are those of their files
pub answers_so : (gives gives' : Result Choice Status → Type 0) → ((answer : Result Choice Status) → gives' answer → gives answer)
    → (s : Status) → Answers gives s → Answers gives' s
answers_so gives gives' so s answers = record {
  refused = λ e is. answers.refused e (so (Err e) is);
  runs = λ choice is. answers.runs choice (so (Ok choice) is);
}
