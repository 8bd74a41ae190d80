-- Each command does its work, where its inputs are as it asks and nothing outside fails.
use Rattle.std.proofs.Common.{◌≡◌, ◌⊎◌, inl, inr, ⊎_elim, ℕ, List, [], Option, Some, None, Result, Ok, Err, refl, sym, ap, arith, ◌∙◌, subst}
use Rattle.std.specs.Prelude.{codes}
use Rattle.ap_base.specs.Sinks.{with_bytes}
use Rattle.ap_base.specs.Sources.{Gives, first_file}
use Rattle.ap_base.specs.declared.source.NamedBytes.{NamedBytes}
use Rattle.graph_model.specs.declared.types.Graph.{Graph}
use Rattle.image_meaning.specs.Checks.{Words}
use Rattle.image_report.specs.Reports.{HasPrinted, IsChecked, IsDumped}
use Rattle.run_history.specs.Recorded.{Recorded}
use Rattle.run_types.specs.declared.limits.Limits.{Limits}
use Rattle.class_file.specs.declared.class.ClassFile.{ClassFile}
use Rattle.class_links.specs.Kept.{kept_files}
use Rattle.listing.specs.declared.error.ListingError.{ListingError}
use Rattle.assembly.specs.Assembling.{Assembles, IsPut, IsUnread, class_of}
use Rattle.command_words.specs.Commands.{command_of}
use Rattle.command_words.specs.declared.command.Command.{Command}
use Rattle.command_words.specs.declared.command.Command.TheVariants.{Asm, Audit, Check, Compact, Dump, Make, Run}
use Rattle.command_words.specs.declared.command.Make.{Make as MakeWords}
use Rattle.command_words.specs.declared.command.Run.{Run as RunWords}
use Rattle.statuses.specs.declared.status.Status.{Status}
use Rattle.statuses.specs.declared.status.Status.TheVariants as status
use Rattle.class_runs.specs.Passed.{HadLeft}
use Rattle.class_runs.specs.Chosen.{Choice, ClassesGive}
use Rattle.class_runs.specs.Complete.{StandsForSome}
use Rattle.class_runs.specs.Runs.{ComesTo, EndsOver, IsCauseOf, OfChoice, over}
use Rattle.class_runs.proofs.Causes.{come_so, one_of_classes, one_of_files}
use Rattle.class_runs.proofs.Complete.{ends_complete, some_not_bad}
use Rattle.autopersist.specs.Asked.{of_top}
use Rattle.autopersist.specs.Complete.{DoesAll, DoesItsWork, PrintsAll, PutsAll, RanOutOfMemory, RanOutOfRoom, RunsWhole}
use Rattle.autopersist.specs.Meets.{Does, IsIdle, Meets}
use Rattle.autopersist.specs.Outside.{Outside}
use Rattle.autopersist.specs.Reports.{IsReport, Reports}
use Rattle.autopersist.specs.Runs.{RunsClass, RunsOn, RunsWorkload, default_limits}

-- ---- a call that nothing hindered

module _ (before after : Outside) (how : Status) (opening : Graph) (acts : List Recorded) (source : how ≡ status.SourceFault → ⊥)
    (image : how ≡ status.ImageFault → ⊥) (sink : how ≡ status.SinkFault → ⊥)
    (memory : how ≡ status.OutOfMemory → (acts ≡ []) × (after.taken ≡ before.taken)) where
  out_of_memory : how ≡ status.OutOfMemory → RanOutOfMemory before after acts how
  out_of_memory is = (is, (memory is).0, (memory is).1)

  -- ---- what was chosen runs

  module _ (gives : Result Choice Status → Type 0) (one : (a b : Result Choice Status) → gives a → gives b → a ≡ b) (limits : Limits)
      (choice : Choice) (given : gives (Ok choice)) where
    abbrev ok_choice : Choice → Result Choice Status
    ok_choice chosen = Ok chosen

    not_given : (s : Status) → gives (Err s) → ⊥
    not_given s refused = let same : ok_choice choice ≡ Err s = one (Ok choice) (Err s) given refused in cc

    same_choice : (other : Choice) → gives (Ok other) → other ≡ choice
    same_choice other gave = let same : ok_choice other ≡ ok_choice choice = one (Ok other) (Ok choice) gave given in cc

    caused : (s : Status) → how ≡ s → IsCauseOf gives limits (over before.image before.takes opening acts after.image) s
        → (s ≡ status.OutOfMemory) ⊎ OfChoice gives (EndsOver limits (over before.image before.takes opening acts after.image) s)
    caused status.Usage is cause = absurd cause
    caused status.SourceFault is cause = absurd (source is)
    caused status.OutOfMemory is cause = inl refl
    caused (status.BadClass file refusal) is cause = absurd (not_given (status.BadClass file refusal) cause)
    caused (status.BadListing line kind) is cause = absurd cause
    caused (status.LinkRefused refusal) is cause = absurd (not_given (status.LinkRefused refusal) cause)
    caused (status.BadImage line reason) is cause = inr cause
    caused (status.ShapeChanged shape) is cause = inr cause
    caused (status.Full full) is cause = ⊎_elim
        (λ (refused : gives (Err (status.Full full))). absurd (not_given (status.Full full) refused))
        (λ (of : OfChoice gives (EndsOver limits (over before.image before.takes opening acts after.image) (status.Full full))). inr of)
        cause
    caused (status.LinkFault kind name) is cause = inr cause
    caused status.ImageFault is cause = absurd (image is)
    caused status.Ok is cause = inr cause
    caused (status.Uncaught thread class) is cause = inr cause
    caused (status.BadCode method pc) is cause = inr cause
    caused (status.RegionRace thread other place) is cause = inr cause
    caused (status.Stuck waits) is cause = inr cause
    caused status.SinkFault is cause = absurd (sink is)
    caused (status.NewImage reason) is cause = absurd cause
    caused (status.BadHistory word) is cause = absurd cause
    caused status.Refuted is cause = absurd cause

    ran_out : (how ≡ status.OutOfMemory) ⊎ RanOutOfRoom choice limits before after how opening acts
        → RanOutOfMemory before after acts how ⊎ RanOutOfRoom choice limits before after how opening acts
    ran_out (inl is) = inl (out_of_memory is)
    ran_out (inr met) = inr met

    whole : {SameImage : Type 0} → RunsOn gives limits before after SameImage how opening acts
        → RunsWhole choice limits before after how opening acts
    whole runs admits = ⊎_elim
        (λ is. inr (inl (out_of_memory is)))
        (λ of.
        let ends : EndsOver limits (over before.image before.takes opening acts after.image) how choice =
        subst (λ (c : Choice). EndsOver limits (over before.image before.takes opening acts after.image) how c)
        (same_choice of.choice of.given) of.holds in
        ⊎_elim (λ complete. inl complete) (λ short. inr (ran_out short))
        (ends_complete choice.set choice.main limits before.image before.takes opening acts after.image how admits image sink ends))
        (caused how refl runs.cause)

  told_so : (left : Option (List NamedBytes)) (files : List NamedBytes) → left ≡ Some files → HadLeft left files
  told_so left files told = subst (λ (o : Option (List NamedBytes)). HadLeft o files) (sym told) refl

  runs_class : {SameImage : Type 0} (run : RunWords) → RunsClass run before after SameImage how opening acts
      → DoesAll (Some (Run run)) before after how opening acts
  runs_class run ran files told choice gives =
      whole (ComesTo run.main before.left)
      (λ a b x y. one_of_files run.main files a b (come_so run.main before.left files told a x) (come_so run.main before.left files told b y))
      run.limits choice (record { files = files; told = told_so before.left files told; is = gives }) ran.runs

  abbrev listed_ok : List ClassFile → Result (List ClassFile) ListingError
  listed_ok classes = Ok classes

  same_classes : (a b : List ClassFile) → listed_ok a ≡ listed_ok b → a ≡ b
  same_classes a b is = cc

  runs_workload : {SameSource SameImage : Type 0} (make : MakeWords)
      → RunsWorkload make before after SameSource SameImage how opening acts → DoesAll (Some (Make make)) before after how opening acts
  runs_workload make ran classes listed choice gives =
      let same : classes ≡ ran.classes = same_classes classes ran.classes (sym listed ∙ ran.listed) in
      whole (ClassesGive (codes "Work") (kept_files ran.classes)) (one_of_classes (codes "Work") ran.classes) default_limits choice
      (subst (λ (cs : List ClassFile). ClassesGive (codes "Work") (kept_files cs) (Ok choice)) same gives) ran.runs

  -- ---- what is in an image is printed

  module _ (Says : ℕ → Words → List ℕ → Type 0) where
    abbrev Printed : Status → Type 0
    Printed s = ((s ≡ status.Ok) × HasPrinted Says before.image before.taken after.taken) ⊎ (s ≡ status.OutOfMemory)

    printed : StandsForSome before.image → (s : Status) → how ≡ s → IsReport Says before.image after.image before.taken after.taken s
        → Printed s
    printed some status.Ok is report = inl (refl, report)
    printed some status.OutOfMemory is report = inr refl
    printed some status.SinkFault is report = absurd (sink is)
    printed some status.ImageFault is report = absurd (image is)
    printed some (status.BadImage line reason) is report = absurd (some_not_bad before.image some line reason report.bad.words report.bad.read report.bad.fails)
    printed some status.Usage is report = absurd report
    printed some status.SourceFault is report = absurd report
    printed some (status.BadClass file refusal) is report = absurd report
    printed some (status.BadListing line kind) is report = absurd report
    printed some (status.LinkRefused refusal) is report = absurd report
    printed some (status.ShapeChanged shape) is report = absurd report
    printed some (status.Full full) is report = absurd report
    printed some (status.LinkFault kind name) is report = absurd report
    printed some (status.Uncaught thread class) is report = absurd report
    printed some (status.BadCode method pc) is report = absurd report
    printed some (status.RegionRace thread other place) is report = absurd report
    printed some (status.Stuck waits) is report = absurd report
    printed some (status.NewImage reason) is report = absurd report
    printed some (status.BadHistory word) is report = absurd report
    printed some status.Refuted is report = absurd report

    prints : {SameSource : Type 0} → Reports Says before after SameSource how acts → PrintsAll Says before after how acts
    prints did some = ⊎_elim (λ done. inl done) (λ is. inr (out_of_memory is)) (printed some how refl did.report)

  -- ---- a class is put

  module _ (bytes : List ℕ) where
    abbrev Put : Status → Type 0
    Put s = ((s ≡ status.Ok) × (after.taken ≡ with_bytes before.taken bytes)) ⊎ (s ≡ status.OutOfMemory)

    put : (s : Status) → how ≡ s → IsPut (Ok bytes) s before.taken after.taken → Put s
    put status.Ok is done = inl (refl, done)
    put status.OutOfMemory is done = inr refl
    put status.SinkFault is done = absurd (sink is)
    put status.ImageFault is done = absurd done
    put (status.BadImage line reason) is done = absurd done
    put status.Usage is done = absurd done
    put status.SourceFault is done = absurd done
    put (status.BadClass file refusal) is done = absurd done
    put (status.BadListing line kind) is done = absurd done
    put (status.LinkRefused refusal) is done = absurd done
    put (status.ShapeChanged shape) is done = absurd done
    put (status.Full full) is done = absurd done
    put (status.LinkFault kind name) is done = absurd done
    put (status.Uncaught thread class) is done = absurd done
    put (status.BadCode method pc) is done = absurd done
    put (status.RegionRace thread other place) is done = absurd done
    put (status.Stuck waits) is done = absurd done
    put (status.NewImage reason) is done = absurd done
    put (status.BadHistory word) is done = absurd done
    put status.Refuted is done = absurd done

  unread : (s : Status) → how ≡ s → IsUnread s → s ≡ status.OutOfMemory
  unread status.OutOfMemory is done = refl
  unread status.SourceFault is done = absurd (source is)
  unread status.Ok is done = absurd done
  unread status.SinkFault is done = absurd done
  unread status.ImageFault is done = absurd done
  unread (status.BadImage line reason) is done = absurd done
  unread status.Usage is done = absurd done
  unread (status.BadClass file refusal) is done = absurd done
  unread (status.BadListing line kind) is done = absurd done
  unread (status.LinkRefused refusal) is done = absurd done
  unread (status.ShapeChanged shape) is done = absurd done
  unread (status.Full full) is done = absurd done
  unread (status.LinkFault kind name) is done = absurd done
  unread (status.Uncaught thread class) is done = absurd done
  unread (status.BadCode method pc) is done = absurd done
  unread (status.RegionRace thread other place) is done = absurd done
  unread (status.Stuck waits) is done = absurd done
  unread (status.NewImage reason) is done = absurd done
  unread (status.BadHistory word) is done = absurd done
  unread status.Refuted is done = absurd done

  puts : (class : List ℕ) (files : List NamedBytes) → before.left ≡ Some files → (bytes : List ℕ)
      → class_of class (first_file files) ≡ Ok bytes → Assembles class before.left after.left how before.taken after.taken
      → PutsAll bytes before after how acts
  puts class files told bytes is (inl putting) =
      let given : Gives (Some files) putting.file after.left =
      subst (λ (o : Option (List NamedBytes)). Gives o putting.file after.left) told putting.read in
      let these : IsPut (Ok bytes) how before.taken after.taken =
      subst (λ (r : Result (List ℕ) Status). IsPut r how before.taken after.taken)
      (ap (λ (file : Option NamedBytes). class_of class file) given.0 ∙ is) putting.put in
      ⊎_elim (λ done. inl done) (λ none. inr (out_of_memory none)) (put bytes how refl these)
  puts class files told bytes is (inr reading) = inr (out_of_memory (unread how refl reading.is))

  -- ---- each command

  does_all : (SameSource SameImage : Type 0) (command : Option Command)
      → Does (of_top command) before after SameSource SameImage how opening acts → DoesAll command before after how opening acts
  does_all SameSource SameImage None did = tt
  does_all SameSource SameImage (Some (Run run)) did = runs_class run did
  does_all SameSource SameImage (Some (Make make)) did = runs_workload make did
  does_all SameSource SameImage (Some (Check check)) did = prints IsChecked did
  does_all SameSource SameImage (Some (Dump dump)) did = prints IsDumped did
  does_all SameSource SameImage (Some (Asm asm)) did = λ files told bytes is. puts asm.class files told bytes is did.assembles
  does_all SameSource SameImage (Some (Compact words)) did = tt
  does_all SameSource SameImage (Some (Audit words)) did = tt

  -- memory ran out before any of it
  does_none : (command : Option Command) → RanOutOfMemory before after acts how → DoesAll command before after how opening acts
  does_none None none = tt
  does_none (Some (Run run)) none = λ files told choice gives admits. inr (inl none)
  does_none (Some (Make make)) none = λ classes listed choice gives admits. inr (inl none)
  does_none (Some (Check check)) none = λ some. inr none
  does_none (Some (Dump dump)) none = λ some. inr none
  does_none (Some (Asm asm)) none = λ files told bytes is. inr none
  does_none (Some (Compact words)) none = tt
  does_none (Some (Audit words)) none = tt

-- ---- the whole

pub complete : (words : List (List ℕ)) (before after : Outside) (SameSource SameImage : Type 0) (how : Status) (opening : Graph)
    (acts : List Recorded) → Meets words before after SameSource SameImage how opening acts
    → DoesItsWork (command_of words) before after how opening acts
complete words before after SameSource SameImage how opening acts meets none =
    let source : how ≡ status.SourceFault → ⊥ = λ is. none.source (meets.source_fault is) in
    let image : how ≡ status.ImageFault → ⊥ = λ is. none.image (let failed = meets.image_fault is in omega (arith, failed)) in
    let sink : how ≡ status.SinkFault → ⊥ = λ is. none.sink (let failed = meets.sink_fault is in omega (arith, failed)) in
    ⊎_elim
    (λ (did : Does (of_top (command_of words)) before after SameSource SameImage how opening acts).
    does_all before after how opening acts source image sink meets.no_memory SameSource SameImage (command_of words) did)
    (λ (idle : (how ≡ status.OutOfMemory) × IsIdle before after SameSource SameImage acts).
    does_none before after how opening acts source image sink meets.no_memory (command_of words)
    (idle.0, idle.1.unrun, idle.1.nothing))
    meets.does
