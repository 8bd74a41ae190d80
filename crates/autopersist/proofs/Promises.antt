-- From what a command did to what the top call promises.
use Rattle.std.proofs.Common.{◌≡◌, ◌⊎◌, inl, inr, ℕ, List, [], Option, Some, None, Result, Ok, Err, refl, sym, ap, subst, ◌∙◌}
use Rattle.std.specs.Prelude.{◌≢◌, OnOk, IfErr}
use Rattle.std.proofs.lemmas.List.{append-nil}
use Rattle.ap_base.specs.Causes.{Rose, next_count}
use Rattle.ap_base.specs.Sinks.{with_bytes}
use Rattle.ap_base.specs.declared.source.NamedBytes.{NamedBytes}
use Rattle.graph_model.specs.declared.types.Graph.{Graph}
use Rattle.image_meaning.specs.Checks.{Words}
use Rattle.image_meaning.specs.Meaning.{empty_graph}
use Rattle.image_opening.specs.Attached.{IsSettled}
use Rattle.image_opening.specs.Stops.{KeepsItsGraph}
use Rattle.image_opening.specs.declared.not_opened.NotOpened.TheVariants as unopened
use Rattle.image_report.specs.Reports.{HasPrinted, IsLeftOpen, IsUnreported, WasOpened}
use Rattle.image_report.specs.declared.not_reported.NotReported.{NotReported}
use Rattle.image_report.specs.declared.not_reported.NotReported.TheVariants.{Unopened, SinkFailed, OutOfMemory}
use Rattle.line_image.specs.Told.{Told}
use Rattle.run_history.specs.Recorded.{Recorded}
use Rattle.class_runs.specs.Passed.{with_all}
use Rattle.command_words.specs.Commands.{command_of}
use Rattle.command_words.specs.declared.command.Command.{Command}
use Rattle.command_words.specs.declared.command.Command.TheVariants.{Run}
use Rattle.command_words.specs.declared.command.Run.{Run as RunWords}
use Rattle.statuses.specs.declared.status.Status.{Status}
use Rattle.statuses.specs.declared.status.Status.TheVariants as status
use Rattle.class_runs.specs.Passed.{IsLeft}
use Rattle.class_runs.specs.Runs.{AnswersFor, ComesTo, IsCauseOf, IsOfRun, OfChoice, RunsAs, Tells, over}
use Rattle.autopersist.specs.Asked.{of_top}
use Rattle.autopersist.specs.Meets.{Does, Meets}
use Rattle.autopersist.specs.Outside.{Outside}
use Rattle.autopersist.specs.Reports.{IsOfPut, IsReport, Reports, status_of_report}
use Rattle.autopersist.specs.Runs.{RunsClass}

-- ---- what was told

pub none_seen : (sees : Option (List Recorded)) → sees ≡ with_all sees []
none_seen None = refl
none_seen (Some seen) = ap (λ (told : List Recorded). Some told) (sym (append-nil seen))

pub none_taken : (takes : Option (List ℕ)) → takes ≡ with_bytes takes []
none_taken None = refl
none_taken (Some taken) = ap (λ (bytes : List ℕ). Some bytes) (sym (append-nil taken))

-- a run without acts puts nothing
pub nothing_put : (acts : List Recorded) (sees sees' : Option (List Recorded)) (taken taken' : Option (List ℕ))
    (takes takes' : ℕ → ℕ → Option ℕ) → Tells acts sees sees' taken taken' takes takes' → acts ≡ [] → taken' ≡ taken
nothing_put acts sees sees' taken taken' takes takes' told none =
    (subst (λ (ran : List Recorded). Tells ran sees sees' taken taken' takes takes') none told).printed ∙ sym (none_taken taken)

-- ---- what commands about an image print

module _ (Says : ℕ → Words → List ℕ → Type 0) (start left : Told) (takes takes' : Option (List ℕ)) where
  pub report_so : (how : Result (Unit {0}) NotReported) → OnOk how (HasPrinted Says start takes takes')
      → IfErr how (IsUnreported Says start left takes takes') → (WasOpened how → IsLeftOpen start left)
      → IsReport Says start left takes takes' (status_of_report how)
  report_so (Ok done) printed unreported opened = printed
  report_so (Err (Unopened (unopened.BadImage line reason))) printed unreported opened = unreported
  report_so (Err (Unopened unopened.ImageFailed)) printed unreported opened = unreported
  report_so (Err (Unopened unopened.OutOfMemory)) printed unreported opened = (unreported.none, inl unreported.unopened)
  report_so (Err SinkFailed) printed unreported opened = unreported
  report_so (Err OutOfMemory) printed unreported opened = (unreported, inr (opened tt))

  -- want of memory prints nothing
  pub report_none : (s : Status) → IsReport Says start left takes takes' s → s ≡ status.OutOfMemory → takes' ≡ takes
  report_none status.OutOfMemory report is = report.0
  report_none status.Ok report is = absurd cc
  report_none (status.Uncaught thread class) report is = absurd cc
  report_none status.Usage report is = absurd cc
  report_none (status.BadClass file refusal) report is = absurd cc
  report_none (status.BadListing line kind) report is = absurd cc
  report_none (status.LinkRefused refusal) report is = absurd cc
  report_none (status.BadCode method pc) report is = absurd cc
  report_none (status.RegionRace thread other place) report is = absurd cc
  report_none (status.Full full) report is = absurd cc
  report_none status.SourceFault report is = absurd cc
  report_none status.ImageFault report is = absurd cc
  report_none status.SinkFault report is = absurd cc
  report_none (status.Stuck waits) report is = absurd cc
  report_none (status.LinkFault kind name) report is = absurd cc
  report_none (status.NewImage reason) report is = absurd cc
  report_none (status.BadHistory word) report is = absurd cc
  report_none status.Refuted report is = absurd cc
  report_none (status.BadImage line reason) report is = absurd cc
  report_none (status.ShapeChanged shape) report is = absurd cc

-- none is `Usage`, or a fault of the source
pub report_usage : (how : Result (Unit {0}) NotReported) → status_of_report how ≡ status.Usage → ⊥
report_usage (Ok done) is = cc
report_usage (Err (Unopened (unopened.BadImage line reason))) is = cc
report_usage (Err (Unopened unopened.ImageFailed)) is = cc
report_usage (Err (Unopened unopened.OutOfMemory)) is = cc
report_usage (Err SinkFailed) is = cc
report_usage (Err OutOfMemory) is = cc

pub report_source : (how : Result (Unit {0}) NotReported) → status_of_report how ≡ status.SourceFault → ⊥
report_source (Ok done) is = cc
report_source (Err (Unopened (unopened.BadImage line reason))) is = cc
report_source (Err (Unopened unopened.ImageFailed)) is = cc
report_source (Err (Unopened unopened.OutOfMemory)) is = cc
report_source (Err SinkFailed) is = cc
report_source (Err OutOfMemory) is = cc

put_so : (how : Result (Unit {0}) NotReported) → IsOfPut (status_of_report how) → WasOpened how
put_so (Ok done) put = tt
put_so (Err SinkFailed) put = tt
put_so (Err (Unopened (unopened.BadImage line reason))) put = put
put_so (Err (Unopened unopened.ImageFailed)) put = put
put_so (Err (Unopened unopened.OutOfMemory)) put = put
put_so (Err OutOfMemory) put = tt

pub report_image : (how : Result (Unit {0}) NotReported) (before after : ℕ)
    → IfErr how (λ why. why ≡ Unopened unopened.ImageFailed → after ≡ next_count before) → status_of_report how ≡ status.ImageFault
    → after ≡ next_count before
report_image (Ok done) before after cause is = absurd cc
report_image (Err (Unopened (unopened.BadImage line reason))) before after cause is = absurd cc
report_image (Err (Unopened unopened.ImageFailed)) before after cause is = cause refl
report_image (Err (Unopened unopened.OutOfMemory)) before after cause is = absurd cc
report_image (Err SinkFailed) before after cause is = absurd cc
report_image (Err OutOfMemory) before after cause is = absurd cc

pub report_sink : (how : Result (Unit {0}) NotReported) (before after : ℕ)
    → IfErr how (λ why. why ≡ SinkFailed → after ≡ next_count before) → status_of_report how ≡ status.SinkFault → after ≡ next_count before
report_sink (Ok done) before after cause is = absurd cc
report_sink (Err (Unopened (unopened.BadImage line reason))) before after cause is = absurd cc
report_sink (Err (Unopened unopened.ImageFailed)) before after cause is = absurd cc
report_sink (Err (Unopened unopened.OutOfMemory)) before after cause is = absurd cc
report_sink (Err SinkFailed) before after cause is = cause refl
report_sink (Err OutOfMemory) before after cause is = absurd cc

-- what doesn't fail but by this answer stands in a report that ends otherwise
report_spared : (how last : Result (Unit {0}) NotReported) (before after : ℕ) → (how ≢ last → after ≡ before)
    → status_of_report how ≢ status_of_report last → after ≡ before
report_spared how last before after spared isnt = spared (λ is. isnt (ap status_of_report is))

-- ---- the whole

module _ (words : List (List ℕ)) (before after : Outside) (SameSource SameImage : Type 0) where
  -- it did what the command asks
  does_so : (how : Status) (opening : Graph) (acts : List Recorded) (command : Command) → command_of words ≡ Some command
      → Does (of_top (Some command)) before after SameSource SameImage how opening acts
      → Does (of_top (command_of words)) before after SameSource SameImage how opening acts
  does_so how opening acts command asked done =
      subst (λ (o : Option Command). Does (of_top o) before after SameSource SameImage how opening acts) (sym asked) done

  -- a class was run, whose name is this text
  module _ (how : Status) (opening : Graph) (acts : List Recorded) (run : RunWords) (text : List ℕ) (same : text ≡ run.main)
      (asked : command_of words ≡ Some (Run run))
      (cause : IsCauseOf (ComesTo text before.left) run.limits (over before.image before.takes opening acts after.image) how)
      (answers : AnswersFor text before.left how)
      (whole : acts ≢ [] → (files : List NamedBytes) → before.left ≡ Some files → after.left ≡ Some [])
      (left : acts ≡ [] → (files : List NamedBytes) → before.left ≡ Some files → IsLeft files how after.left)
      (theorem : (SameImage × (acts ≡ []))
      ⊎ OfChoice (ComesTo text before.left) (RunsAs run.limits (over before.image before.takes opening acts after.image) how))
      (early : IsOfRun how ⊎ (SameImage × (acts ≡ [])))
      (told : Tells acts before.seen after.seen before.taken after.taken before.takes after.takes)
    where
      named : RunsClass run before after SameImage how opening acts
      named = record {
        runs = record {
          cause = subst (λ (name : List ℕ).
              IsCauseOf (ComesTo name before.left) run.limits (over before.image before.takes opening acts after.image) how) same cause;
          theorem = subst (λ (name : List ℕ). (SameImage × (acts ≡ []))
              ⊎ OfChoice (ComesTo name before.left) (RunsAs run.limits (over before.image before.takes opening acts after.image) how)) same theorem;
          early = early;
          printed = told.printed;
          leaves = told.leaves;
        };
        answers = subst (λ (name : List ℕ). AnswersFor name before.left how) same answers;
        whole = whole;
        left = left;
      }

      not_usage : how ≡ status.Usage → ⊥
      not_usage is =
          subst (λ (s : Status). IsCauseOf (ComesTo text before.left) run.limits (over before.image before.takes opening acts after.image) s) is cause

      pub run_meets : (how ≡ status.SourceFault → Rose before.source_faults after.source_faults)
          → (how ≡ status.ImageFault → after.image_faults ≡ next_count before.image_faults)
          → (how ≢ status.ImageFault → after.image_faults ≡ before.image_faults)
          → (how ≡ status.SinkFault → after.sink_faults ≡ next_count before.sink_faults)
          → (how ≢ status.SinkFault → after.sink_faults ≡ before.sink_faults)
          → (how ≡ status.OutOfMemory → acts ≡ []) → (acts ≡ [] → opening ≡ empty_graph) → after.image.size ≡ before.image.size
          → Meets words before after SameSource SameImage how opening acts
      run_meets source image image_spared sink spared memory none size = record {
        usage = λ is. absurd (not_usage is);
        does = inl (does_so how opening acts (Run run) asked named);
        source_fault = source;
        image_fault = image;
        image_spared = image_spared;
        sink_fault = sink;
        sink_spared = spared;
        no_memory = λ is. (memory is, nothing_put acts before.seen after.seen before.taken after.taken before.takes after.takes told (memory is));
        unbegun = none;
        watched = told.watched;
        size = size;
      }

  -- what is in the image was printed, or not
  pub reports_meet : (Says : ℕ → Words → List ℕ → Type 0) (how : Result (Unit {0}) NotReported) (command : Command)
      → command_of words ≡ Some command
      → (Reports Says before after SameSource (status_of_report how) []
      → Does (of_top (Some command)) before after SameSource SameImage (status_of_report how) empty_graph [])
      → SameSource → OnOk how (HasPrinted Says before.image before.taken after.taken)
      → IfErr how (IsUnreported Says before.image after.image before.taken after.taken)
      → (WasOpened how → IsLeftOpen before.image after.image)
      → (IsSettled before.image → KeepsItsGraph before.image after.image)
      → IfErr how (λ why. why ≡ Unopened unopened.ImageFailed → after.image_faults ≡ next_count before.image_faults)
      → (how ≢ Err (Unopened unopened.ImageFailed) → after.image_faults ≡ before.image_faults)
      → IfErr how (λ why. why ≡ SinkFailed → after.sink_faults ≡ next_count before.sink_faults)
      → (how ≢ Err SinkFailed → after.sink_faults ≡ before.sink_faults)
      → after.seen ≡ before.seen → after.image.size ≡ before.image.size
      → Meets words before after SameSource SameImage (status_of_report how) empty_graph []
  reports_meet Says how command asked so source printed unreported left stops image image_spared sink spared seen size =
      let report = report_so Says before.image after.image before.taken after.taken how printed unreported left in
      record {
        usage = λ is. absurd (report_usage how is);
        does = inl (does_so (status_of_report how) empty_graph [] command asked
            (so (record { unasked = source; unrun = refl; report = report; left = λ put. left (put_so how put); stops = stops })));
        source_fault = λ is. absurd (report_source how is);
        image_fault = report_image how before.image_faults after.image_faults image;
        image_spared = report_spared how (Err (Unopened unopened.ImageFailed)) before.image_faults after.image_faults image_spared;
        sink_fault = report_sink how before.sink_faults after.sink_faults sink;
        sink_spared = report_spared how (Err SinkFailed) before.sink_faults after.sink_faults spared;
        no_memory = λ is. (
          refl,
          report_none Says before.image after.image before.taken after.taken (status_of_report how) report is,
        );
        unbegun = λ none. refl;
        watched = seen ∙ none_seen before.seen;
        size = size;
      }
