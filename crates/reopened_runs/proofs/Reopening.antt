-- A run on what a stop of another one left.
use Rattle.std.proofs.Common.{◌≡◌, ◌⊎◌, inl, inr, ⊎_elim, ℕ, List, [], ◌∷◌, Some, Result, Ok, refl, sym, ap, ◌∙◌, subst}
use Rattle.std.specs.Prelude.{◌≢◌}
use Rattle.ap_base.specs.declared.source.NamedBytes.{NamedBytes}
use Rattle.graph_model.specs.declared.types.Graph.{Graph}
use Rattle.image_meaning.specs.Checks.{Words}
use Rattle.image_meaning.specs.Meaning.{StandsFor}
use Rattle.line_image.specs.Told.{Told}
use Rattle.line_image.specs.Trace.{IsAllFenced, LeavesNow, Outcome}
use Rattle.line_memory.specs.Memory.{IsTelling}
use Rattle.run_history.specs.Recorded.{Recorded}
use Rattle.command_words.specs.declared.command.Run.{Run as RunWords}
use Rattle.autopersist.specs.Meets.{Meets}
use Rattle.autopersist.specs.Outside.{Outside}
use Rattle.autopersist.specs.Passed.{AreRead, CannotOpen, Choice, ComesTo, EndsOver, HasEndedSo, ImageFault, IsCauseAt, IsCauseOf, IsLeftBy}
use Rattle.autopersist.specs.Passed.{Full, FullOf, IsOpenedSo, IsRefusedStill, Linked, OfChoice, OfMemory, OfOpening, OutOfMemory, ShapeChanged, Stage}
use Rattle.autopersist.specs.Passed.{StandsAllowed}
use Rattle.autopersist.specs.Passed.{StandsRightly, Status, StoppedRunsOpenAgain, over, stage_of}
use Rattle.autopersist.proofs.Passed.{fenced_as_read, one_of_files, still_stands}
use Rattle.reopened_runs.specs.Again.{HadLittleRoom, HadOther, IsBadImage, RunsAgain, StoodFenced}
use Rattle.reopened_runs.specs.Left.{AreAsked, AsksRun, IsSomeLeft, RecoversAllowed}
use Rattle.reopened_runs.proofs.Left.{Ran, allowed_graph, done, given, none_or_some, ran, ran_or_same, read_stands}

abbrev ok : Choice → Result Choice Status
ok choice = Ok choice

same_choice : (a b : Choice) → ok a ≡ ok b → a ≡ b
same_choice a b is = cc

-- ---- the second run

-- The image that the second run has tells what the stop left of the first one's.
module _ (law : StoppedRunsOpenAgain) (words : List (List ℕ))
    (before after : Outside) (SameSource SameImage : Type 0) (how : Status) (opening : Graph) (acts : List Recorded)
    (meets : Meets words before after SameSource SameImage how opening acts)
    (again end : Outside) (SameSource' SameImage' : Type 0) (how' : Status) (opening' : Graph) (acts' : List Recorded)
    (meets' : Meets words again end SameSource' SameImage' how' opening' acts')
    (telling : IsTelling before.image.trace) (same : SameImage → after.image ≡ before.image)
    (c : Outcome) (left : LeavesNow after.image.trace c) (is : IsLeftBy before.image c again.image)
    (files files' : List NamedBytes) (told : before.left ≡ Some files) (told' : again.left ≡ Some files') where
  module _ (run : RunWords) (asked : AsksRun words run) where
    -- what refuses the image, refuses it as it is opened
    abbrev pub Refused : Choice → Type 0
    Refused choice = CannotOpen choice.set again.image end.image how'

    refused : stage_of how' ≡ OfOpening → OfChoice (AreAsked run files') Refused
    refused staged = ⊎_elim
        (λ runs.
        let cause : OfChoice (ComesTo run.main again.left) (EndsOver run.limits (over again.image again.takes opening' acts' end.image) how') =
        staged_cause how' staged runs.runs.cause in
        record {
          choice = cause.choice;
          given = given words again end SameSource' SameImage' how' opening' acts' meets' run asked files' told' cause.choice cause.given;
          holds = law.refusals cause.choice.set cause.choice.main run.limits again.image again.takes opening' acts' end.image how' cause.holds staged;
        })
        (λ idle. absurd (let no : OfMemory ≡ OfOpening = sym (ap stage_of idle.0) ∙ staged in cc))
        (done words again end SameSource' SameImage' how' opening' acts' meets' run asked)
      where
        staged_cause : (s : Status) → stage_of s ≡ OfOpening
            → IsCauseOf (ComesTo run.main again.left) run.limits (over again.image again.takes opening' acts' end.image) s
            → OfChoice (ComesTo run.main again.left) (EndsOver run.limits (over again.image again.takes opening' acts' end.image) s)
        staged_cause s staged cause =
            subst (λ (stage : Stage). IsCauseAt stage (ComesTo run.main again.left) run.limits
            (over again.image again.takes opening' acts' end.image) s) staged cause

    -- what the first run was given, in what the files give
    mine : (choice : Choice) → ComesTo run.main before.left (Ok choice) → AreAsked run files (Ok choice)
    mine choice comes = given words before after SameSource SameImage how opening acts meets run asked files told choice comes

    -- the same files give one set
    one_choice : files' ≡ files → (a b : Choice) → AreAsked run files' (Ok a) → AreAsked run files (Ok b) → a ≡ b
    one_choice files_are a b gives other =
        same_choice a b (one_of_files run.main files (Ok a) (Ok b)
        (subst (λ (fs : List NamedBytes). AreAsked run fs (Ok a)) files_are gives) other)

    -- ---- it is no bad image

    bad_so : (set : Linked) (seen : Words) (stood : Graph) → StandsFor before.image.size seen stood
        → StandsRightly set before.image opening acts acts seen c → IsBadImage how' → ⊥
    bad_so set seen stood stands rightly (line, reason, bad) =
        let of = refused (ap stage_of bad) in
        law.not_bad set of.choice.set before.image opening acts acts seen stood c stands rightly again.image end.image is line reason
        (subst (λ (s : Status). CannotOpen of.choice.set again.image end.image s) bad of.holds)

    module _ (some : acts ≢ []) where
      abbrev of : Ran words before after SameSource SameImage how opening acts meets run asked
      of = ran words before after SameSource SameImage how opening acts meets run asked some

      allowed : StandsAllowed of.choice.set before.image opening acts acts c
      allowed = ⊎_elim
          (λ (so : StandsAllowed of.choice.set before.image opening acts acts c). so)
          (λ early. absurd (some early.0))
          ((of.holds.stops telling).now (λ none. absurd (some none.0)) c left)

      opens_behind : IsBadImage how' → ⊥
      opens_behind bad = bad_so of.choice.set c allowed.allowed.graph allowed.allowed.stands (inl allowed) bad

      -- ---- nor another set's

      module _ (files_are : files' ≡ files) where
        agrees_behind : (shape : List ℕ) → how' ≡ ShapeChanged shape → ⊥
        agrees_behind shape changed =
            let at = refused (ap stage_of changed) in
            let cannot : CannotOpen of.choice.set again.image end.image how' =
            subst (λ (choice : Choice). CannotOpen choice.set again.image end.image how')
            (one_choice files_are at.choice of.choice at.given (mine of.choice of.given)) at.holds in
            ⊎_elim
            (λ (fault : how' ≡ ImageFault). let no : ShapeChanged shape ≡ ImageFault = sym changed ∙ fault in cc)
            (λ (memory : how' ≡ OutOfMemory). let no : ShapeChanged shape ≡ OutOfMemory = sym changed ∙ memory in cc)
            (law.unrefused_behind of.choice.set before.image opening acts acts c allowed again.image end.image is how' cannot)

        roomy_behind : (full : Full) → OfChoice (AreAsked run files') (λ choice. CannotOpen choice.set again.image end.image (FullOf full)) → ⊥
        roomy_behind full at =
            let cannot : CannotOpen of.choice.set again.image end.image (FullOf full) =
            subst (λ (choice : Choice). CannotOpen choice.set again.image end.image (FullOf full))
            (one_choice files_are at.choice of.choice at.given (mine of.choice of.given)) at.holds in
            ⊎_elim
            (λ (fault : FullOf full ≡ ImageFault). absurd (cc))
            (λ (memory : FullOf full ≡ OutOfMemory). absurd (cc))
            (law.unrefused_behind of.choice.set before.image opening acts acts c allowed again.image end.image is (FullOf full) cannot)

        -- the second run begins with what the first one left
        goes_on : acts' ≢ [] → RecoversAllowed (AreAsked run files) before.image opening acts acts opening'
        goes_on more =
            let of' = ran words again end SameSource' SameImage' how' opening' acts' meets' run asked more in
            let theirs = given words again end SameSource' SameImage' how' opening' acts' meets' run asked files' told' of'.choice of'.given in
            let ended : HasEndedSo of'.choice.set of'.choice.main run.limits again.image again.takes opening' acts' how' = ⊎_elim
            (λ unrun. absurd (more unrun.0))
            (λ (so : HasEndedSo of'.choice.set of'.choice.main run.limits again.image again.takes opening' acts' how'). so)
            of'.holds.ends in
            let opened : IsOpenedSo of.choice.set again.image ended.graph =
            subst (λ (choice : Choice). IsOpenedSo choice.set again.image ended.graph) (one_choice files_are of'.choice of.choice theirs (mine of.choice of.given)) ended.of in
            let begins : opening' ≡ allowed.allowed.graph =
            ended.from more
            ∙ law.goes_on of.choice.set before.image opening acts acts c allowed again.image is ended.graph opened in
            allowed_graph words before after SameSource SameImage how opening acts meets files told acts (λ none. none) c run asked of allowed
            opening' (subst (λ (g : Graph). StandsFor before.image.size c g) (sym begins) allowed.allowed.stands)

    -- ---- where there are none

    module _ (fenced : IsAllFenced before.image.trace) (prior : Graph) (stood : IsSomeLeft before.image prior) where
      -- these words are read, and what the stop left stands rightly where they were there before
      abbrev Early : Linked → Type 0
      Early set = (seen : Words) × AreRead before.image seen × StandsFor before.image.size seen prior
          × StandsRightly set before.image opening acts acts seen c

      -- so it is for the set that ran, or for each where the image is as it was
      early : OfChoice (ComesTo run.main before.left) (λ choice. Early choice.set) ⊎ ((set : Linked) → Early set)
      early = ⊎_elim
          (λ of.
          let stops = of.holds.stops telling in
          inl (record {
            choice = of.choice;
            given = of.given;
            holds = (
              stops.words,
              stops.read,
              read_stands before.image telling prior stood stops.words stops.read,
              stops.now (λ none. fenced) c left,
            );
          }))
          (λ unrun.
          let still : LeavesNow before.image.trace c = subst (λ (t : Told). LeavesNow t.trace c) (same unrun.0) left in
          inr (λ set. (
            stood.0,
            stood.1,
            stood.2,
            inr (
              unrun.1,
              λ graph so. inl (still_stands before.image.size stood.0 c graph so (λ l w below.
                  fenced_as_read before.image.trace telling fenced c still l w (stood.0 l w) (stood.1 l w below))),
            ),
          )))
          (ran_or_same words before after SameSource SameImage how opening acts meets run asked)

      opens_still : IsBadImage how' → ⊥
      opens_still bad = ⊎_elim
          (λ of. bad_so of.choice.set of.holds.0 prior of.holds.2 of.holds.3 bad)
          (λ any.
          let so = any (refused (ap stage_of bad.2)).choice.set in
          bad_so (refused (ap stage_of bad.2)).choice.set so.0 prior so.2 so.3 bad)
          early

      module _ (files_are : files' ≡ files) (shape : List ℕ) (changed : how' ≡ ShapeChanged shape) where
        abbrev at : OfChoice (AreAsked run files') Refused
        at = refused (ap stage_of changed)

        had_so : Early at.choice.set → (acts ≡ []) × HadOther at.choice.set before.image shape
        had_so so = elim (law.unrefused at.choice.set before.image opening acts acts so.0 prior c so.2 so.3 again.image end.image
            is how' at.holds) [
              | inl fault ↦ let no : ShapeChanged shape ≡ ImageFault = sym changed ∙ fault in cc
              | inr rest ↦ elim rest [
                | inl memory ↦ let no : ShapeChanged shape ≡ OutOfMemory = sym changed ∙ memory in cc
                | inr still ↦ (
                  still.0,
                  (
                    so.0,
                    so.1,
                    (let had : IsRefusedStill at.choice.set so.0 (ShapeChanged shape) =
                        subst (λ (s : Status). IsRefusedStill at.choice.set so.0 s) changed still.1 in had),
                  ),
                )
              ]
            ]

        agrees_still : (acts ≡ []) × OfChoice (AreAsked run files) (λ choice. HadOther choice.set before.image shape)
        agrees_still =
            let had : (acts ≡ []) × HadOther at.choice.set before.image shape = ⊎_elim
            (λ of. had_so (subst (λ (choice : Choice). Early choice.set)
            (sym (one_choice files_are at.choice of.choice at.given (mine of.choice of.given))) of.holds))
            (λ any. had_so (any at.choice.set))
            early in (
              had.0,
              record {
                choice = at.choice;
                given = subst (λ (fs : List NamedBytes). AreAsked run fs (Ok at.choice)) files_are at.given;
                holds = had.1;
              },
            )

      module _ (files_are : files' ≡ files) (full : Full)
          (at : OfChoice (AreAsked run files') (λ choice. CannotOpen choice.set again.image end.image (FullOf full))) where
        little_so : Early at.choice.set → (acts ≡ []) × HadLittleRoom at.choice.set before.image full.which
        little_so so = elim (law.unrefused at.choice.set before.image opening acts acts so.0 prior c so.2 so.3 again.image end.image
            is (FullOf full) at.holds) [
              | inl fault ↦ let no : FullOf full ≡ ImageFault = fault in cc
              | inr rest ↦ elim rest [
                | inl memory ↦ let no : FullOf full ≡ OutOfMemory = memory in cc
                | inr still ↦ (still.0, (so.0, so.1, still.1))
              ]
            ]

        roomy_still : (acts ≡ []) × OfChoice (AreAsked run files) (λ choice. HadLittleRoom choice.set before.image full.which)
        roomy_still =
            let had : (acts ≡ []) × HadLittleRoom at.choice.set before.image full.which = ⊎_elim
            (λ of. little_so (subst (λ (choice : Choice). Early choice.set)
            (sym (one_choice files_are at.choice of.choice at.given (mine of.choice of.given))) of.holds))
            (λ any. little_so (any at.choice.set))
            early in (
              had.0,
              record {
                choice = at.choice;
                given = subst (λ (fs : List NamedBytes). AreAsked run fs (Ok at.choice)) files_are at.given;
                holds = had.1;
              },
            )

    -- ---- whether there are or not

    opens : (acts ≡ [] → StoodFenced before.image) → IsBadImage how' → ⊥
    opens premise bad = ⊎_elim
        (λ (none : acts ≡ []). let so = premise none in opens_still so.0 so.1 so.2 bad)
        (λ (some : acts ≢ []). opens_behind some bad)
        (none_or_some acts)

    agrees : (acts ≡ [] → StoodFenced before.image) → files' ≡ files → (shape : List ℕ) → how' ≡ ShapeChanged shape
        → (acts ≡ []) × OfChoice (AreAsked run files) (λ choice. HadOther choice.set before.image shape)
    agrees premise files_are shape changed = ⊎_elim
        (λ (none : acts ≡ []). let so = premise none in agrees_still so.0 so.1 so.2 files_are shape changed)
        (λ (some : acts ≢ []). absurd (agrees_behind some files_are shape changed))
        (none_or_some acts)

    roomy : (acts ≡ [] → StoodFenced before.image) → files' ≡ files → (full : Full)
        → OfChoice (AreAsked run files') (λ choice. CannotOpen choice.set again.image end.image (FullOf full))
        → (acts ≡ []) × OfChoice (AreAsked run files) (λ choice. HadLittleRoom choice.set before.image full.which)
    roomy premise files_are full at = ⊎_elim
        (λ (none : acts ≡ []). let so = premise none in roomy_still so.0 so.1 so.2 files_are full at)
        (λ (some : acts ≢ []). absurd (roomy_behind some files_are full at))
        (none_or_some acts)

  pub runs_again : RunsAgain words files files' before.image opening acts again.image end.image opening' acts' how'
  runs_again = record {
    opens = opens;
    agrees = agrees;
    roomy = roomy;
    goes_on = goes_on;
  }
