-- What a run printed, and of what.
use Rattle.std.proofs.Common.{◌≡◌, ⊎_elim, ℕ, List, [], length, Option, Some, refl, ap, sym, subst, ◌∙◌}
use Rattle.std.specs.Prelude.{◌≢◌}
use Rattle.ap_base.specs.Causes.{next_count}
use Rattle.ap_base.specs.Sinks.{SinkState, TakesBehind}
use Rattle.ap_base.specs.declared.source.NamedBytes.{NamedBytes}
use Rattle.graph_model.specs.declared.types.Graph.{Graph}
use Rattle.line_image.specs.Told.{Told}
use Rattle.plain_model.specs.Runs.{output_of}
use Rattle.run_history.specs.declared.act.Op.{Op}
use Rattle.run_history.specs.Recorded.{Recorded}
use Rattle.command_words.specs.declared.command.Run.{Run as RunWords}
use Rattle.autopersist.specs.Meets.{Meets}
use Rattle.autopersist.specs.Outside.{Outside}
use Rattle.autopersist.specs.Passed.{EachPrintsItsShare, HasEndedSo, IsShareOfPiece, Launch, Limits, Linked, OfChoice, Status, launch_over, piece_of}
use Rattle.reopened_runs.specs.Left.{AreAsked, AsksRun, takes_of}
use Rattle.reopened_runs.specs.Printed.{Prints, PrintsWhatFits, RunsPlainly}
use Rattle.reopened_runs.proofs.Left.{given, leaves_so, printed_so, ran}

-- what a sink in memory takes
fits : (launch : Launch) (sink : SinkState) (acts : List Recorded) → EachPrintsItsShare launch (takes_of sink) [] acts
    → PrintsWhatFits launch sink acts
fits launch sink acts each before a behind is from piece bytes asked does =
    let share = each before a behind is in
    subst (λ (o : Op). IsShareOfPiece (Some piece) (takes_of sink (length (output_of before))) o) does
    (subst (λ (p : Option (List ℕ)). IsShareOfPiece p (takes_of sink (length (output_of before))) a.act.op) (ap piece_of asked) share)

-- the run that ended so is a plain one, from the graph that is given back
plainly : (set : Linked) (name : List ℕ) (start : Told) (sink : SinkState) (opening : Graph) (acts : List Recorded) (limits : Limits)
    (how : Status) → acts ≢ [] → HasEndedSo set name limits start (takes_of sink) opening acts how
    → RunsPlainly set name start sink opening acts limits how
plainly set name start sink opening acts limits how some ended =
    subst (λ (graph : Graph). RunsPlainly set name start sink graph acts limits how) (sym (ended.from some)) (record {
      of = ended.of;
      main = ended.main;
      found = ended.found;
      launch = launch_over ended.of.numbered ended.main limits ended.graph ended.literals;
      literals = ended.literals;
      launch_is = refl;
      run = ended.run;
      unfaulted = ended.within;
      shares = fits (launch_over ended.of.numbered ended.main limits ended.graph ended.literals) sink acts ended.shares;
      ending = ended.ends.ending;
      ended = ended.ends.ended;
      is = ended.ends.is;
    })

module _ (words : List (List ℕ)) (before after : Outside) (SameSource SameImage : Type 0) (how : Status) (opening : Graph)
    (acts : List Recorded) (meets : Meets words before after SameSource SameImage how opening acts) (files : List NamedBytes)
    (told : before.left ≡ Some files) (sink sink' : SinkState) (was : before.taken ≡ Some sink.taken) (is : after.taken ≡ Some sink'.taken)
    (takes : before.takes ≡ takes_of sink) (left : after.takes ≡ takes_of sink') (counted : before.sink_faults ≡ sink.faults)
    (counts : after.sink_faults ≡ sink'.faults) where
  plain : (run : RunWords) → AsksRun words run → acts ≢ []
      → OfChoice (AreAsked run files) (λ choice. RunsPlainly choice.set choice.main before.image sink opening acts run.limits how)
  plain run asked some =
      let of = ran words before after SameSource SameImage how opening acts meets run asked some in
      record {
        choice = of.choice;
        given = given words before after SameSource SameImage how opening acts meets run asked files told of.choice of.given;
        holds = plainly of.choice.set of.choice.main before.image sink opening acts run.limits how some
            (subst (λ (f : ℕ → ℕ → Option ℕ). HasEndedSo of.choice.set of.choice.main run.limits before.image f opening acts how) takes
            (⊎_elim
            (λ unrun. absurd (some unrun.0))
            (λ (so : HasEndedSo of.choice.set of.choice.main run.limits before.image before.takes opening acts how). so)
            of.holds.ends));
      }

  pub prints : Prints words files before.image sink sink' opening acts how
  prints = record {
    printed = λ run asked. printed_so words before after SameSource SameImage how opening acts meets run asked sink.taken sink'.taken was is;
    ran = plain;
    leaves = λ run asked.
        subst (λ (f : ℕ → ℕ → Option ℕ). TakesBehind f (takes_of sink') (length (output_of acts))) takes
        (subst (λ (f : ℕ → ℕ → Option ℕ). TakesBehind before.takes f (length (output_of acts))) left
        (leaves_so words before after SameSource SameImage how opening acts meets run asked));
    failed = λ ends. sym counts ∙ meets.sink_fault ends ∙ ap next_count counted;
    unfailed = λ isnt. sym counts ∙ meets.sink_spared isnt ∙ counted;
  }
