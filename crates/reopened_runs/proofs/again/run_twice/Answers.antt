use Rattle.std.proofs.Common.{refl, ap, ◌∙◌}
use Rattle.line_image.specs.Crash.{first_word}
use Rattle.line_image.specs.Memory.{told_of, trace_of}
use Rattle.command_words.specs.Commands.{texts}
use Rattle.autopersist.specs.Passed.{IsLeftBy}
use Rattle.reopened_runs.proofs.Reopening.{runs_again}
use Rattle.reopened_runs.proofs.Left.{fresh_reads}
use Rattle.reopened_runs.proofs.again.run_twice.Goals as goal

pub returns-in-Ok : goal.returns-in-Ok
returns-in-Ok g c =
    let first = c.autopersist-first.ensures.meets in
    let second = c.autopersist-second.ensures.meets in
    let left = c.in-Ok.left in
    let is : IsLeftBy (told_of c.args.image) (first_word (trace_of left)) (told_of left) = record {
      size = c.in-Ok.ensures.size ∙ first.size;
      telling = tt;
      read = fresh_reads left c.in-Ok.ensures.untouched;
    } in
    let stop = c.in-Ok.ensures in
    record {
      first = first;
      second = (
        left,
        record {
          untouched = stop.untouched;
          faultless = stop.faultless;
          size = stop.size;
          words = stop.outcome;
          picked = stop.picked;
          uncalled = stop.uncalled;
          fails = stop.fails;
          room = stop.room;
        },
        second,
        runs_again c.stopped_runs_open_again.ensures.again (texts c.args.words.now.items) _ _ _ _ _ _ _ first _ _ _ _ _ _ _ second
            tt (λ same. ap told_of same) (first_word (trace_of left)) c.in-Ok.ensures.outcome is c.args.given.source.left
            c.args.again.source.left refl refl,
      );
    }
