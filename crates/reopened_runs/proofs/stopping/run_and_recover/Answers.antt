use Rattle.std.proofs.Common.{ℕ, refl, sym, ap, ◌∙◌, subst}
use Rattle.line_image.specs.Crash.{first_word}
use Rattle.line_image.specs.Memory.{told_of, trace_of}
use Rattle.image_meaning.specs.Meaning.{StandsFor}
use Rattle.command_words.specs.Commands.{texts}
use Rattle.reopened_runs.proofs.Left.{keeps_refused, recovers_now, recovers_nothing}
use Rattle.reopened_runs.proofs.stopping.run_and_recover.Goals as goal

pub returns-in-Ok : goal.returns-in-Ok
returns-in-Ok g c =
    let meets = c.autopersist-ended.ensures.meets in
    let left = c.in-Ok.left in
    let is = c.in-Ok.ensures in
    let words = first_word (trace_of left) in
    let size = is.size ∙ meets.size in
    let found = c.recover_left-recovered.ensures.found in
    record {
      meets = meets;
      recovers = λ fenced.
          recovers_now (texts c.args.words.now.items) _ _ _ _ _ _ _ meets c.args.source.left refl tt (λ same. ap told_of same) words
          c.recover_left-recovered.result.0
          (λ graph stands. found.stood graph (subst (λ (n : ℕ). StandsFor n words graph) (sym size) stands))
          (λ graph stands. found.refused graph (subst (λ (n : ℕ). StandsFor n words graph) (sym size) stands))
          is.outcome fenced;
      keeps = keeps_refused (texts c.args.words.now.items) _ _ _ _ _ _ _ meets c.args.source.left refl tt (λ same. ap told_of same) words
          c.recover_left-recovered.result.0
          (λ graph stands. found.stood graph (subst (λ (n : ℕ). StandsFor n words graph) (sym size) stands))
          (λ graph stands. found.refused graph (subst (λ (n : ℕ). StandsFor n words graph) (sym size) stands))
          c.stopped_runs_open_again.ensures.again is.outcome;
      found = (
        left,
        record {
          untouched = is.untouched;
          faultless = is.faultless;
          size = is.size;
          words = is.outcome;
          picked = is.picked;
          uncalled = is.uncalled;
          fails = is.fails;
          room = is.room;
        },
        found,
      );
    }

pub returns-in-Err : goal.returns-in-Err
returns-in-Err g c = record {
  meets = c.autopersist-ended.ensures.meets;
  recovers = λ fenced. recovers_nothing (texts c.args.words.now.items) _ _ _ _ _;
  keeps = λ run asked shape is prior stood. tt;
  found = refl;
}
