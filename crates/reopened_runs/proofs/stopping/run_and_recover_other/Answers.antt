use Rattle.std.proofs.Common.{ℕ, refl, sym, ap, subst}
use Rattle.line_image.specs.Crash.{first_word}
use Rattle.line_image.specs.Memory.{told_of, trace_of}
use Rattle.image_meaning.specs.Meaning.{StandsFor}
use Rattle.command_words.specs.Commands.{texts}
use Rattle.reopened_runs.proofs.Left.{recovers_within}
use Rattle.reopened_runs.proofs.stopping.run_and_recover_other.Goals as goal

pub returns : goal.returns
returns g c =
    let found = c.recover_left-recovered.ensures.found in
    let words = first_word (trace_of c.args.left) in
    record {
      meets = c.autopersist-ended.ensures.meets;
      recovers = λ n is fenced.
          recovers_within (texts c.args.words.now.items) _ _ _ _ _ _ _ c.autopersist-ended.ensures.meets c.args.source.left refl tt
          (λ same. ap told_of same) words c.recover_left-recovered.result.0
          (λ graph stands. found.stood graph (subst (λ (m : ℕ). StandsFor m words graph) (sym is.size) stands))
          (λ graph stands. found.refused graph (subst (λ (m : ℕ). StandsFor m words graph) (sym is.size) stands))
          n is.some is.made is.counted is.words fenced;
      found = found;
    }
