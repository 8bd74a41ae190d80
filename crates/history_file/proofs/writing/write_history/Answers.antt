use Rattle.std.proofs.Common.{ℕ, List, ◌++◌, ◌∷◌, [], length, ap, sym, ◌∙◌, arith}
use Rattle.run_history.specs.Recorded.{named_at}
use Rattle.history_file.specs.Spelling.{act_bytes, words, magic}
use Rattle.history_file.proofs.Taken.{naming, act_at_place, one_more, all_written, past_acts}
use Rattle.history_file.proofs.writing.write_history.Goals as goal

pub acts-preserved : goal.acts-preserved
acts-preserved c =
    let history = c.args.acts.now in
    let act = c.in-Some.act.now in
    let i = c.acts.i in
    let next = one_more act_bytes (words (magic ∷ 1 ∷ length history.acts ∷ c.args.keep ∷ [])) history.acts i
    (naming act (named_at history i)) c.acts.out.items c.acts.invariant.written
    (act_at_place history i act (sym c.in-Some.ensures.act)) in
    record {
      within = omega (arith, next.0);
      written = c.in_ok-put_act.ensures
          ∙ ap (λ (named : List ℕ). c.acts.out.items ++ act_bytes (naming act named)) c.named.ensures.named ∙ next.1;
    }

pub returns : goal.returns
returns c = record {
  bytes = all_written act_bytes (words (magic ∷ 1 ∷ length c.args.acts.now.acts ∷ c.args.keep ∷ [])) c.args.acts.now.acts
      c.acts.i c.acts.out.items c.acts.invariant.written
      (past_acts c.args.acts.now c.acts.i (sym c.in_default.ensures.act));
}
