use Rattle.std.proofs.Common.{◌++◌, length, List, ℕ, ap, ◌∙◌, arith}
use Rattle.history_file.specs.Spelling.{word}
use Rattle.history_file.proofs.Texts.{none_yet, one_zero}
use Rattle.history_file.proofs.writing.put_text.Goals as goal

pub loop-init : goal.loop-init
loop-init c = record {
  past = omega arith;
  put = c.in_ok-extend_from_slice.ensures.items ∙ ap (λ (l : List ℕ). l ++ c.args.text.now) c.in_ok-put.ensures
      ∙ none_yet c.args.out.now.items (word (length c.args.text.now)) c.args.text.now (length c.args.text.now);
}

pub loop-preserved : goal.loop-preserved
loop-preserved c = record {
  past = omega (arith, c.loop.invariant.past);
  put = c.in_ok-push.ensures.items
      ∙ one_zero c.loop.out.items c.args.out.now.items (word (length c.args.text.now)) c.args.text.now c.loop.counter
      (length c.args.text.now) c.loop.invariant.past c.loop.invariant.put;
}
