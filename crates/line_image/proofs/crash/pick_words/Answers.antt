use Rattle.std.proofs.Common.{◌≡◌, ◌≢◌, ◌<◌, ◌+◌, ℕ, [], ◌∙◌, ap, sym, arith, length, get_or, slice_index, length-set}
use Rattle.std.proofs.Common.{get_or-set_same, get_or-set_other, below_more}
use Rattle.line_image.specs.Crash.{next_state, state_after, choice}
use Rattle.line_image.proofs.Generator.{state_after-one}
use Rattle.line_image.proofs.crash.pick_words.Goals as goal

pub loop-word-preserved : goal.loop-word-preserved
loop-word-preserved c =
    let word = c.loop-word.word in
    let state : c.next_state.result ≡ state_after c.args.state.now (word + 1) = c.next_state.ensures ∙ ap next_state c.loop-word.invariant.state ∙ sym (state_after-one c.args.state.now word) in
    let number : c.choose-number.result ≡ choice c.args.pick (length c.args.versions.now) (state_after c.args.state.now (word + 1)) =
    c.choose-number.ensures.choice ∙ ap (λ (s : ℕ). choice c.args.pick (length c.args.versions.now) s) state in
    record {
      size = length-set c.loop-word.words word _ ∙ c.loop-word.invariant.size;
      state = state;
      words = below_more _ _
          (λ k lt. let apart : k ≢ word = omega arith in get_or-set_other c.loop-word.words word k _ 0 apart ∙ c.loop-word.invariant.words k lt)
          (let here : word < length c.loop-word.words = omega arith in
          get_or-set_same c.loop-word.words word _ 0 here ∙ ap (λ (n : ℕ). slice_index (get_or c.args.versions.now n []) word) number);
    }
