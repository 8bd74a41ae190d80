use Rattle.std.proofs.Common.{◌+◌, ◌∙◌, ℕ, [], refl, subst, arith}
use Rattle.line_memory.specs.Memory.{Memory}
use Rattle.image_layout.specs.Places.{logs, log_head_line}
use Rattle.word_changes.specs.Changes.{ChangesTo, WritesAll}
use Rattle.word_changes.proofs.Changing.{changes_weaker}
use Rattle.word_changes.proofs.Going.{goes_nowhere, goes_more}
use Rattle.image_compact.specs.Writing.{OfWords, OfHeads}
use Rattle.image_compact.proofs.LineWords.{both_change, both_wrote}
use Rattle.image_compact.proofs.ImageWords.{no_heads, fewer_heads, next_head, of_head, heads_apart, heads_within}
use Rattle.image_compact.proofs.writing.clear_heads.Goals as goal

pub loop-thread-init : goal.loop-thread-init
loop-thread-init g c =
    let m : Memory = c.args.memory.now in
    let begin = no_heads m in
    record { wrote = begin.0; changes = begin.1; goes_on = goes_nowhere m; spared = refl }

pub returns-in_err-write_words-clause-changes : goal.returns-in_err-write_words-clause-changes
returns-in_err-write_words-clause-changes g c =
    let a : Memory = c.args.memory.now in
    let b : Memory = c.loop-thread.memory in
    let d : Memory = c.write_words.new.memory in
    let t = c.loop-thread.thread in
    let put : ChangesTo (OfWords [] (log_head_line t) 1) b d =
    subst (λ (line : ℕ). ChangesTo (OfWords [] line 1) b d) c.head_line-line.ensures c.write_words.ensures.changes in
    changes_weaker (OfHeads (t + 1)) (OfHeads logs) a d (fewer_heads (t + 1) logs (omega (arith, c.loop-thread-test.true)))
    (both_change (OfHeads t) (OfWords [] (log_head_line t) 1) (OfHeads (t + 1)) a b d c.loop-thread.invariant.changes put
    (fewer_heads t (t + 1) (omega arith)) (next_head t))

pub returns-in_err-write_words-clause-goes_on : goal.returns-in_err-write_words-clause-goes_on
returns-in_err-write_words-clause-goes_on g c =
    goes_more c.args.memory.now c.loop-thread.memory c.write_words.new.memory c.loop-thread.invariant.goes_on c.write_words.ensures.goes_on

pub loop-thread-preserved : goal.loop-thread-preserved
loop-thread-preserved g c =
    let a : Memory = c.args.memory.now in
    let b : Memory = c.loop-thread.memory in
    let d : Memory = c.write_words.new.memory in
    let t = c.loop-thread.thread in
    let so_far = c.loop-thread.invariant in
    let put : ChangesTo (OfWords [] (log_head_line t) 1) b d =
    subst (λ (line : ℕ). ChangesTo (OfWords [] line 1) b d) c.head_line-line.ensures c.write_words.ensures.changes in
    let wrote : WritesAll (OfWords [] (log_head_line t) 1) b d =
    subst (λ (line : ℕ). WritesAll (OfWords [] line 1) b d) c.head_line-line.ensures c.in_ok-write_words.ensures.wrote in
    record {
      wrote = both_wrote (OfHeads t) (OfWords [] (log_head_line t) 1) (OfHeads (t + 1)) a b d so_far.changes put (of_head t) (heads_apart t)
          (heads_within t b.size (omega (arith, c.loop-thread-test.true)) (omega (arith, c.requires.enough, so_far.changes.size)))
          so_far.wrote wrote;
      changes = both_change (OfHeads t) (OfWords [] (log_head_line t) 1) (OfHeads (t + 1)) a b d so_far.changes put
          (fewer_heads t (t + 1) (omega arith)) (next_head t);
      goes_on = goes_more a b d so_far.goes_on c.write_words.ensures.goes_on;
      spared = c.in_ok-write_words.ensures.cause.spared ∙ so_far.spared;
    }
