use Rattle.std.proofs.Common.{◌≡◌, ◌<◌, ◌+◌, ◌*◌, ◌∙◌, ℕ, refl, arith, slice_index_or}
use Rattle.line_memory.specs.Memory.{Memory}
use Rattle.word_changes.proofs.Changing.{changes_nothing, changes_weaker}
use Rattle.word_changes.proofs.Going.{goes_nowhere, goes_more}
use Rattle.image_compact.specs.Writing.{OfWords}
use Rattle.image_compact.proofs.LineWords.{both_change, both_wrote, no_lines, next_of, before_of, of_next, next_apart, words_within}
use Rattle.image_compact.proofs.LineWords.{behind_same}
use Rattle.image_compact.proofs.words.write_words.Goals as goal

pub loop-i-init : goal.loop-i-init
loop-i-init g c =
    let m : Memory = c.args.memory.now in
    record {
      wrote = no_lines c.args.words.now c.args.from m;
      changes = changes_nothing (OfWords c.args.words.now c.args.from 0) m;
      goes_on = goes_nowhere m;
      spared = refl;
    }

pub loop-i-preserved : goal.loop-i-preserved
loop-i-preserved g c =
    let a : Memory = c.args.memory.now in
    let b : Memory = c.loop-i.memory in
    let d : Memory = c.write_eight.new.memory in
    let words = c.args.words.now in
    let from = c.args.from in
    let i = c.loop-i.i in
    let rest = c.words_behind-rest.result.now in
    let same : (w : ℕ) → w < 8 → slice_index_or rest w 0 ≡ slice_index_or words (8 * i + w) 0 =
    behind_same words rest i c.words_behind-rest.ensures in
    let so_far = c.loop-i.invariant in
    record {
      wrote = both_wrote (OfWords words from i) (OfWords rest (from + i) 1) (OfWords words from (i + 1)) a b d
          so_far.changes c.write_eight.ensures.changes (of_next words rest from i same) (next_apart words rest from i same)
          (words_within words from i b.size (omega (arith, c.requires.within, c.loop-i-test.true, so_far.changes.size)))
          so_far.wrote c.in_ok-write_eight.ensures.wrote;
      changes = both_change (OfWords words from i) (OfWords rest (from + i) 1) (OfWords words from (i + 1)) a b d
          so_far.changes c.write_eight.ensures.changes (before_of words from i (i + 1) (omega arith)) (next_of words rest from i same);
      goes_on = goes_more a b d so_far.goes_on c.write_eight.ensures.goes_on;
      spared = c.in_ok-write_eight.ensures.cause.spared ∙ so_far.spared;
    }

pub returns-in_err-write_eight-clause-changes : goal.returns-in_err-write_eight-clause-changes
returns-in_err-write_eight-clause-changes g c =
    let a : Memory = c.args.memory.now in
    let b : Memory = c.loop-i.memory in
    let d : Memory = c.write_eight.new.memory in
    let words = c.args.words.now in
    let from = c.args.from in
    let i = c.loop-i.i in
    let rest = c.words_behind-rest.result.now in
    let same : (w : ℕ) → w < 8 → slice_index_or rest w 0 ≡ slice_index_or words (8 * i + w) 0 =
    behind_same words rest i c.words_behind-rest.ensures in
    changes_weaker (OfWords words from (i + 1)) (OfWords words from c.args.count) a d
    (before_of words from (i + 1) c.args.count (omega (arith, c.loop-i-test.true)))
    (both_change (OfWords words from i) (OfWords rest (from + i) 1) (OfWords words from (i + 1)) a b d
    c.loop-i.invariant.changes c.write_eight.ensures.changes (before_of words from i (i + 1) (omega arith)) (next_of words rest from i same))

pub returns-in_err-write_eight-clause-goes_on : goal.returns-in_err-write_eight-clause-goes_on
returns-in_err-write_eight-clause-goes_on g c =
    goes_more c.args.memory.now c.loop-i.memory c.write_eight.new.memory c.loop-i.invariant.goes_on c.write_eight.ensures.goes_on
