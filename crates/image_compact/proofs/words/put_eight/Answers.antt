use Rattle.std.proofs.Common.{◌≡◌, ◌∙◌, ℕ, below_more, arith, slice_index_or}
use Rattle.line_memory.specs.Memory.{Memory, shown}
use Rattle.image_compact.proofs.LineWords.{word_of_line}
use Rattle.image_compact.proofs.words.put_eight.Goals as goal

pub loop-word-preserved : goal.loop-word-preserved
loop-word-preserved g c =
    let line = c.args.line in
    let words = c.args.words.now in
    let i = c.loop-word.word in
    let before : Memory = c.loop-word.memory in
    let after : Memory = c.put_word.new.memory in
    record {
      shows = below_more (λ (w : ℕ). shown after line w ≡ slice_index_or words w 0) i
          (λ w under. c.put_word.ensures.others line w (λ at is. omega (arith, under, is)) ∙ c.loop-word.invariant.shows w under)
          (c.put_word.ensures.here ∙ c.word_at.ensures);
      changes = word_of_line words line i c.word_at.result c.args.memory.now before after c.loop-word-test.true c.word_at.ensures
          c.loop-word.invariant.changes c.put_word.ensures.changes;
      resident = record {
        kept = λ l is. c.put_word.ensures.resident.kept l (c.loop-word.invariant.resident.kept l is);
        none_more = λ l is. c.loop-word.invariant.resident.none_more l (c.put_word.ensures.resident.none_more l is);
      };
      same = record {
        calls = c.put_word.ensures.same.calls ∙ c.loop-word.invariant.same.calls;
        image = c.put_word.ensures.same.image ∙ c.loop-word.invariant.same.image;
        faults = c.put_word.ensures.same.faults ∙ c.loop-word.invariant.same.faults;
      };
    }
