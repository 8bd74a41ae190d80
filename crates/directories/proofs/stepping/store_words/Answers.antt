use Rattle.std.proofs.Common.{◌≡◌, ◌+◌, ◌≤◌, ℕ, slice_index_or, below_more, ◌∙◌, sym, ap, subst, arith}
use Rattle.line_memory.specs.Memory.{Memory, IsResident, shown}
use Rattle.image_layout.specs.Places.{directory_line, directory_word}
use Rattle.word_changes.specs.Changes.{IsGiven, ChangesTo}
use Rattle.directories.proofs.EntrySteps.{stored_more}
use Rattle.directories.proofs.stepping.store_words.Goals as goal

pub put_word-requires : goal.put_word-requires
put_word-requires g c =
    let now = c.loop-i.memory in
    let line : c.word_spot.result.line ≡ directory_line (c.args.used + c.args.from) =
    c.word_spot.ensures.line ∙ c.requires.one_line c.loop-i.i c.loop-i.auto.i c.loop-i-test.true in
    subst (λ (l : ℕ). IsResident now l) (sym line) (c.loop-i.invariant.resident.kept (directory_line (c.args.used + c.args.from)) c.requires.resident)

pub loop-i-preserved : goal.loop-i-preserved
loop-i-preserved g c =
    let used = c.args.used in
    let i = c.loop-i.i in
    let words = c.args.entry.now in
    let before : Memory = c.loop-i.memory in
    let after : Memory = c.put_word.new.memory in
    let spot = c.word_spot.ensures in
    let puts : ChangesTo (IsGiven (directory_line (used + i)) (directory_word (used + i)) (slice_index_or words i 0)) before after =
    subst (λ (w : ℕ). ChangesTo (IsGiven (directory_line (used + i)) w (slice_index_or words i 0)) before after) spot.word
    (subst (λ (l : ℕ). ChangesTo (IsGiven l c.word_spot.result.word (slice_index_or words i 0)) before after) spot.line c.put_word.ensures.changes) in
    record {
      shows = λ k low high. below_more
          (λ (n : ℕ). c.args.from ≤ n → shown after (directory_line (used + n)) (directory_word (used + n)) ≡ slice_index_or words n 0) i
          (λ n under from. c.put_word.ensures.others (directory_line (used + n)) (directory_word (used + n))
          (λ line word. absurd (omega (arith, under, line ∙ spot.line, word ∙ spot.word)))
          ∙ c.loop-i.invariant.shows n from under)
          (λ from. ap (λ (l : ℕ). shown after l (directory_word (used + i))) (sym spot.line)
          ∙ ap (λ (w : ℕ). shown after c.word_spot.result.line w) (sym spot.word)
          ∙ c.put_word.ensures.here)
          k high low;
      changes = stored_more used c.args.from c.args.to i words c.args.memory.now before after c.loop-i.auto.i c.loop-i-test.true
          c.loop-i.invariant.changes puts;
      resident = record {
        kept = λ l is. c.put_word.ensures.resident.kept l (c.loop-i.invariant.resident.kept l is);
        none_more = λ l is. c.loop-i.invariant.resident.none_more l (c.put_word.ensures.resident.none_more l is);
      };
      same = record {
        calls = c.put_word.ensures.same.calls ∙ c.loop-i.invariant.same.calls;
        image = c.put_word.ensures.same.image ∙ c.loop-i.invariant.same.image;
        faults = c.put_word.ensures.same.faults ∙ c.loop-i.invariant.same.faults;
      };
    }
