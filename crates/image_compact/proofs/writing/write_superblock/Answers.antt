use Rattle.std.proofs.Common.{◌∙◌, ℕ, subst, arith}
use Rattle.std.proofs.lemmas.Result.{on_ok_weaker}
use Rattle.word_changes.specs.Changes.{Nothing, IsGiven, ChangesTo}
use Rattle.word_changes.proofs.Changing.{changes_nowhere}
use Rattle.word_changes.proofs.Going.{goes_by_fetch}
use Rattle.word_changes.proofs.Writing.{line_changes, line_wrote, line_goes}
use Rattle.image_compact.specs.Writing.{OfSuperblock}
use Rattle.image_compact.proofs.LineWords.{superblock_changes, superblock_shown, same_thrice}
use Rattle.image_compact.proofs.writing.write_superblock.Goals as goal

pub returns-in_err-fetch_line-clause-changes : goal.returns-in_err-fetch_line-clause-changes
returns-in_err-fetch_line-clause-changes g c =
    changes_nowhere (OfSuperblock c.args.memory.now.size c.args.used) c.args.memory.now c.fetch_line.new.memory c.fetch_line.ensures.changes

pub returns-in_err-fetch_line-clause-goes_on : goal.returns-in_err-fetch_line-clause-goes_on
returns-in_err-fetch_line-clause-goes_on g c =
    goes_by_fetch Nothing c.args.memory.now c.fetch_line.new.memory c.fetch_line.ensures.changes c.fetch_line.ensures.counts c.fetch_line.ensures.calls

pub returns-clause-wrote : goal.returns-clause-wrote
returns-clause-wrote g c =
    let size = c.args.memory.now.size in
    let two : ChangesTo (IsGiven 0 2 size) c.put_word.new.memory c.put_word-2.new.memory =
    subst (λ (n : ℕ). ChangesTo (IsGiven 0 2 n) c.put_word.new.memory c.put_word-2.new.memory) c.lines-lines.ensures c.put_word-2.ensures.changes in
    let puts = superblock_changes size c.args.used c.fetch_line.new.memory c.put_word.new.memory c.put_word-2.new.memory c.put_word-3.new.memory
    c.put_word.ensures.changes two c.put_word-3.ensures.changes in
    let one_there = c.put_word-3.ensures.others 0 1 (λ at is. omega (arith, is)) ∙ c.put_word-2.ensures.others 0 1 (λ at is. omega (arith, is)) ∙ c.put_word.ensures.here in
    let two_there = c.put_word-3.ensures.others 0 2 (λ at is. omega (arith, is)) ∙ c.put_word-2.ensures.here ∙ c.lines-lines.ensures in
    on_ok_weaker c.write_line.result
    (λ written. line_wrote (OfSuperblock size c.args.used) 0
    c.args.memory.now c.fetch_line.new.memory c.put_word-3.new.memory c.write_line.new.memory
    c.fetch_line.ensures.changes puts c.write_line.ensures.changes (omega (arith, c.requires))
    (λ l w v given. given.0)
    (superblock_shown size c.args.used c.put_word-3.new.memory one_there two_there c.put_word-3.ensures.here)
    written)
    c.write_line.ensures.written

pub returns-clause-changes : goal.returns-clause-changes
returns-clause-changes g c =
    let size = c.args.memory.now.size in
    let two : ChangesTo (IsGiven 0 2 size) c.put_word.new.memory c.put_word-2.new.memory =
    subst (λ (n : ℕ). ChangesTo (IsGiven 0 2 n) c.put_word.new.memory c.put_word-2.new.memory) c.lines-lines.ensures c.put_word-2.ensures.changes in
    line_changes (OfSuperblock size c.args.used) 0
    c.args.memory.now c.fetch_line.new.memory c.put_word-3.new.memory c.write_line.new.memory
    c.fetch_line.ensures.changes
    (superblock_changes size c.args.used c.fetch_line.new.memory c.put_word.new.memory c.put_word-2.new.memory c.put_word-3.new.memory
    c.put_word.ensures.changes two c.put_word-3.ensures.changes)
    c.write_line.ensures.changes

pub returns-clause-goes_on : goal.returns-clause-goes_on
returns-clause-goes_on g c =
    let size = c.args.memory.now.size in
    let two : ChangesTo (IsGiven 0 2 size) c.put_word.new.memory c.put_word-2.new.memory =
    subst (λ (n : ℕ). ChangesTo (IsGiven 0 2 n) c.put_word.new.memory c.put_word-2.new.memory) c.lines-lines.ensures c.put_word-2.ensures.changes in
    line_goes (OfSuperblock size c.args.used) 0
    c.args.memory.now c.fetch_line.new.memory c.put_word-3.new.memory c.write_line.new.memory
    c.fetch_line.ensures.changes
    (superblock_changes size c.args.used c.fetch_line.new.memory c.put_word.new.memory c.put_word-2.new.memory c.put_word-3.new.memory
    c.put_word.ensures.changes two c.put_word-3.ensures.changes)
    c.write_line.ensures.changes
    c.fetch_line.ensures.counts c.fetch_line.ensures.calls
    (same_thrice c.fetch_line.new.memory c.put_word.new.memory c.put_word-2.new.memory c.put_word-3.new.memory
    c.put_word.ensures.same c.put_word-2.ensures.same c.put_word-3.ensures.same)
    c.write_line.ensures.count
