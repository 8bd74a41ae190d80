use Rattle.line_memory.proofs.Residence.{every_line_is_resident}
use Rattle.std.proofs.Common.{◌∙◌, ℕ, subst, arith}
use Rattle.std.proofs.lemmas.Result.{on_ok_weaker}
use Rattle.word_changes.specs.Changes.{Nothing, IsGiven, ChangesTo}
use Rattle.word_changes.proofs.Changing.{changes_nowhere}
use Rattle.word_changes.proofs.Going.{goes_by_fetch}
use Rattle.word_changes.proofs.Writing.{line_changes, line_wrote, line_goes}
use Rattle.directories.specs.Formatting.{OfSuperblock}
use Rattle.directories.proofs.Formats.{superblock_changes, superblock_shown, same_thrice}
use Rattle.directories.proofs.formatting.write_superblock.Goals as goal

pub returns-in_err-fetch_line-clause-changes : goal.returns-in_err-fetch_line-clause-changes
returns-in_err-fetch_line-clause-changes g c =
    changes_nowhere (OfSuperblock c.args.memory.now.size) c.args.memory.now c.fetch_line.new.memory c.fetch_line.ensures.changes

pub returns-in_err-fetch_line-clause-goes_on : goal.returns-in_err-fetch_line-clause-goes_on
returns-in_err-fetch_line-clause-goes_on g c =
    goes_by_fetch Nothing c.args.memory.now c.fetch_line.new.memory c.fetch_line.ensures.changes c.fetch_line.ensures.counts c.fetch_line.ensures.calls

pub returns-clause-wrote : goal.returns-clause-wrote
returns-clause-wrote g c =
    let size = c.args.memory.now.size in
    let two : ChangesTo (IsGiven 0 2 size) c.put_word.new.memory c.put_word-2.new.memory =
    subst (λ (n : ℕ). ChangesTo (IsGiven 0 2 n) c.put_word.new.memory c.put_word-2.new.memory) c.lines-lines.ensures c.put_word-2.ensures.changes in
    let puts = superblock_changes size c.fetch_line.new.memory c.put_word.new.memory c.put_word-2.new.memory c.put_word-3.new.memory
    c.put_word.ensures.changes two c.put_word-3.ensures.changes in
    let one_there = c.put_word-3.ensures.others 0 1 (λ at is. omega (arith, is)) ∙ c.put_word-2.ensures.others 0 1 (λ at is. omega (arith, is)) ∙ c.put_word.ensures.here in
    let two_there = c.put_word-3.ensures.others 0 2 (λ at is. omega (arith, is)) ∙ c.put_word-2.ensures.here ∙ c.lines-lines.ensures in
    on_ok_weaker c.write_line.result
    (λ written. line_wrote (OfSuperblock size) 0
    c.args.memory.now c.fetch_line.new.memory c.put_word-3.new.memory c.write_line.new.memory
    c.fetch_line.ensures.changes puts c.write_line.ensures.changes (omega (arith, c.requires))
    (λ l w v given. given.0)
    (superblock_shown size c.put_word-3.new.memory one_there two_there c.put_word-3.ensures.here)
    written)
    c.write_line.ensures.written

pub returns-clause-changes : goal.returns-clause-changes
returns-clause-changes g c =
    let size = c.args.memory.now.size in
    let two : ChangesTo (IsGiven 0 2 size) c.put_word.new.memory c.put_word-2.new.memory =
    subst (λ (n : ℕ). ChangesTo (IsGiven 0 2 n) c.put_word.new.memory c.put_word-2.new.memory) c.lines-lines.ensures c.put_word-2.ensures.changes in
    line_changes (OfSuperblock size) 0
    c.args.memory.now c.fetch_line.new.memory c.put_word-3.new.memory c.write_line.new.memory
    c.fetch_line.ensures.changes
    (superblock_changes size c.fetch_line.new.memory c.put_word.new.memory c.put_word-2.new.memory c.put_word-3.new.memory
    c.put_word.ensures.changes two c.put_word-3.ensures.changes)
    c.write_line.ensures.changes

pub returns-clause-goes_on : goal.returns-clause-goes_on
returns-clause-goes_on g c =
    let size = c.args.memory.now.size in
    let two : ChangesTo (IsGiven 0 2 size) c.put_word.new.memory c.put_word-2.new.memory =
    subst (λ (n : ℕ). ChangesTo (IsGiven 0 2 n) c.put_word.new.memory c.put_word-2.new.memory) c.lines-lines.ensures c.put_word-2.ensures.changes in
    line_goes (OfSuperblock size) 0
    c.args.memory.now c.fetch_line.new.memory c.put_word-3.new.memory c.write_line.new.memory
    c.fetch_line.ensures.changes
    (superblock_changes size c.fetch_line.new.memory c.put_word.new.memory c.put_word-2.new.memory c.put_word-3.new.memory
    c.put_word.ensures.changes two c.put_word-3.ensures.changes)
    c.write_line.ensures.changes
    c.fetch_line.ensures.counts c.fetch_line.ensures.calls
    (same_thrice c.fetch_line.new.memory c.put_word.new.memory c.put_word-2.new.memory c.put_word-3.new.memory
    c.put_word.ensures.same c.put_word-2.ensures.same c.put_word-3.ensures.same)
    c.write_line.ensures.count

pub returns-in_err-fetch_line-clause-calls : goal.returns-in_err-fetch_line-clause-calls
returns-in_err-fetch_line-clause-calls g c =
    let same = (c.fetch_line.ensures.at_once (every_line_is_resident c.args.memory.now 0 (omega (arith, c.requires)))).1 in
    omega (arith, same.calls)

pub returns-clause-calls : goal.returns-clause-calls
returns-clause-calls g c =
    let same = (c.fetch_line.ensures.at_once (every_line_is_resident c.args.memory.now 0 (omega (arith, c.requires)))).1 in
    omega (arith, same.calls, c.put_word.ensures.same.calls, c.put_word-2.ensures.same.calls, c.put_word-3.ensures.same.calls, c.write_line.ensures.count.calls)
