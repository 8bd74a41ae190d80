use Rattle.std.proofs.Common.{ℕ, subst}
use Rattle.line_memory.specs.Memory.{IsWritten}
use Rattle.directories.specs.declared.stepping.Progress.TheVariants.{Words}
use Rattle.directories.specs.Appending.{HasCome}
use Rattle.directories.proofs.EntrySteps.{at_failure, nothing_comes, words_all, words_failed, words_made}
use Rattle.directories.proofs.stepping.write_words.Goals as goal

pub returns-in_err-is_ready-clause-failed : goal.returns-in_err-is_ready-clause-failed
returns-in_err-is_ready-clause-failed g c known come =
    at_failure c.from_residual.result (HasCome (Words c.args.n) c.args.used c.args.entry.now c.is_ready.new.memory)
    (nothing_comes c.args.used c.args.entry.now c.requires.room c.args.memory.now c.is_ready.new.memory c.requires.enough known (Words c.args.n) c.is_ready.ensures.changes come)

pub returns-then-not-branch-clause-comes : goal.returns-then-not-branch-clause-comes
returns-then-not-branch-clause-comes g c known come =
    nothing_comes c.args.used c.args.entry.now c.requires.room c.args.memory.now c.is_ready.new.memory c.requires.enough known (Words c.args.n) c.is_ready.ensures.changes come

pub returns-in_err-write_line-clause-failed : goal.returns-in_err-write_line-clause-failed
returns-in_err-write_line-clause-failed g c known come =
    at_failure c.from_residual-in_err-write_line.result (HasCome (Words c.args.n) c.args.used c.args.entry.now c.write_line.new.memory)
    (words_failed c.args.used c.args.entry.now c.requires.room c.args.memory.now c.is_ready.new.memory c.store_words.new.memory c.write_line.new.memory c.requires.enough
    c.is_ready.ensures.changes c.write_line.ensures.changes c.args.n c.end_in_line-to.result c.end_in_line-to.ensures.high c.store_words.ensures.changes known come)

pub returns-in_err-write_line-clause-changes : goal.returns-in_err-write_line-clause-changes
returns-in_err-write_line-clause-changes g c =
    words_all c.args.used c.args.entry.now c.requires.room c.args.memory.now c.is_ready.new.memory c.store_words.new.memory c.write_line.new.memory c.requires.enough
    c.is_ready.ensures.changes c.write_line.ensures.changes c.args.n c.end_in_line-to.result c.end_in_line-to.ensures.high c.store_words.ensures.changes

pub returns-clause-comes : goal.returns-clause-comes
returns-clause-comes g c known come =
    words_made c.args.used c.args.entry.now c.requires.room c.args.memory.now c.is_ready.new.memory c.store_words.new.memory c.write_line.new.memory c.requires.enough
    c.is_ready.ensures.changes c.write_line.ensures.changes c.args.n c.end_in_line-to.result c.end_in_line-to.ensures.high c.store_words.ensures.changes known come
    c.end_in_line-to.ensures.one_line c.store_words.ensures.shows
    (subst (λ (l : ℕ). (w : ℕ) → IsWritten c.write_line.new.memory l w) c.word_spot-line.ensures.line c.in_ok-write_line.ensures.written)

pub returns-clause-changes : goal.returns-clause-changes
returns-clause-changes g c =
    words_all c.args.used c.args.entry.now c.requires.room c.args.memory.now c.is_ready.new.memory c.store_words.new.memory c.write_line.new.memory c.requires.enough
    c.is_ready.ensures.changes c.write_line.ensures.changes c.args.n c.end_in_line-to.result c.end_in_line-to.ensures.high c.store_words.ensures.changes
