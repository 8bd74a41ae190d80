use Rattle.std.proofs.Common.{◌+◌, length}
use Rattle.word_changes.specs.Changes.{IsGiven}
use Rattle.word_changes.proofs.Changing.{changes_nowhere}
use Rattle.directories.specs.declared.stepping.Progress.TheVariants.{Fenced}
use Rattle.directories.specs.Appending.{HasCome}
use Rattle.directories.proofs.EntrySteps.{at_failure, nothing_comes, raise_all, raise_failed, raise_made}
use Rattle.directories.proofs.stepping.raise.Goals as goal

pub returns-in_err-is_ready-clause-failed : goal.returns-in_err-is_ready-clause-failed
returns-in_err-is_ready-clause-failed g c known come =
    let new = c.is_ready.new.memory in
    at_failure c.from_residual.result (HasCome Fenced c.args.used c.args.entry.now new)
    (nothing_comes c.args.used c.args.entry.now c.requires.room c.args.memory.now new c.requires.enough known Fenced c.is_ready.ensures.changes come)

pub returns-in_err-is_ready-clause-changes : goal.returns-in_err-is_ready-clause-changes
returns-in_err-is_ready-clause-changes g c =
    changes_nowhere (IsGiven 0 3 (c.args.used + length c.args.entry.now)) c.args.memory.now c.is_ready.new.memory c.is_ready.ensures.changes

pub returns-then-not-branch-clause-comes : goal.returns-then-not-branch-clause-comes
returns-then-not-branch-clause-comes g c known come =
    nothing_comes c.args.used c.args.entry.now c.requires.room c.args.memory.now c.is_ready.new.memory c.requires.enough known Fenced
    c.is_ready.ensures.changes come

pub returns-in_err-write_line-clause-failed : goal.returns-in_err-write_line-clause-failed
returns-in_err-write_line-clause-failed g c known come =
    at_failure c.from_residual-in_err-write_line.result (HasCome Fenced c.args.used c.args.entry.now c.write_line.new.memory)
    (raise_failed c.args.used c.args.entry.now c.requires.room c.args.memory.now c.is_ready.new.memory c.put_word.new.memory c.write_line.new.memory c.requires.enough
    c.is_ready.ensures.changes c.write_line.ensures.changes c.put_word.ensures.changes known come)

pub returns-in_err-write_line-clause-changes : goal.returns-in_err-write_line-clause-changes
returns-in_err-write_line-clause-changes g c =
    raise_all c.args.used c.args.entry.now c.requires.room c.args.memory.now c.is_ready.new.memory c.put_word.new.memory c.write_line.new.memory c.requires.enough
    c.is_ready.ensures.changes c.write_line.ensures.changes c.put_word.ensures.changes

pub returns-clause-comes : goal.returns-clause-comes
returns-clause-comes g c known come =
    raise_made c.args.used c.args.entry.now c.requires.room c.args.memory.now c.is_ready.new.memory c.put_word.new.memory c.write_line.new.memory c.requires.enough
    c.is_ready.ensures.changes c.write_line.ensures.changes c.put_word.ensures.changes known come
    c.put_word.ensures.here c.in_ok-write_line.ensures.written

pub returns-clause-changes : goal.returns-clause-changes
returns-clause-changes g c =
    raise_all c.args.used c.args.entry.now c.requires.room c.args.memory.now c.is_ready.new.memory c.put_word.new.memory c.write_line.new.memory c.requires.enough
    c.is_ready.ensures.changes c.write_line.ensures.changes c.put_word.ensures.changes
