use Rattle.line_memory.specs.Memory.{shown}
use Rattle.image_meaning.specs.Meaning.{meaning}
use Rattle.image_walk.specs.Walking.{IsFaultOf}
use Rattle.image_walk.proofs.Looking.{looks_more}
use Rattle.image_walk.proofs.Reading.{err_is}
use Rattle.image_recovery.specs.Recovered.{entries_in}
use Rattle.image_recovery.proofs.Recovers.{fails_at_directory, fails_at_logs}
use Rattle.image_recovery.proofs.front.read_front.Goals as goal

pub returns-in_err-directory-clause-bad : goal.returns-in_err-directory-clause-bad
returns-in_err-directory-clause-bad g c first known looks is =
    err_is c.from_residual.result c.in_err-directory.field-0.0 (IsFaultOf (meaning first.size (shown first))) c.from_residual.ensures.1
    (fails_at_directory first.size (shown first) c.args.used c.in_err-directory.field-0.0 is (c.in_err-directory.ensures.bad first known looks is.says))

pub returns-in_err-undone-clause-bad : goal.returns-in_err-undone-clause-bad
returns-in_err-undone-clause-bad g c first known looks is =
    let seen = looks_more first c.args.memory.now c.read_entries.new.memory looks c.read_entries.ensures.looks in
    err_is c.from_residual-in_err-undone.result c.in_err-undone.field-0.0 (IsFaultOf (meaning first.size (shown first)))
    c.from_residual-in_err-undone.ensures.1
    (fails_at_logs first.size (shown first) c.args.used (entries_in c.in_ok-directory.directory) c.in_err-undone.field-0.0 is
    (c.in_ok-directory.ensures.entries first known looks is.says) (c.in_err-undone.ensures.bad first known seen))

pub returns-in_err-undone-clause-looks : goal.returns-in_err-undone-clause-looks
returns-in_err-undone-clause-looks g c =
    looks_more c.args.memory.now c.read_entries.new.memory c.check_logs.new.memory c.read_entries.ensures.looks c.check_logs.ensures.looks

pub returns-clause-entries : goal.returns-clause-entries
returns-clause-entries g c first known looks is = c.in_ok-directory.ensures.entries first known looks is.says

pub returns-clause-passes : goal.returns-clause-passes
returns-clause-passes g c first known looks =
    c.in_ok-undone.ensures.passes first known (looks_more first c.args.memory.now c.read_entries.new.memory looks c.read_entries.ensures.looks)

pub returns-clause-undone : goal.returns-clause-undone
returns-clause-undone g c first known looks =
    c.in_ok-undone.ensures.undone first known (looks_more first c.args.memory.now c.read_entries.new.memory looks c.read_entries.ensures.looks)

pub returns-clause-looks : goal.returns-clause-looks
returns-clause-looks g c =
    looks_more c.args.memory.now c.read_entries.new.memory c.check_logs.new.memory c.read_entries.ensures.looks c.check_logs.ensures.looks
