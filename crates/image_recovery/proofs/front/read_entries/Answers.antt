use Rattle.std.proofs.Common.{Result, sym, ◌∙◌, subst, arith}
use Rattle.line_memory.specs.Memory.{shown}
use Rattle.image_meaning.specs.Checks as checks
use Rattle.image_meaning.specs.Directories.{Directory, directory_of}
use Rattle.directories.specs.Read.{IsFault}
use Rattle.image_walk.proofs.Looking.{looks_by}
use Rattle.image_recovery.proofs.Recovers.{directory_read, fault_same, cause_same}
use Rattle.image_recovery.proofs.front.read_entries.Goals as goal

pub returns-in-Ok-clause-entries : goal.returns-in-Ok-clause-entries
returns-in-Ok-clause-entries g c first known looks is =
    sym (directory_read first c.args.memory.now c.args.used c.requires.enough c.requires.range known looks is)
    ∙ (c.in-Ok.ensures.found (looks.changes.known known)).entries

pub returns-in-Ok-clause-unplanned : goal.returns-in-Ok-clause-unplanned
returns-in-Ok-clause-unplanned g c first known looks = (c.in-Ok.ensures.found (looks.changes.known known)).left

pub returns-in-Ok-clause-begins : goal.returns-in-Ok-clause-begins
returns-in-Ok-clause-begins g c first known looks = (c.in-Ok.ensures.found (looks.changes.known known)).progress

pub returns-in-Ok-clause-used : goal.returns-in-Ok-clause-used
returns-in-Ok-clause-used g c first known looks = (c.in-Ok.ensures.found (looks.changes.known known)).used

pub returns-in-Ok-clause-looks : goal.returns-in-Ok-clause-looks
returns-in-Ok-clause-looks g c =
    looks_by c.args.memory.now c.read_directory.new.memory c.read_directory.ensures.changes c.read_directory.ensures.counts
    c.read_directory.ensures.calls (omega (arith, c.in-Ok.ensures.cause))

pub returns-in-Err-clause-looks : goal.returns-in-Err-clause-looks
returns-in-Err-clause-looks g c =
    looks_by c.args.memory.now c.read_directory.new.memory c.read_directory.ensures.changes c.read_directory.ensures.counts
    c.read_directory.ensures.calls c.in-Err.ensures.cause.later

pub returns-in-Err-clause-bad : goal.returns-in-Err-clause-bad
returns-in-Err-clause-bad g c first known looks is =
    let fault = c.in-Err.fault in
    fault_same (directory_of (shown first)) fault c.recover_fault.result c.recover_fault.ensures
    (subst (λ (given : Result Directory checks.Bad). IsFault given fault)
    (directory_read first c.args.memory.now c.args.used c.requires.enough c.requires.range known looks is)
    (c.in-Err.ensures.bad (looks.changes.known known)))

pub returns-in-Err-clause-cause : goal.returns-in-Err-clause-cause
returns-in-Err-clause-cause g c =
    cause_same c.in-Err.fault c.recover_fault.result c.args.memory.now.faults c.read_directory.new.memory.faults c.recover_fault.ensures
    c.in-Err.ensures.cause
