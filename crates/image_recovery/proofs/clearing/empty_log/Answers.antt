use Rattle.line_memory.proofs.Residence.{every_line_is_resident}
use Rattle.std.proofs.Common.{ℕ, ◌∙◌, subst, ◌<◌, arith}
use Rattle.std.proofs.lemmas.Result.{on_ok_weaker}
use Rattle.line_memory.specs.Memory.{Memory, IsWritten}
use Rattle.word_changes.specs.Changes.{IsGiven}
use Rattle.word_changes.proofs.Changing.{changes_nowhere, changes_weaker}
use Rattle.image_recovery.specs.Putting.{IsClearedAt}
use Rattle.image_recovery.proofs.PutSteps.{cleared_all, cleared_written}
use Rattle.image_recovery.proofs.clearing.empty_log.Goals as goal

pub returns-in_err-fetch_line-clause-changes : goal.returns-in_err-fetch_line-clause-changes
returns-in_err-fetch_line-clause-changes g c =
    changes_nowhere (IsClearedAt c.args.thread) c.args.memory.now c.fetch_line.new.memory c.fetch_line.ensures.changes

pub returns-then-load-eq0-clause-changes : goal.returns-then-load-eq0-clause-changes
returns-then-load-eq0-clause-changes g c =
    changes_nowhere (IsClearedAt c.args.thread) c.args.memory.now c.fetch_line.new.memory c.fetch_line.ensures.changes

pub returns-clause-written : goal.returns-clause-written
returns-clause-written g c tells all =
    let a : Memory = c.args.memory.now in
    let b : Memory = c.fetch_line.new.memory in
    let d : Memory = c.put_word.new.memory in
    let f : Memory = c.write_line.new.memory in
    let head = c.head_spot-head.ensures in
    let puts = changes_weaker (IsGiven c.head_spot-head.result.line c.head_spot-head.result.word 0) (IsClearedAt c.args.thread) b d
    (λ l w v given. (given.0 ∙ head.line, given.1 ∙ head.word, given.2)) c.put_word.ensures.changes in
    on_ok_weaker c.write_line.result
    (λ written. cleared_written c.args.thread a b d f c.fetch_line.ensures.changes puts c.write_line.ensures.changes
    (subst (λ (l : ℕ). (w : ℕ) → IsWritten f l w) head.line written) tells all)
    c.write_line.ensures.written

pub returns-clause-changes : goal.returns-clause-changes
returns-clause-changes g c =
    let b : Memory = c.fetch_line.new.memory in
    let d : Memory = c.put_word.new.memory in
    let head = c.head_spot-head.ensures in
    let puts = changes_weaker (IsGiven c.head_spot-head.result.line c.head_spot-head.result.word 0) (IsClearedAt c.args.thread) b d
    (λ l w v given. (given.0 ∙ head.line, given.1 ∙ head.word, given.2)) c.put_word.ensures.changes in
    cleared_all c.args.thread c.args.memory.now b d c.write_line.new.memory c.fetch_line.ensures.changes puts c.write_line.ensures.changes

pub returns-in_err-fetch_line-clause-calls : goal.returns-in_err-fetch_line-clause-calls
returns-in_err-fetch_line-clause-calls g c =
    let below : c.head_spot-head.result.line < c.args.memory.now.size =
    omega (arith, c.requires.enough, c.requires.thread, c.head_spot-head.ensures.line) in
    let same = (c.fetch_line.ensures.at_once (every_line_is_resident c.args.memory.now c.head_spot-head.result.line below)).1 in
    omega (arith, same.calls)

pub returns-then-load-eq0-clause-calls : goal.returns-then-load-eq0-clause-calls
returns-then-load-eq0-clause-calls g c =
    let below : c.head_spot-head.result.line < c.args.memory.now.size =
    omega (arith, c.requires.enough, c.requires.thread, c.head_spot-head.ensures.line) in
    let same = (c.fetch_line.ensures.at_once (every_line_is_resident c.args.memory.now c.head_spot-head.result.line below)).1 in
    omega (arith, same.calls)

pub returns-clause-calls : goal.returns-clause-calls
returns-clause-calls g c =
    let below : c.head_spot-head.result.line < c.args.memory.now.size =
    omega (arith, c.requires.enough, c.requires.thread, c.head_spot-head.ensures.line) in
    let same = (c.fetch_line.ensures.at_once (every_line_is_resident c.args.memory.now c.head_spot-head.result.line below)).1 in
    omega (arith, same.calls, c.put_word.ensures.same.calls, c.write_line.ensures.count.calls)
