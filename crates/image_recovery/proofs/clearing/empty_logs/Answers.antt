use Rattle.std.proofs.Common.{◌≡◌, ◌<◌, ◌∙◌, ℕ, below_more, arith}
use Rattle.line_memory.specs.Memory.{Memory, shown}
use Rattle.image_layout.specs.Places.{logs, log_head_line}
use Rattle.word_changes.proofs.Changing.{changes_more, changes_nowhere}
use Rattle.image_recovery.specs.Putting.{IsCleared, IsRecovered}
use Rattle.word_changes.proofs.Going.{goes_more}
use Rattle.image_recovery.proofs.PutSteps.{cleared_of, stays_empty, at_success}
use Rattle.image_recovery.proofs.Recovers.{puts_on, recovered_by, stops_emptying}
use Rattle.image_recovery.proofs.clearing.empty_logs.Goals as goal

pub returns-in_err-empty_log-clause-changes : goal.returns-in_err-empty_log-clause-changes
returns-in_err-empty_log-clause-changes g c =
    let there : c.loop-thread.thread < logs = omega arith in
    changes_more IsCleared c.args.memory.now c.loop-thread.memory c.empty_log.new.memory c.loop-thread.invariant.changes
    (cleared_of c.loop-thread.thread c.loop-thread.memory c.empty_log.new.memory there c.empty_log.ensures.changes)

pub loop-thread-preserved : goal.loop-thread-preserved
loop-thread-preserved g c =
    let first : Memory = c.args.memory.now in
    let before : Memory = c.loop-thread.memory in
    let after : Memory = c.empty_log.new.memory in
    let t = c.loop-thread.thread in
    let there : t < logs = omega arith in
    let so_far = c.loop-thread.invariant in
    record {
      empty = λ known. below_more (λ (s : ℕ). shown after (log_head_line s) 0 ≡ 0) t
          (λ s under. stays_empty s t before after (so_far.changes.known known)
          (omega (arith, under, there, so_far.changes.size, c.requires)) c.empty_log.ensures.changes under (so_far.empty known s under))
          (c.in_ok-empty_log.ensures.empty (so_far.changes.known known));
      written = λ tells all. c.in_ok-empty_log.ensures.written (so_far.changes.telling tells) (so_far.written tells all);
      changes = changes_more IsCleared first before after so_far.changes (cleared_of t before after there c.empty_log.ensures.changes);
      goes_on = goes_more first before after so_far.goes_on c.empty_log.ensures.goes_on;
      calls = omega (arith, so_far.calls, c.empty_log.ensures.calls);
      spared = c.in_ok-empty_log.ensures.cause.spared ∙ so_far.spared;
    }

pub returns-clause-changes : goal.returns-clause-changes
returns-clause-changes g c =
    changes_more IsCleared c.args.memory.now c.loop-thread.memory c.make_fence.new.memory c.loop-thread.invariant.changes
    (changes_nowhere IsCleared c.loop-thread.memory c.make_fence.new.memory c.make_fence.ensures.changes)

pub returns-clause-recovered : goal.returns-clause-recovered
returns-clause-recovered g c first middle known back looks =
    let old : Memory = c.args.memory.now in
    let before : Memory = c.loop-thread.memory in
    let new : Memory = c.make_fence.new.memory in
    let so_far = c.loop-thread.invariant in
    let known_old = looks.changes.known known in
    let known_then = so_far.changes.known known_old in
    let size : before.size ≡ old.size = so_far.changes.size in
    let all : c.loop-thread.thread ≡ 64 = omega arith in
    at_success c.make_fence.result (IsRecovered first new)
    (recovered_by first old new known_old (puts_on first middle old known looks back) (returns-clause-changes g c)
    (λ t there. c.make_fence.ensures.changes.shows known_then (log_head_line t) 0 (omega (arith, there, size, c.requires)) (λ v none. none)
    ∙ so_far.empty known_old t (omega (arith, there, all))))

pub returns-in_err-empty_log-clause-stops : goal.returns-in_err-empty_log-clause-stops
returns-in_err-empty_log-clause-stops g c first middle known durable back looks pass =
    stops_emptying first middle c.args.memory.now c.empty_log.new.memory (omega (arith, c.requires, looks.changes.size)) pass known durable back looks
    (returns-in_err-empty_log-clause-changes g c)

pub returns-clause-stops : goal.returns-clause-stops
returns-clause-stops g c first middle known durable back looks pass =
    stops_emptying first middle c.args.memory.now c.make_fence.new.memory (omega (arith, c.requires, looks.changes.size)) pass known durable back looks
    (returns-clause-changes g c)

pub returns-in_err-empty_log-clause-calls : goal.returns-in_err-empty_log-clause-calls
returns-in_err-empty_log-clause-calls g c =
    omega (arith, c.loop-thread.invariant.calls, c.empty_log.ensures.calls)

pub returns-clause-calls : goal.returns-clause-calls
returns-clause-calls g c =
    omega (arith, c.loop-thread.invariant.calls, c.make_fence.ensures.count.calls)
