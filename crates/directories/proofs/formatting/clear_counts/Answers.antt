use Rattle.std.proofs.Common.{◌≤◌, ◌+◌, ◌∙◌, refl, arith}
use Rattle.line_memory.specs.Memory.{Memory}
use Rattle.image_layout.specs.Places.{min_lines, logs, log_head_line}
use Rattle.word_changes.proofs.Going.{goes_nowhere, goes_more}
use Rattle.directories.proofs.Formats.{counts_begin, counts_more, counts_changes, counts_of_logs, counts_within, changes_at}
use Rattle.directories.proofs.Formats.{wrote_at}
use Rattle.directories.proofs.formatting.clear_counts.Goals as goal

pub loop-thread-init : goal.loop-thread-init
loop-thread-init g c =
    let m : Memory = c.args.memory.now in
    let begin = counts_begin m in
    record { wrote = begin.0; changes = begin.1; goes_on = goes_nowhere m; calls = omega arith; spared = refl }

pub returns-in_err-write_word-clause-changes : goal.returns-in_err-write_word-clause-changes
returns-in_err-write_word-clause-changes g c =
    let t = c.loop-thread.thread in
    let spot = c.count_spot-count.ensures in
    let put = changes_at c.count_spot-count.result.line c.count_spot-count.result.word (log_head_line t) 0 0
    c.loop-thread.memory c.write_word.new.memory spot.line spot.word c.write_word.ensures.changes in
    let few : t + 1 ≤ logs = omega arith in
    counts_of_logs (t + 1) c.args.memory.now c.write_word.new.memory few
    (counts_changes t c.args.memory.now c.loop-thread.memory c.write_word.new.memory c.loop-thread.invariant.changes put)

pub returns-in_err-write_word-clause-goes_on : goal.returns-in_err-write_word-clause-goes_on
returns-in_err-write_word-clause-goes_on g c =
    goes_more c.args.memory.now c.loop-thread.memory c.write_word.new.memory c.loop-thread.invariant.goes_on c.write_word.ensures.goes_on

pub loop-thread-preserved : goal.loop-thread-preserved
loop-thread-preserved g c =
    let a : Memory = c.args.memory.now in
    let b : Memory = c.loop-thread.memory in
    let d : Memory = c.write_word.new.memory in
    let t = c.loop-thread.thread in
    let spot = c.count_spot-count.ensures in
    let so_far = c.loop-thread.invariant in
    let put = changes_at c.count_spot-count.result.line c.count_spot-count.result.word (log_head_line t) 0 0 b d spot.line spot.word
    c.write_word.ensures.changes in
    let wrote = wrote_at c.count_spot-count.result.line c.count_spot-count.result.word (log_head_line t) 0 0 b d spot.line spot.word
    c.in_ok-write_word.ensures.wrote in
    let enough : min_lines ≤ b.size = omega (arith, c.requires, so_far.changes.size) in
    let few : t ≤ logs = omega arith in
    record {
      wrote = counts_more t a b d (counts_within b.size enough t few) so_far.changes so_far.wrote put wrote;
      changes = counts_changes t a b d so_far.changes put;
      goes_on = goes_more a b d so_far.goes_on c.write_word.ensures.goes_on;
      calls = omega (arith, so_far.calls, c.write_word.ensures.calls);
      spared = c.in_ok-write_word.ensures.cause.spared ∙ so_far.spared;
    }

pub returns-in_err-write_word-clause-calls : goal.returns-in_err-write_word-clause-calls
returns-in_err-write_word-clause-calls g c = omega (arith, c.loop-thread.invariant.calls, c.write_word.ensures.calls)

pub returns-clause-calls : goal.returns-clause-calls
returns-clause-calls g c = omega (arith, c.loop-thread.invariant.calls)
