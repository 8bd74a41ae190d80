use Rattle.std.proofs.Common.{◌+◌, ◌∙◌, refl, arith}
use Rattle.line_memory.specs.Memory.{Memory}
use Rattle.word_changes.proofs.Going.{goes_nowhere, goes_more}
use Rattle.directories.proofs.Formats.{lines_begin, lines_more, lines_changes, lines_of_slots, lines_within}
use Rattle.directories.proofs.formatting.clear_slots.Goals as goal

pub loop-line-init : goal.loop-line-init
loop-line-init g c =
    let m : Memory = c.args.memory.now in
    let begin = lines_begin 1 m in
    record { wrote = begin.0; changes = begin.1; goes_on = goes_nowhere m; calls = omega arith; spared = refl }

pub returns-in_err-clear_line-clause-changes : goal.returns-in_err-clear_line-clause-changes
returns-in_err-clear_line-clause-changes g c =
    lines_of_slots 1 (c.loop-line.line + 1) c.args.memory.now c.clear_line.new.memory (omega arith) (omega arith)
    (lines_changes 1 c.loop-line.line c.args.memory.now c.loop-line.memory c.clear_line.new.memory (omega arith)
    c.loop-line.invariant.changes c.clear_line.ensures.changes)

pub returns-in_err-clear_line-clause-goes_on : goal.returns-in_err-clear_line-clause-goes_on
returns-in_err-clear_line-clause-goes_on g c =
    goes_more c.args.memory.now c.loop-line.memory c.clear_line.new.memory c.loop-line.invariant.goes_on c.clear_line.ensures.goes_on

pub loop-line-preserved : goal.loop-line-preserved
loop-line-preserved g c =
    let a : Memory = c.args.memory.now in
    let b : Memory = c.loop-line.memory in
    let d : Memory = c.clear_line.new.memory in
    let line = c.loop-line.line in
    let so_far = c.loop-line.invariant in
    record {
      wrote = lines_more 1 line a b d (omega arith)
          (lines_within b.size (omega (arith, c.requires, so_far.changes.size)) 1 line (omega arith))
          so_far.changes so_far.wrote c.clear_line.ensures.changes c.in_ok-clear_line.ensures.wrote;
      changes = lines_changes 1 line a b d (omega arith) so_far.changes c.clear_line.ensures.changes;
      goes_on = goes_more a b d so_far.goes_on c.clear_line.ensures.goes_on;
      calls = omega (arith, so_far.calls, c.clear_line.ensures.calls);
      spared = c.in_ok-clear_line.ensures.cause.spared ∙ so_far.spared;
    }

pub returns-clause-changes : goal.returns-clause-changes
returns-clause-changes g c =
    lines_of_slots 1 c.loop-line.line c.args.memory.now c.loop-line.memory (omega arith) (omega arith) c.loop-line.invariant.changes

pub returns-in_err-clear_line-clause-calls : goal.returns-in_err-clear_line-clause-calls
returns-in_err-clear_line-clause-calls g c = omega (arith, c.loop-line.invariant.calls, c.clear_line.ensures.calls)

pub returns-clause-calls : goal.returns-clause-calls
returns-clause-calls g c = omega (arith, c.loop-line.invariant.calls)
