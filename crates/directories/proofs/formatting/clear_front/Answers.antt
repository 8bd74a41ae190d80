use Rattle.std.proofs.Common.{arith}
use Rattle.std.proofs.lemmas.Result.{on_ok_weaker}
use Rattle.word_changes.specs.Changes.{Nothing}
use Rattle.word_changes.proofs.Going.{goes_more, goes_by_call}
use Rattle.directories.proofs.Formats.{of_slots, slots_counts, cleared_changes, cleared_wrote, cleared_fixed}
use Rattle.directories.proofs.formatting.clear_front.Goals as goal

pub returns-in_err-clear_slots-clause-changes : goal.returns-in_err-clear_slots-clause-changes
returns-in_err-clear_slots-clause-changes g c = of_slots c.args.memory.now c.clear_slots.new.memory c.clear_slots.ensures.changes

pub returns-in_err-clear_counts-clause-changes : goal.returns-in_err-clear_counts-clause-changes
returns-in_err-clear_counts-clause-changes g c =
    slots_counts c.args.memory.now c.clear_slots.new.memory c.clear_counts.new.memory
    c.clear_slots.ensures.changes c.clear_counts.ensures.changes

pub returns-in_err-clear_counts-clause-goes_on : goal.returns-in_err-clear_counts-clause-goes_on
returns-in_err-clear_counts-clause-goes_on g c =
    goes_more c.args.memory.now c.clear_slots.new.memory c.clear_counts.new.memory c.clear_slots.ensures.goes_on c.clear_counts.ensures.goes_on

pub returns-clause-wrote : goal.returns-clause-wrote
returns-clause-wrote g c =
    on_ok_weaker c.make_fence.result
    (λ durable. cleared_wrote c.args.memory.now c.clear_slots.new.memory c.clear_counts.new.memory c.make_fence.new.memory
    c.requires c.clear_slots.ensures.changes c.clear_counts.ensures.changes c.make_fence.ensures.changes
    c.in_ok-clear_slots.ensures.wrote c.in_ok-clear_counts.ensures.wrote)
    c.make_fence.ensures.durable

pub returns-clause-fixed : goal.returns-clause-fixed
returns-clause-fixed g c tells =
    on_ok_weaker c.make_fence.result
    (λ durable. cleared_fixed c.args.memory.now c.clear_slots.new.memory c.clear_counts.new.memory c.make_fence.new.memory
    c.requires c.clear_slots.ensures.changes c.clear_counts.ensures.changes c.make_fence.ensures.changes
    c.in_ok-clear_slots.ensures.wrote c.in_ok-clear_counts.ensures.wrote durable tells)
    c.make_fence.ensures.durable

pub returns-clause-changes : goal.returns-clause-changes
returns-clause-changes g c =
    cleared_changes c.args.memory.now c.clear_slots.new.memory c.clear_counts.new.memory c.make_fence.new.memory
    c.clear_slots.ensures.changes c.clear_counts.ensures.changes c.make_fence.ensures.changes

pub returns-clause-goes_on : goal.returns-clause-goes_on
returns-clause-goes_on g c =
    goes_more c.args.memory.now c.clear_counts.new.memory c.make_fence.new.memory
    (goes_more c.args.memory.now c.clear_slots.new.memory c.clear_counts.new.memory c.clear_slots.ensures.goes_on c.clear_counts.ensures.goes_on)
    (goes_by_call Nothing c.clear_counts.new.memory c.make_fence.new.memory c.make_fence.ensures.changes c.make_fence.ensures.count)

pub returns-in_err-clear_slots-clause-calls : goal.returns-in_err-clear_slots-clause-calls
returns-in_err-clear_slots-clause-calls g c = omega (arith, c.clear_slots.ensures.calls)

pub returns-in_err-clear_counts-clause-calls : goal.returns-in_err-clear_counts-clause-calls
returns-in_err-clear_counts-clause-calls g c = omega (arith, c.clear_slots.ensures.calls, c.clear_counts.ensures.calls)

pub returns-clause-calls : goal.returns-clause-calls
returns-clause-calls g c = omega (arith, c.clear_slots.ensures.calls, c.clear_counts.ensures.calls, c.make_fence.ensures.count.calls)
