use Rattle.std.proofs.Common.{inl, arith}
use Rattle.std.proofs.lemmas.Result.{on_ok_weaker}
use Rattle.word_changes.specs.Changes.{Nothing}
use Rattle.word_changes.proofs.Changing.{changes_weaker, changes_more, changes_nowhere}
use Rattle.word_changes.proofs.Going.{goes_more, goes_by_call}
use Rattle.directories.specs.Formatting.{OfCleared, OfSuperblock, OfFront}
use Rattle.directories.proofs.Formats.{front_changes, front_done, front_fixed, fenced_changes, superblock_sized}
use Rattle.directories.proofs.Formats.{superblock_wrote, clearing_stops, super_stops}
use Rattle.directories.proofs.formatting.write_front.Goals as goal

pub returns-in_err-clear_front-clause-changes : goal.returns-in_err-clear_front-clause-changes
returns-in_err-clear_front-clause-changes g c =
    changes_weaker OfCleared (OfFront c.args.memory.now.size) c.args.memory.now c.clear_front.new.memory (λ l w v given. inl given)
    c.clear_front.ensures.changes

pub returns-in_err-clear_front-clause-order : goal.returns-in_err-clear_front-clause-order
returns-in_err-clear_front-clause-order g c tells =
    clearing_stops c.args.memory.now c.clear_front.new.memory c.clear_front.ensures.changes

pub returns-in_err-write_superblock-clause-changes : goal.returns-in_err-write_superblock-clause-changes
returns-in_err-write_superblock-clause-changes g c =
    front_changes c.args.memory.now.size c.args.memory.now c.clear_front.new.memory c.write_superblock.new.memory c.requires
    c.clear_front.ensures.changes
    (superblock_sized c.args.memory.now c.clear_front.new.memory c.write_superblock.new.memory
    c.clear_front.ensures.changes.size c.write_superblock.ensures.changes)

pub returns-in_err-write_superblock-clause-order : goal.returns-in_err-write_superblock-clause-order
returns-in_err-write_superblock-clause-order g c tells =
    super_stops c.args.memory.now.size c.args.memory.now c.clear_front.new.memory c.write_superblock.new.memory
    c.clear_front.ensures.changes (c.in_ok-clear_front.ensures.fixed tells)
    (superblock_sized c.args.memory.now c.clear_front.new.memory c.write_superblock.new.memory
    c.clear_front.ensures.changes.size c.write_superblock.ensures.changes)

pub returns-in_err-write_superblock-clause-goes_on : goal.returns-in_err-write_superblock-clause-goes_on
returns-in_err-write_superblock-clause-goes_on g c =
    goes_more c.args.memory.now c.clear_front.new.memory c.write_superblock.new.memory
    c.clear_front.ensures.goes_on c.write_superblock.ensures.goes_on

pub returns-clause-wrote : goal.returns-clause-wrote
returns-clause-wrote g c =
    on_ok_weaker c.make_fence.result
    (λ durable. front_done c.args.memory.now.size c.args.memory.now c.clear_front.new.memory c.write_superblock.new.memory c.requires
    c.clear_front.ensures.changes
    (superblock_sized c.args.memory.now c.clear_front.new.memory c.write_superblock.new.memory
    c.clear_front.ensures.changes.size c.write_superblock.ensures.changes)
    c.make_fence.new.memory c.make_fence.ensures.changes c.in_ok-clear_front.ensures.wrote
    (superblock_wrote c.args.memory.now c.clear_front.new.memory c.write_superblock.new.memory
    c.clear_front.ensures.changes.size c.in_ok-write_superblock.ensures.wrote))
    c.make_fence.ensures.durable

pub returns-clause-fixed : goal.returns-clause-fixed
returns-clause-fixed g c tells =
    on_ok_weaker c.make_fence.result
    (λ durable. front_fixed c.args.memory.now.size c.args.memory.now c.clear_front.new.memory c.write_superblock.new.memory c.requires
    c.clear_front.ensures.changes
    (superblock_sized c.args.memory.now c.clear_front.new.memory c.write_superblock.new.memory
    c.clear_front.ensures.changes.size c.write_superblock.ensures.changes)
    c.make_fence.new.memory c.make_fence.ensures.changes c.in_ok-clear_front.ensures.wrote
    (superblock_wrote c.args.memory.now c.clear_front.new.memory c.write_superblock.new.memory
    c.clear_front.ensures.changes.size c.in_ok-write_superblock.ensures.wrote)
    durable tells)
    c.make_fence.ensures.durable

pub returns-clause-changes : goal.returns-clause-changes
returns-clause-changes g c =
    fenced_changes c.args.memory.now.size c.args.memory.now c.clear_front.new.memory c.write_superblock.new.memory c.requires
    c.clear_front.ensures.changes
    (superblock_sized c.args.memory.now c.clear_front.new.memory c.write_superblock.new.memory
    c.clear_front.ensures.changes.size c.write_superblock.ensures.changes)
    c.make_fence.new.memory c.make_fence.ensures.changes

pub returns-clause-order : goal.returns-clause-order
returns-clause-order g c tells =
    let Super = OfSuperblock c.args.memory.now.size in
    super_stops c.args.memory.now.size c.args.memory.now c.clear_front.new.memory c.make_fence.new.memory
    c.clear_front.ensures.changes (c.in_ok-clear_front.ensures.fixed tells)
    (changes_more Super c.clear_front.new.memory c.write_superblock.new.memory c.make_fence.new.memory
    (superblock_sized c.args.memory.now c.clear_front.new.memory c.write_superblock.new.memory
    c.clear_front.ensures.changes.size c.write_superblock.ensures.changes)
    (changes_nowhere Super c.write_superblock.new.memory c.make_fence.new.memory c.make_fence.ensures.changes))

pub returns-clause-goes_on : goal.returns-clause-goes_on
returns-clause-goes_on g c =
    goes_more c.args.memory.now c.write_superblock.new.memory c.make_fence.new.memory
    (goes_more c.args.memory.now c.clear_front.new.memory c.write_superblock.new.memory
    c.clear_front.ensures.goes_on c.write_superblock.ensures.goes_on)
    (goes_by_call Nothing c.write_superblock.new.memory c.make_fence.new.memory c.make_fence.ensures.changes c.make_fence.ensures.count)

pub returns-in_err-clear_front-clause-calls : goal.returns-in_err-clear_front-clause-calls
returns-in_err-clear_front-clause-calls g c = omega (arith, c.clear_front.ensures.calls)

pub returns-in_err-write_superblock-clause-calls : goal.returns-in_err-write_superblock-clause-calls
returns-in_err-write_superblock-clause-calls g c = omega (arith, c.clear_front.ensures.calls, c.write_superblock.ensures.calls)

pub returns-clause-calls : goal.returns-clause-calls
returns-clause-calls g c = omega (arith, c.clear_front.ensures.calls, c.write_superblock.ensures.calls, c.make_fence.ensures.count.calls)
