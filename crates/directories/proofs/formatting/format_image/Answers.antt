use Rattle.std.proofs.Common.{arith}
use Rattle.std.proofs.lemmas.Result.{on_ok_weaker}
use Rattle.word_changes.specs.Changes.{Nothing}
use Rattle.word_changes.proofs.Going.{goes_more, goes_by_call}
use Rattle.word_changes.proofs.Writing.{durable_stays}
use Rattle.directories.specs.Formatting.{OfLayout}
use Rattle.directories.proofs.Formats.{front_of_layout, marked_changes, marked_fenced, marked_shown, marked_fixed, front_stops}
use Rattle.directories.proofs.Formats.{layout_stops, fence_behind, mark_stops}
use Rattle.directories.proofs.formatting.format_image.Goals as goal

pub returns-in_err-write_front-clause-changes : goal.returns-in_err-write_front-clause-changes
returns-in_err-write_front-clause-changes g c =
    front_of_layout c.args.memory.now.size c.args.memory.now c.write_front.new.memory c.write_front.ensures.changes

pub returns-in_err-write_front-clause-stops : goal.returns-in_err-write_front-clause-stops
returns-in_err-write_front-clause-stops g c tells blank =
    front_stops c.args.memory.now.size c.args.memory.now c.write_front.new.memory blank c.write_front.ensures.changes

pub returns-in_err-write_word-clause-changes : goal.returns-in_err-write_word-clause-changes
returns-in_err-write_word-clause-changes g c =
    marked_changes c.args.memory.now.size c.args.memory.now c.write_front.new.memory c.write_word.new.memory c.write_word.new.memory
    c.requires c.write_front.ensures.changes c.write_word.ensures.changes

pub returns-in_err-write_word-clause-stops : goal.returns-in_err-write_word-clause-stops
returns-in_err-write_word-clause-stops g c tells blank =
    layout_stops c.args.memory.now.size c.args.memory.now c.write_front.new.memory blank c.write_front.ensures.changes
    c.write_word.new.memory (c.in_ok-write_front.ensures.fixed tells) c.write_word.ensures.changes

pub returns-in_err-write_word-clause-goes_on : goal.returns-in_err-write_word-clause-goes_on
returns-in_err-write_word-clause-goes_on g c =
    goes_more c.args.memory.now c.write_front.new.memory c.write_word.new.memory c.write_front.ensures.goes_on c.write_word.ensures.goes_on

pub returns-clause-formatted : goal.returns-clause-formatted
returns-clause-formatted g c known =
    on_ok_weaker c.make_fence.result
    (λ durable. marked_shown c.args.memory.now.size c.args.memory.now c.write_front.new.memory c.write_word.new.memory c.make_fence.new.memory
    c.requires c.write_front.ensures.changes c.write_word.ensures.changes
    c.make_fence.ensures.changes c.in_ok-write_front.ensures.wrote c.in_ok-write_word.ensures.wrote known)
    c.make_fence.ensures.durable

pub returns-clause-fixed : goal.returns-clause-fixed
returns-clause-fixed g c tells =
    on_ok_weaker c.make_fence.result
    (λ durable. marked_fixed c.args.memory.now.size c.args.memory.now c.write_front.new.memory c.write_word.new.memory c.make_fence.new.memory
    c.requires c.write_front.ensures.changes c.write_word.ensures.changes
    c.make_fence.ensures.changes c.in_ok-write_front.ensures.wrote c.in_ok-write_word.ensures.wrote durable tells)
    c.make_fence.ensures.durable

pub returns-clause-changes : goal.returns-clause-changes
returns-clause-changes g c =
    marked_fenced c.args.memory.now.size c.args.memory.now c.write_front.new.memory c.write_word.new.memory c.make_fence.new.memory
    c.requires c.write_front.ensures.changes c.write_word.ensures.changes
    c.make_fence.ensures.changes

pub returns-clause-stops : goal.returns-clause-stops
returns-clause-stops g c tells blank =
    layout_stops c.args.memory.now.size c.args.memory.now c.write_front.new.memory blank c.write_front.ensures.changes
    c.make_fence.new.memory (c.in_ok-write_front.ensures.fixed tells)
    (fence_behind c.write_front.new.memory c.write_word.new.memory c.make_fence.new.memory c.write_word.ensures.changes c.make_fence.ensures.changes)

pub returns-clause-goes_on : goal.returns-clause-goes_on
returns-clause-goes_on g c =
    goes_more c.args.memory.now c.write_word.new.memory c.make_fence.new.memory
    (goes_more c.args.memory.now c.write_front.new.memory c.write_word.new.memory c.write_front.ensures.goes_on c.write_word.ensures.goes_on)
    (goes_by_call Nothing c.write_word.new.memory c.make_fence.new.memory c.make_fence.ensures.changes c.make_fence.ensures.count)

pub returns-clause-durable : goal.returns-clause-durable
returns-clause-durable g c tells l w was =
    on_ok_weaker c.make_fence.result
    (λ durable. durable_stays (OfLayout c.args.memory.now.size) c.args.memory.now c.make_fence.new.memory
    (marked_fenced c.args.memory.now.size c.args.memory.now c.write_front.new.memory c.write_word.new.memory c.make_fence.new.memory
    c.requires c.write_front.ensures.changes c.write_word.ensures.changes
    c.make_fence.ensures.changes)
    (marked_fixed c.args.memory.now.size c.args.memory.now c.write_front.new.memory c.write_word.new.memory c.make_fence.new.memory
    c.requires c.write_front.ensures.changes c.write_word.ensures.changes
    c.make_fence.ensures.changes c.in_ok-write_front.ensures.wrote c.in_ok-write_word.ensures.wrote durable tells)
    l w was)
    c.make_fence.ensures.durable

pub returns-in_err-write_word-clause-order : goal.returns-in_err-write_word-clause-order
returns-in_err-write_word-clause-order g c tells =
    mark_stops c.args.memory.now.size c.args.memory.now c.write_front.new.memory c.write_word.new.memory
    (c.write_front.ensures.order tells) (c.in_ok-write_front.ensures.fixed tells) c.write_word.ensures.changes

pub returns-clause-order : goal.returns-clause-order
returns-clause-order g c tells =
    mark_stops c.args.memory.now.size c.args.memory.now c.write_front.new.memory c.make_fence.new.memory
    (c.write_front.ensures.order tells) (c.in_ok-write_front.ensures.fixed tells)
    (fence_behind c.write_front.new.memory c.write_word.new.memory c.make_fence.new.memory c.write_word.ensures.changes c.make_fence.ensures.changes)

pub returns-in_err-write_front-clause-calls : goal.returns-in_err-write_front-clause-calls
returns-in_err-write_front-clause-calls g c = omega (arith, c.write_front.ensures.calls)

pub returns-in_err-write_word-clause-calls : goal.returns-in_err-write_word-clause-calls
returns-in_err-write_word-clause-calls g c = omega (arith, c.write_front.ensures.calls, c.write_word.ensures.calls)

pub returns-clause-calls : goal.returns-clause-calls
returns-clause-calls g c = omega (arith, c.write_front.ensures.calls, c.write_word.ensures.calls, c.make_fence.ensures.count.calls)
