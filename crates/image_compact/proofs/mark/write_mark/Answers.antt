use Rattle.std.proofs.lemmas.Result.{on_ok_weaker}
use Rattle.std.proofs.Common.{arith}
use Rattle.image_layout.specs.Places.{magic}
use Rattle.word_changes.specs.Changes.{Nothing, IsGiven}
use Rattle.word_changes.proofs.Changing.{changes_more, changes_nowhere}
use Rattle.word_changes.proofs.Going.{goes_more, goes_by_call}
use Rattle.word_changes.proofs.Writing.{fence_wrote}
use Rattle.image_compact.proofs.LineWords.{fenced_wrote, mark_within}
use Rattle.image_compact.proofs.mark.write_mark.Goals as goal

pub returns-clause-wrote : goal.returns-clause-wrote
returns-clause-wrote g c =
    on_ok_weaker c.make_fence.result
    (λ durable. fenced_wrote (IsGiven 0 0 magic) c.args.memory.now c.write_word.new.memory c.make_fence.new.memory c.write_word.ensures.changes
    (mark_within c.write_word.new.memory.size (omega (arith, c.requires, c.write_word.ensures.changes.size)))
    c.in_ok-write_word.ensures.wrote c.make_fence.ensures.changes)
    c.make_fence.ensures.durable

pub returns-clause-fixed : goal.returns-clause-fixed
returns-clause-fixed g c tells =
    on_ok_weaker c.make_fence.result
    (λ durable. fence_wrote (IsGiven 0 0 magic) (IsGiven 0 0 magic) c.args.memory.now c.write_word.new.memory c.make_fence.new.memory
    c.write_word.ensures.changes
    (mark_within c.write_word.new.memory.size (omega (arith, c.requires, c.write_word.ensures.changes.size)))
    c.in_ok-write_word.ensures.wrote c.make_fence.ensures.changes durable tells)
    c.make_fence.ensures.durable

pub returns-clause-changes : goal.returns-clause-changes
returns-clause-changes g c =
    changes_more (IsGiven 0 0 magic) c.args.memory.now c.write_word.new.memory c.make_fence.new.memory c.write_word.ensures.changes
    (changes_nowhere (IsGiven 0 0 magic) c.write_word.new.memory c.make_fence.new.memory c.make_fence.ensures.changes)

pub returns-clause-goes_on : goal.returns-clause-goes_on
returns-clause-goes_on g c =
    goes_more c.args.memory.now c.write_word.new.memory c.make_fence.new.memory c.write_word.ensures.goes_on
    (goes_by_call Nothing c.write_word.new.memory c.make_fence.new.memory c.make_fence.ensures.changes c.make_fence.ensures.count)
