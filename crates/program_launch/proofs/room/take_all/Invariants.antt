-- What is left are the words that the objects so far don't take.
use Rattle.std.proofs.Common.{◌≡◌, ◌+◌, take}
use Rattle.std.specs.Prelude.{sum_by}
use Rattle.program_launch.proofs.Rooms.{text_words}
use Rattle.program_launch.proofs.room.take_all.Given as goal

abbrev pub invariant-loop-text : goal.invariant-loop-text
invariant-loop-text l = l.fn.words ≡ l.left + (6 + sum_by text_words (take l.text-index l.literals))
