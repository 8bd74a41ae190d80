use Rattle.std.proofs.Common.{◌+◌, ◌/◌}
use Rattle.std.specs.Prelude.{slice_index}
use Rattle.line_memory.specs.Memory.{IsResident}
use Rattle.twin_forms.specs.Moves.{copy_word}
use Rattle.twin_heap.specs.Here.{IsFilled}
use Rattle.twin_heap.proofs.moves.copy_words.Given as goal

abbrev pub invariant-loop-word : goal.invariant-loop-word
invariant-loop-word g l = record {
  filled : IsFilled l.line 0 l.word (λ w. copy_word (slice_index l.space.words) l.head l.base (l.head / 4294967296) (l.start + w)) l.fn.memory l.memory;
  resident : IsResident l.memory l.line;
}
