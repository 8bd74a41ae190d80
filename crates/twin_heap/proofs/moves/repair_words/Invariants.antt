use Rattle.std.specs.Prelude.{slice_index}
use Rattle.line_memory.specs.Memory.{IsResident, shown}
use Rattle.twin_forms.specs.Table.{is_reference}
use Rattle.twin_forms.specs.Moves.{repaired}
use Rattle.twin_heap.specs.Here.{IsFilled, kind_in_line}
use Rattle.twin_heap.proofs.moves.repair_words.Given as goal

abbrev pub invariant-loop-word : goal.invariant-loop-word
invariant-loop-word g l = record {
  filled : IsFilled l.line l.from l.word (λ w. repaired (slice_index l.space.words) (is_reference (kind_in_line l.marks.kinds l.shape l.c w)) (shown l.fn.memory l.line w)) l.fn.memory l.memory;
  resident : IsResident l.memory l.line;
}
