use Rattle.std.proofs.Common.{◌≡◌, ◌++◌, map, take, drop}
use Rattle.convert_queue.specs.Notes.{without_write}
use Rattle.convert_queue.proofs.line_marks.forget_writes.Given as goal

abbrev pub invariant-loop-i : goal.invariant-loop-i
invariant-loop-i l = l.notes.items ≡ map without_write (take l.i l.initial.notes.items) ++ drop l.i l.initial.notes.items
