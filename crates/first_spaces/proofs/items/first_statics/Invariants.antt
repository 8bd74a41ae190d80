use Rattle.std.proofs.Common.{take}
use Rattle.first_spaces.specs.Items.{BeginAll}
use Rattle.first_spaces.proofs.items.first_statics.Given as goal

abbrev pub invariant-loop-field : goal.invariant-loop-field
invariant-loop-field l = BeginAll l.fn.stream l.literals (take l.field-index l.fields) l.statics.items
