use Rattle.std.proofs.Common.{◌≡◌, ◌≤◌, ◌-◌, false, vec_len}
use Rattle.const_pool.specs.Reading.{slots_from, counted_slots}
use Rattle.parsing.proofs.Loops.{with_front}
use Rattle.const_pool.proofs.reading.slots.Given as goal

abbrev pub invariant-entries : goal.invariant-entries
invariant-entries l = record {
  within : vec_len l.slots ≤ l.count;
  so_far : with_front l.slots.items (slots_from false (l.count - vec_len l.slots) l.count l.file) ≡ counted_slots l.count l.initial.file;
}

abbrev pub decreases-entries : goal.decreases-entries
decreases-entries l = l.count - vec_len l.slots
