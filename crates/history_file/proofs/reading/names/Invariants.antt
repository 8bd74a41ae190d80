use Rattle.std.proofs.Common.{◌≡◌, ◌-◌}
use Rattle.parsing.specs.Results.{many_from}
use Rattle.parsing.proofs.Loops.{with_front}
use Rattle.history_file.specs.Reading.{number_at}
use Rattle.history_file.proofs.reading.names.Given as goal

abbrev pub invariant-loop : goal.invariant-loop
invariant-loop l = record {
  acts : l.acts.acts ≡ l.initial.acts.acts;
  limit : l.acts.limit ≡ l.initial.acts.limit;
  room : l.acts.room ≡ l.count - l.counter;
  read : with_front l.acts.named (many_from number_at (l.count - l.counter) l.rest) ≡ many_from number_at l.count l.bytes;
}
