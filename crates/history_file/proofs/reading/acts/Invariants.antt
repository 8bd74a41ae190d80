use Rattle.std.proofs.Common.{◌≡◌, ◌-◌, [], length}
use Rattle.parsing.specs.Results.{many_from}
use Rattle.parsing.proofs.Loops.{with_front}
use Rattle.history_file.specs.Reading.{act_at}
use Rattle.history_file.proofs.reading.acts.Given as goal

abbrev pub invariant-loop : goal.invariant-loop
invariant-loop l = record {
  none : l.acts.named ≡ [];
  count : length l.acts.acts ≡ l.counter;
  read : with_front l.acts.acts (many_from act_at (l.count - l.counter) l.rest) ≡ many_from act_at l.count l.bytes;
}
