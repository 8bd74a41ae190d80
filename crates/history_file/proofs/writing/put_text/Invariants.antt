use Rattle.std.proofs.Common.{◌≡◌, ◌++◌, ◌-◌, ◌≤◌, length, replicate}
use Rattle.history_file.specs.Spelling.{word}
use Rattle.history_file.proofs.writing.put_text.Given as goal

abbrev pub invariant-loop : goal.invariant-loop
invariant-loop l = record {
  past : length l.text ≤ l.counter;
  put : l.out.items ≡ l.fn.out.items ++ (word (length l.text) ++ (l.text ++ replicate (l.counter - length l.text) 0));
}
