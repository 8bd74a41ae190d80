use Rattle.std.proofs.Common.{◌≡◌, ◌-◌}
use Rattle.std.specs.Int.{w32}
use Rattle.parsing.specs.Results.{many_from}
use Rattle.code_form.specs.Reading.{target_at}
use Rattle.parsing.proofs.Loops.{with_front}
use Rattle.code_form.proofs.reading.targets_at.Given as goal

abbrev pub invariant-loop : goal.invariant-loop
invariant-loop l = with_front l.targets.items (many_from (target_at l.pc w32) (l.count - l.counter) l.rest)
    ≡ many_from (target_at l.pc w32) l.count l.bytes
