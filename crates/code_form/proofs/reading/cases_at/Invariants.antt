use Rattle.std.proofs.Common.{◌≡◌, ◌-◌}
use Rattle.parsing.specs.Results.{many_from}
use Rattle.code_form.specs.Reading.{case_at}
use Rattle.parsing.proofs.Loops.{with_front}
use Rattle.code_form.proofs.reading.cases_at.Given as goal

abbrev pub invariant-loop : goal.invariant-loop
invariant-loop l = with_front l.cases.items (many_from (case_at l.pc) (l.count - l.counter) l.rest)
    ≡ many_from (case_at l.pc) l.count l.bytes
