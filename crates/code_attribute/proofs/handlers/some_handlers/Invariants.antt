use Rattle.std.proofs.Common.{◌≡◌, ◌-◌}
use Rattle.parsing.specs.Results.{many_from}
use Rattle.parsing.proofs.Loops.{with_front}
use Rattle.code_attribute.specs.Code.{handler_at}
use Rattle.code_attribute.proofs.handlers.some_handlers.Given as goal

abbrev pub invariant-loop : goal.invariant-loop
invariant-loop l = with_front l.handlers.items
    (many_from (handler_at l.pool l.starts l.size) (l.count - l.counter) l.file) ≡ many_from
    (handler_at l.pool l.starts l.size) l.count l.initial.file
