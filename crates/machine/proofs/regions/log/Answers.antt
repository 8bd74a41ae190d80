use Rattle.machine.proofs.Logging.{logged-comes-to, logging-failed-comes-to}
use Rattle.machine.proofs.regions.log.Goals as goal

pub returns-in-Ok : goal.returns-in-Ok
returns-in-Ok g c = logged-comes-to c.laws.ensures c.args.heap.now c.log_next.new.self c.args.t c.in-Ok.field-0
    c.in-Ok.ensures.logs
    c.in-Ok.ensures.cause.spared

pub returns-in-Err : goal.returns-in-Err
returns-in-Err g c = logging-failed-comes-to c.laws.ensures c.args.heap.now c.log_next.new.self c.args.t
    c.in-Err.ensures.failed c.requires.room c.in-Err.ensures.cause.failed
