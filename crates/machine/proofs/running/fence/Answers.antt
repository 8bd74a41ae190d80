use Rattle.machine.proofs.Calling.{failed-comes-to, fenced-comes-to}
use Rattle.machine.proofs.running.fence.Goals as goal

pub returns-in-Ok : goal.returns-in-Ok
returns-in-Ok g c = fenced-comes-to c.laws.ensures c.args.heap.now c.fence.new.self c.args.t
    c.in-Ok.ensures.fenced c.requires.room c.in-Ok.ensures.cause.spared

pub returns-in-Err : goal.returns-in-Err
returns-in-Err g c = failed-comes-to c.laws.ensures c.args.heap.now c.fence.new.self c.args.t c.in-Err.ensures.failed
    c.requires.room c.in-Err.ensures.cause.failed
