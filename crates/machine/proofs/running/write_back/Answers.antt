use Rattle.machine.proofs.Calling.{failed-comes-to, wrote-comes}
use Rattle.machine.proofs.running.write_back.Goals as goal

pub returns-in-Ok : goal.returns-in-Ok
returns-in-Ok g c = wrote-comes c.laws.ensures c.args.heap.now c.write_back.new.self c.args.t
    c.in-Ok.ensures.wrote c.in-Ok.ensures.cause.spared

pub returns-in-Err : goal.returns-in-Err
returns-in-Err g c = failed-comes-to c.laws.ensures c.args.heap.now c.write_back.new.self c.args.t
    c.in-Err.ensures.failed
    c.requires.room c.in-Err.ensures.cause.failed
