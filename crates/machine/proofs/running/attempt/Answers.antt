use Rattle.machine.proofs.Answering.{comes-serves}
use Rattle.std.proofs.Common.{inr, refl}
use Rattle.machine.proofs.running.attempt.Goals as goal

pub returns-in-Writing-clause-serves : goal.returns-in-Writing-clause-serves
returns-in-Writing-clause-serves g c =
    comes-serves (g.C.Types.facts c.args.set.now) c.args.heap.now c.write_back.new.heap c.args.t c.args.request.now
    c.write_back.result c.write_back.ensures (g.S.Sink.takes c.args.sink.now) (g.S.Sink.taken c.args.sink.now)
    (g.S.Sink.faults c.args.sink.now)

pub returns-in-Fencing-clause-serves : goal.returns-in-Fencing-clause-serves
returns-in-Fencing-clause-serves g c =
    comes-serves (g.C.Types.facts c.args.set.now) c.args.heap.now c.fence.new.heap c.args.t c.args.request.now
    c.fence.result c.fence.ensures (g.S.Sink.takes c.args.sink.now) (g.S.Sink.taken c.args.sink.now)
    (g.S.Sink.faults c.args.sink.now)

pub returns-in-Writing-clause-either : goal.returns-in-Writing-clause-either
returns-in-Writing-clause-either g c = inr refl

pub returns-in-Fencing-clause-either : goal.returns-in-Fencing-clause-either
returns-in-Fencing-clause-either g c = inr refl
