use Rattle.std.proofs.Common.{inr, refl, sym, ◌∙◌}
use Rattle.machine.proofs.Answering.{comes-serves}
use Rattle.machine.proofs.Given.{end-asked}
use Rattle.machine.proofs.running.go_on.Goals as goal

pub returns-then-is_logging-clause-serves : goal.returns-then-is_logging-clause-serves
returns-then-is_logging-clause-serves g c =
    comes-serves (g.C.Types.facts c.args.set.now) c.args.heap.now c.log.new.heap c.args.t c.args.request.now c.log.result
    c.log.ensures (g.S.Sink.takes c.args.sink.now) (g.S.Sink.taken c.args.sink.now)
    (g.S.Sink.faults c.args.sink.now)

pub end-requires-clause-is_end : goal.end-requires-clause-is_end
end-requires-clause-is_end g c =
    let (o, first, es, threads, fs, due) = c.requires.due in
    end-asked o first (g.C.Types.facts c.args.set.now) c.args.heap.now es threads c.args.t fs c.args.request.now due
    (sym c.is_ending.ensures ∙ c.if-is_ending.true)

pub returns-then-is_logging-clause-either : goal.returns-then-is_logging-clause-either
returns-then-is_logging-clause-either g c = inr refl
