use Rattle.std.proofs.Common.{arith, subst, sym}
use Rattle.machine.specs.Ended.{StoreComesTo}
use Rattle.machine.proofs.Conversions.{failed-comes-of, went-comes-to}
use Rattle.machine.proofs.Leaving.{converts-now}
use Rattle.machine.proofs.converting.step.Goals as goal

pub convert-requires-clause-converts : goal.convert-requires-clause-converts
convert-requires-clause-converts g c =
    let (o, first, set, es, threads, fs, request, h) = c.requires.planned in
    (es, converts-now c.laws.ensures o first set c.args.heap.now es threads c.args.t fs request h.due)

pub convert-requires-clause-room : goal.convert-requires-clause-room
convert-requires-clause-room g c =
    let (o, first, set, es, threads, fs, request, h) = c.requires.planned in
    let room = h.due.running.room in omega (arith, room)

pub returns-in-Ok : goal.returns-in-Ok
returns-in-Ok g c =
    subst (λ result. StoreComesTo c.args.t c.args.store.now result c.args.heap.now c.convert.new.self)
    (sym c.went.ensures.event)
    (went-comes-to c.laws.ensures c.args.heap.now c.convert.new.self c.args.t c.args.store.now c.requires.first.0
    c.requires.apart c.requires.first.1 c.requires.room
    c.requires.doing c.in-Ok.ensures.cause.spared c.in-Ok.did c.went.ensures.thread
    c.in-Ok.ensures.converts c.requires.planned)

pub returns-in-Err : goal.returns-in-Err
returns-in-Err g c =
    failed-comes-of c.laws.ensures c.args.heap.now c.convert.new.self c.args.t c.args.store.now c.requires.first.0
    c.requires.apart c.requires.first.1 c.requires.room
    c.requires.doing
    c.in-Err.ensures.failed c.in-Err.ensures.cause.failed c.requires.planned
