use Rattle.std.proofs.Common.{inr}
use Rattle.plain_heap.specs.Heaps.{shown_of}
use Rattle.plain_machine.proofs.Undoing.{may-some}
use Rattle.plain_machine.proofs.world.may_be.Goals as goal

pub returns-in-None-clause-may : goal.returns-in-None-clause-may
returns-in-None-clause-may c set agrees asks roots taken p e =
    inr (c.in-None.ensures.op set agrees asks roots taken p e)

pub returns-in-Some-clause-may : goal.returns-in-Some-clause-may
returns-in-Some-clause-may c set agrees asks =
    may-some set c.args.t c.args.request.now c.args.op.now (shown_of c.args.heap.now) c.args.rest.now
    c.in-Some.only c.is_same.result c.is_same.ensures (c.in-Some.ensures.op set agrees asks)
