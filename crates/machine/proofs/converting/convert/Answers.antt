use Rattle.std.proofs.Common.{◌∙◌}
use Rattle.machine.proofs.Asking.{asked-comes-to}
use Rattle.machine.proofs.converting.convert.Goals as goal

pub step-requires-clause-first : goal.step-requires-clause-first
step-requires-clause-first g c = (c.args.object, c.requires.first)

pub returns : goal.returns
returns g c =
    asked-comes-to c.laws.ensures c.args.heap.now c.ask.new.self c.args.t c.args.store.now c.args.object
    c.requires.apart c.requires.room
    (λ is. c.in_default.not-Converting (c.doing.ensures ∙ is))
    c.requires.first c.ask.ensures.asked

pub step-requires-clause-begun : goal.step-requires-clause-begun
step-requires-clause-begun g c = c.is_converting.ensures.0 c.if-is_converting.true
