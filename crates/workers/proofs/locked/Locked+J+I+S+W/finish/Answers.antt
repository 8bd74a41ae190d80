use Rattle.std.proofs.Common.{ap, subst}
use Rattle.workers.specs.Held.{Held, Knows}
use Rattle.workers.specs.Shared.{Desked}
use Rattle.workers.proofs.locked.Locked+J+I+S+W.finish.Goals as goal

pub returns-clause-knows : goal.returns-clause-knows
returns-clause-knows g c =
    subst (λ (k : Held). Knows g.J.Naming.entry k (g.S.Sink.takes c.self.inside.sink)) (ap (λ (d : Desked). d.run) c.self.view_is)
    c.self.invariant.0

pub returns-clause-sink : goal.returns-clause-sink
returns-clause-sink g c = c.self.invariant.2
