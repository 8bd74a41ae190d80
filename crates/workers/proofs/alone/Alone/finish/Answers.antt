use Rattle.workers.proofs.alone.Alone.finish.Goals as goal

pub returns-clause-knows : goal.returns-clause-knows
returns-clause-knows g c = rw (← c.self.view_is) c.self.invariant.0

pub returns-clause-sink : goal.returns-clause-sink
returns-clause-sink g c = c.self.invariant.1
