use Rattle.workers.proofs.locked.Locked+J+I+S+W.look.Goals as goal

pub returns-clause-done : goal.returns-clause-done
returns-clause-done g c = λ done. absurd (c.loop-n.invariant done)
