use Rattle.std.proofs.Common.{sym, subst}
use Rattle.private_steps.specs.Ahead.{HasCome}
use Rattle.private_steps.specs.Waits.{WaitsUnless}
use Rattle.private_steps.proofs.thread_frames.Frames.finish.Goals as goal

pub returns-in-Paused-clause-waits : goal.returns-in-Paused-clause-waits
returns-in-Paused-clause-waits g c =
    let now = c.args.self.now in
    let come = subst (λ k. HasCome (g.H.Host.setting c.args.host.now) k c.requires.come.0 now) c.in-Paused.is
    c.requires.come.1 in
    subst (λ b. WaitsUnless b now.doing now.frames) (sym come.0) tt
