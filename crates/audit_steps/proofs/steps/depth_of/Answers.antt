use Rattle.std.proofs.Common.{◌∙◌, sym}
use Rattle.audit_steps.proofs.Histories.{depth-none, depth-there}
use Rattle.audit_steps.proofs.steps.depth_of.Goals as goal

pub returns-in-Some : goal.returns-in-Some
returns-in-Some c = depth-there c.args.threads.now c.args.t c.in-Some.state (sym c.in-Some.is ∙ c.get.ensures.state)

pub returns-in-None : goal.returns-in-None
returns-in-None c = depth-none c.args.threads.now c.args.t (sym c.in-None.is ∙ c.get.ensures.state)
