use Rattle.mirror_image.proofs.Halfway.{yields_low, yields_then, keeps_lead_same}
use Rattle.mirror_image.proofs.pairing.lead.Goals as goal

pub returns-in_err-raise-clause-yields : goal.returns-in_err-raise-clause-yields
returns-in_err-raise-clause-yields g c = yields_low c.args.line _ _ _ c.raise.ensures.low

pub returns-clause-leading : goal.returns-clause-leading
returns-clause-leading g c = keeps_lead_same c.args.line c.args.generation _ _ _ c.raise.ensures.leading c.follow.ensures.same

pub returns-clause-yields : goal.returns-clause-yields
returns-clause-yields g c = yields_then c.args.line c.args.generation _ _ _ _ _ c.in_ok-raise.ensures.leader c.raise.ensures.low c.follow.ensures.yields
