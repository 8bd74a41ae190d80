use Rattle.audit_call.proofs.Suited.{opened_suits}
use Rattle.audit_call.proofs.laws.opened_images_suit.Goals as goal

pub returns : goal.returns
returns c = record { suit = opened_suits }
