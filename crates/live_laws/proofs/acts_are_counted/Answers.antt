use Rattle.live_laws.proofs.Following.{counted}
use Rattle.live_laws.proofs.acts_are_counted.Goals as goal

pub returns : goal.returns
returns c first acts = counted first acts
