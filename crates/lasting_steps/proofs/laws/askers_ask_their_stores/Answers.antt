use Rattle.lasting_steps.proofs.Asking.{acts_keep_asking, askers_live, other_acts_keep_asking}
use Rattle.lasting_steps.proofs.laws.askers_ask_their_stores.Goals as goal

pub returns-clause-acts : goal.returns-clause-acts
returns-clause-acts g c = acts_keep_asking

pub returns-clause-others : goal.returns-clause-others
returns-clause-others g c = other_acts_keep_asking

pub returns-clause-live : goal.returns-clause-live
returns-clause-live g c = askers_live
