use Rattle.std.proofs.Common.{inr, subst}
use Rattle.assembly.specs.Assembling.{IsOfListing}
use Rattle.assembly.proofs.assembling.put_class_of.Goals as goal

pub returns-clause-source_fault : goal.returns-clause-source_fault
returns-clause-source_fault g c = λ is. absurd (subst IsOfListing is c.in-Err.ensures.of)

pub returns-clause-sink_fault : goal.returns-clause-sink_fault
returns-clause-sink_fault g c = λ is. absurd (subst IsOfListing is c.in-Err.ensures.of)

pub returns-clause-of : goal.returns-clause-of
returns-clause-of g c = inr (inr (inr c.in-Err.ensures.of))
