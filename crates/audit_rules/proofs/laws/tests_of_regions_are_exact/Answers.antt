use Rattle.audit_rules.proofs.Regions.{regions-tested}
use Rattle.audit_rules.proofs.laws.tests_of_regions_are_exact.Goals as goal

pub returns : goal.returns
returns c = regions-tested
